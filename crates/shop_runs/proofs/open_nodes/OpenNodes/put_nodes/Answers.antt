use Rattle.std.proofs.Common.{arith, ◌-◌, ◌∷◌, [], take, subst}
use Rattle.shop_runs.proofs.PutLemmas.{IsLeftToPut, part_put, part_fits, last_taken}
use Rattle.shop_runs.proofs.open_nodes.OpenNodes.put_nodes.Goals as goal

pub loop-left-preserved : goal.loop-left-preserved
loop-left-preserved c =
    let ns = c.args.nodes.now
    in let k = c.loop-left.left - 1
    in let n = c.index-nodes-left.result
    in let now = c.loop-left
    in let next = c.put_copy.new
    in let some = c.loop-left-test.true
    in let within = now.invariant.within
    in let more = last_taken ns now.left n some within c.index-nodes-left.is
    in record {
      within = omega arith;
      rest = part_put c.args.limit ns c.args.self.now c.args.distant.now (take k ns) (n ∷ []) now.self next.self
          now.distant next.distant
          (subst (λ rs. IsLeftToPut c.args.limit ns c.args.self.now c.args.distant.now rs now.self now.distant) more
          now.invariant.rest) c.in_ok-put_copy.ensures;
    }

pub put_copy-requires-clause-fits : goal.put_copy-requires-clause-fits
put_copy-requires-clause-fits c =
    let ns = c.args.nodes.now
    in let n = c.index-nodes-left.result
    in let now = c.loop-left
    in let some = c.loop-left-test.true
    in let within = now.invariant.within
    in part_fits c.args.limit ns c.args.self.now c.args.distant.now (take (now.left - 1) ns) (n ∷ []) now.self
    now.distant c.requires.fits
    (subst (λ rs. IsLeftToPut c.args.limit ns c.args.self.now c.args.distant.now rs now.self now.distant)
    (last_taken ns now.left n some within c.index-nodes-left.is) now.invariant.rest)
