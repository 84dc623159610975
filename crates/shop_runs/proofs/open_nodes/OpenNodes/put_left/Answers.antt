use Rattle.std.proofs.{Common.{◌≡◌, ◌++◌, [], sym, ◌∙◌, ap, subst}, lemmas.List.flat_map_more}
use Rattle.shop_runs.{specs.inner.Outcomes.{open_of, left_open}, proofs.PutLemmas.{IsLeftToPut, part_put, part_fits}}
use Rattle.shop_runs.proofs.open_nodes.OpenNodes.put_left.Goals as goal

pub loop-of_sheet-preserved : goal.loop-of_sheet-preserved
loop-of_sheet-preserved c =
    let now = c.loop-of_sheet
    in let next = c.put_open.new
    in let all = left_open c.args.left.items
    in let l = c.in-Some.of_sheet
    in let rest = c.pop.new.self.items
    in let more : left_open now.left.items ≡ left_open rest ++ open_of l =
    ap left_open c.in-Some.ensures.items ∙ sym (flat_map_more open_of [] rest l)
    in part_put c.args.makespan all c.args.self.now c.args.distant.now (left_open rest) (open_of l) now.self next.self
    now.distant next.distant
    (subst (λ rs. IsLeftToPut c.args.makespan all c.args.self.now c.args.distant.now rs now.self now.distant) more
    now.invariant) c.in_ok-put_open.ensures

pub put_open-requires : goal.put_open-requires
put_open-requires c =
    let now = c.loop-of_sheet
    in let all = left_open c.args.left.items
    in let l = c.in-Some.of_sheet
    in let rest = c.pop.new.self.items
    in let more : left_open now.left.items ≡ left_open rest ++ open_of l =
    ap left_open c.in-Some.ensures.items ∙ sym (flat_map_more open_of [] rest l)
    in part_fits c.args.makespan all c.args.self.now c.args.distant.now (left_open rest) (open_of l) now.self
    now.distant c.requires
    (subst (λ rs. IsLeftToPut c.args.makespan all c.args.self.now c.args.distant.now rs now.self now.distant) more
    now.invariant)
