use Rattle.std.proofs.Common.{◌≡◌, ◌<◌, ◌∙◌, List, ap, arith, length, max, refl, subst, sym, rules}
use Rattle.shop_bound.specs.{declared.triples.Triple.Triple, OneMachine.IsSmall}
use Rattle.shop_model.specs.Word.{placing}
use Rattle.shop_bound.proofs.{LowerBounds.{row_of_machine, one_bounded}, SmallSums.triples_small}
use Rattle.shop_bound.proofs.lower.BoundRoom.bound.Goals as goal

pub raise-bound-requires-clause-room : goal.raise-bound-requires-clause-room
raise-bound-requires-clause-room c =
    let shop = c.args.instance.now in let m = c.loop-machine.machine
    in let known : m < shop.machines = (let a = c.loop-machine-test.true in let b = c.machines-machine-end.ensures
    in omega arith)
    in let row = row_of_machine shop c.args.placement.now m _ c.loop-machine.self c.loop-machine.invariant known
    c.index_mut.result.now c.index_mut.ensures.value
    in let long = ap (λ (ts : List Triple). length ts) row
    in let given = ap (λ (ts : List Triple). length ts) c.as_mut_slice-triples.ensures.value
    in let few = c.loop-machine.invariant.few m (omega arith) known
    in let room = c.loop-machine.invariant.room.schedule m known in omega arith

pub raise-bound-requires-clause-small : goal.raise-bound-requires-clause-small
raise-bound-requires-clause-small c =
    let shop = c.args.instance.now in let m = c.loop-machine.machine in let of = c.requires.word
    in let known : m < shop.machines = (let a = c.loop-machine-test.true in let b = c.machines-machine-end.ensures
    in omega arith)
    in let row = row_of_machine shop c.args.placement.now m _ c.loop-machine.self c.loop-machine.invariant known
    c.index_mut.result.now c.index_mut.ensures.value
    in subst (λ (ts : List Triple). IsSmall ts) (sym (c.as_mut_slice-triples.ensures.value ∙ (sym row
    ∙ c.loop-machine.invariant.left (placing shop of.word) of.placed m (omega arith) known)))
    (let a = triples_small shop c.keeps_limits.ensures of.word of.fits m in omega arith)

pub loop-machine-preserved : goal.loop-machine-preserved
loop-machine-preserved c =
    let shop = c.args.instance.now in let m = c.loop-machine.machine
    in let known : m < shop.machines = (let a = c.loop-machine-test.true in let b = c.machines-machine-end.ensures
    in omega arith)
    in let raised : c.max-bound.result ≡ max c.loop-machine.bound c.free.result = search rules
    in one_bounded shop c.args.placement.now m c.loop-machine.bound c.loop-machine.self c.loop-machine.invariant known
    c.index_mut.result.now c.index_mut.ensures.value c.free.result c.raise-bound.result
    c.as_mut_slice-triples.result.now _ _ c.free.ensures c.as_mut_slice-triples.ensures.value
    (let a = c.raise-bound.ensures.bound in omega arith) refl (omega arith) c.raise-bound.ensures.room
