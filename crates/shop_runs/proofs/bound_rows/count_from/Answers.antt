use Rattle.std.proofs.{Common.{refl, ◌∙◌, arith}, lemmas.Bool.eq-eqb}
use Rattle.shop_runs.proofs.BoundRowLemmas.{count_behind}
use Rattle.shop_runs.proofs.bound_rows.count_from.Goals as goal

pub loop-index-preserved : goal.loop-index-preserved
loop-index-preserved c = record {
  horizon = c.in_ok-add.ensures.horizon ∙ c.loop-index.invariant.horizon;
  counts = λ b. (
      let e = c.in_ok-add.ensures.added b
      in let f = c.loop-index.invariant.counts b
      in let g = count_behind b c.loop-index.index c.args.stacks.now c.index-stacks-index.result c.loop-index-test.true
      in grind arith
      );
}

pub add-requires : goal.add-requires
add-requires c =
    let i = c.loop-index.index
    in let e = c.loop-index.invariant.counts i
    in let f = c.requires i
    in let g = count_behind i i c.args.stacks.now c.index-stacks-index.result c.loop-index-test.true
    in let h = eq-eqb i i refl
    in grind arith
