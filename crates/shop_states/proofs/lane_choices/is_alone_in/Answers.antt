use Rattle.std.{proofs.Common.{ℕ, ◌≡◌, List, subst, arith}, specs.List.All}
use Rattle.shop_states.proofs.LaneChoices.{alone_on}
use Rattle.shop_states.proofs.lane_choices.is_alone_in.Goals as goal

pub loop-from-preserved : goal.loop-from-preserved
loop-from-preserved g c =
    let a = c.marks_end-to.ensures in let d = c.loop-from-test.true
    in let now = c.loop-from.invariant in let low = now.ordered
    in record {
      ordered = omega arith;
      within = omega arith;
      alone = alone_on (g.L.StateLanes.heads c.args.lanes.now) c.args.limit c.args.position low (omega arith)
          (omega arith) now.alone
          (subst (λ (ps : List ℕ). All (λ p. p ≡ c.args.position) ps) c.below.ensures
          (c.has_no_other.ensures c.if-not-has_no_other.false));
    }
