use Rattle.std.proofs.Common.{◌<◌, length, subst, sym}
use Rattle.shop_layout.specs.Positions.{LayoutState}
use Rattle.shop_states.proofs.LaneChoices.{popped_marked}
use Rattle.shop_states.proofs.lane_choices.gather_marked.Goals as goal

pub job-requires : goal.job-requires
job-requires g c = subst (λ (l : LayoutState). c.in-Some.position < length l.jobs) (sym c.routes.ensures)
    (c.requires.known c.in-Some.position (popped_marked c.loop-position.invariant c.in-Some.ensures))
