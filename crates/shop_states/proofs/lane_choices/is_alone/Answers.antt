use Rattle.std.{proofs.Common.{ℕ, ◌≡◌, List, subst}, specs.List.All}
use Rattle.shop_states.{specs.inner.LaneChoices.IsAlone, proofs.LaneChoices.alone_on}
use Rattle.shop_states.proofs.lane_choices.is_alone.Goals as goal

pub returns-then-blocks : goal.returns-then-blocks
returns-then-blocks g c = λ alone.
    subst (λ (x : ℕ). IsAlone (g.L.StateLanes.heads c.args.lanes.now) c.args.blocks.now.from x c.args.blocks.now.end
    c.args.position) c.if-blocks.true
    (subst (λ (ps : List ℕ). All (λ p. p ≡ c.args.position) ps) c.requires.marks
    (c.has_no_other.ensures c.if-not-has_no_other.false))

pub returns : goal.returns
returns g c = λ alone.
    alone_on (g.L.StateLanes.heads c.args.lanes.now) c.args.blocks.now.end c.args.position c.requires.ordered
    c.requires.last c.requires.within
    (subst (λ (ps : List ℕ). All (λ p. p ≡ c.args.position) ps) c.requires.marks
    (c.has_no_other.ensures c.if-not-has_no_other.false)) (c.is_alone_in.ensures alone)
