use Rattle.std.proofs.{Common.{List, subst, sym, refl, arith}, lemmas.List.length-map}
use Rattle.shop_layout.specs.Lanes.{lanes_on}
use Rattle.shop_states.specs.inner.{LaneRaises.{Raise, nothing_raised, raise_in, raises_in}, LaidLanes.rows_in}
use Rattle.shop_states.proofs.LookedUpRows.{can_bound, cut_ordered, cut_span, cut_within, its_blocks, its_known}
use Rattle.shop_states.proofs.LookedUpRows.{its_small}
use Rattle.shop_states.proofs.RaisedMachines.{IsTakenSo, first_known, taken_all, taken_more, taken_passed}
use Rattle.shop_states.proofs.lane_bounds.take_spans_of.Goals as goal

pub take_raise-raise-requires : goal.take_raise-raise-requires
take_raise-raise-requires g c =
    let many = length-map c.loop-machine.raises (raise_in g.L.StateLanes.value)
    in let known = first_known c.loop-machine.invariant.left.are_listed c.in-Some.ensures
    in omega arith

pub blocks_of-from-requires : goal.blocks_of-from-requires
blocks_of-from-requires g c = grind (arith, its_small, its_blocks)

pub blocks-requires : goal.blocks-requires
blocks-requires g c =
    let left = c.loop-machine.invariant.left in let rows = c.rows-rows.ensures in let blocks = c.blocks_of-from.ensures
    in record {
      ordered = cut_ordered c.requires.can.can left c.in-Some.ensures blocks.first blocks.behind;
      within = cut_within c.requires.can.can left c.in-Some.ensures blocks.first blocks.behind g.L.StateLanes.value
          c.rows-rows.result rows.heads;
    }

pub machine_bound-most-requires : goal.machine_bound-most-requires
machine_bound-most-requires g c =
    let left = c.loop-machine.invariant.left in let rows = c.rows-rows.ensures in let blocks = c.blocks_of-from.ensures
    in can_bound c.requires.can.can left c.in-Some.ensures blocks.first blocks.behind g.L.StateLanes.value
    c.rows-rows.result rows.heads rows.times rows.tails c.blocks-then-not-is_ceiling_within.ensures
    c.take_raise-raise.ensures.raise c.args.each blocks.count

pub loop-machine-preserved-then-not-is_ceiling_within : goal.loop-machine-preserved-then-not-is_ceiling_within
loop-machine-preserved-then-not-is_ceiling_within g c =
    let on = lanes_on (rows_in g.L.StateLanes c.args.grid.now c.args.lanes.now) c.args.grid.now
    in let old = raises_in g.L.StateLanes.value c.args.raises.now
    in let left = c.loop-machine.invariant.left in let rows = c.rows-rows.ensures
    in let blocks = c.blocks_of-from.ensures
    in subst (λ (rs : List Raise). IsTakenSo c.args.range.now.least c.args.range.now.limit old on rs
    c.pop_first.new.self
    c.machine_bound-most.result) (sym c.take_raise-raise.ensures.empty) (taken_more c.loop-machine.invariant
    c.in-Some.ensures (nothing_raised g.L.StateLanes.GREATEST) refl (cut_span c.requires.can.can left c.in-Some.ensures
    blocks.first blocks.behind g.L.StateLanes.value c.rows-rows.result rows.heads rows.times rows.tails
    c.blocks-then-not-is_ceiling_within.ensures c.take_raise-raise.ensures.raise c.machine_bound-most.ensures))

pub loop-machine-preserved : goal.loop-machine-preserved
loop-machine-preserved g c =
    let on = lanes_on (rows_in g.L.StateLanes c.args.grid.now c.args.lanes.now) c.args.grid.now
    in let old = raises_in g.L.StateLanes.value c.args.raises.now
    in let so = c.loop-machine.invariant
    in let few = c.is_ceiling_within.ensures c.if-not-is_ceiling_within.false
    in let here = few.0 in let most = few.1 in let low = so.low
    in let spans = c.requires.can.under c.in-Some.machine here (its_known c.requires.can.can so.left c.in-Some.ensures)
    in subst (λ (rs : List Raise). IsTakenSo c.args.range.now.least c.args.range.now.limit old on rs
    c.pop_first.new.self
    c.loop-machine.most) (sym c.take_raise-raise.ensures.empty)
    (taken_passed so c.in-Some.ensures (nothing_raised g.L.StateLanes.GREATEST) refl (omega arith))

pub returns : goal.returns
returns g c =
    let so = c.loop-machine.invariant
    in let all = taken_all c.in_default.ensures.0 so
    in grind arith
