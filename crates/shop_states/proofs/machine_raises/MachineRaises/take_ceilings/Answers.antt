use Rattle.std.proofs.Common.{◌<◌, ◌∙◌, ap, inl, inr, List, arith, length, subst, sym, refl, set}
use Rattle.std.proofs.lemmas.List.{length-map, length-set}
use Rattle.shop_layout.specs.Lanes.{lanes_on}
use Rattle.shop_states.specs.inner.LaneRaises.{Raise, nothing_raised, raise_in, raise_of, raises_in}
use Rattle.shop_states.{specs.inner.LaidLanes.rows_in, proofs.LookedUpRows.{can_bound, cut_ordered}}
use Rattle.shop_states.proofs.{LookedUpRows.{cut_span, cut_within, its_known}, FittingSpans.spans_within}
use Rattle.shop_states.proofs.RaisedMachines.{IsFoundSo, first_known, found_all, found_begins, found_more}
use Rattle.shop_states.proofs.WrittenRaises.{bounds_written, few_written, long_given}
use Rattle.shop_states.proofs.machine_raises.MachineRaises.take_ceilings.Goals as goal

pub take_raise-raise-requires : goal.take_raise-raise-requires
take_raise-raise-requires g c =
    let many = length-map c.loop-machine.raises (raise_in g.L.StateLanes.value)
    in let known = first_known c.loop-machine.invariant.found.left.are_listed c.in-Some.ensures
    in omega arith

pub blocks-requires : goal.blocks-requires
blocks-requires g c =
    let left = c.loop-machine.invariant.found.left in let rows = c.rows-rows.ensures
    in let blocks = c.blocks_of-from.ensures
    in record {
      ordered = cut_ordered c.requires.can left c.in-Some.ensures blocks.first blocks.behind;
      within = cut_within c.requires.can left c.in-Some.ensures blocks.first blocks.behind g.L.StateLanes.value
          c.rows-rows.result rows.heads;
    }

pub machine_bound-span-requires : goal.machine_bound-span-requires
machine_bound-span-requires g c =
    let left = c.loop-machine.invariant.found.left in let rows = c.rows-rows.ensures
    in let blocks = c.blocks_of-from.ensures
    in can_bound c.requires.can left c.in-Some.ensures blocks.first blocks.behind g.L.StateLanes.value
    c.rows-rows.result rows.heads rows.times rows.tails c.blocks-in-Some.ensures c.take_raise-raise.ensures.raise
    c.fixed_blocks_each-each.result blocks.count

pub loop-machine-preserved : goal.loop-machine-preserved
loop-machine-preserved g c =
    let so = c.loop-machine.invariant.found
    in let can = c.requires.can in let rows = c.rows-rows.ensures in let blocks = c.blocks_of-from.ensures
    in let on = lanes_on (rows_in g.L.StateLanes c.args.grid.now c.args.lanes.now) c.args.grid.now
    in let old = c.args.self.now
    in let m = c.in-Some.machine
    in let known = its_known can so.left c.in-Some.ensures
    in let fits = can.fits.fits m known
    in let smaller = so.left.smaller m
    in let from = (raise_of (raises_in g.L.StateLanes.value c.loop-machine.raises) m).from
    in let to = (raise_of (raises_in g.L.StateLanes.value c.loop-machine.raises) m).to
    in let all = spans_within g.L.StateLanes.GREATEST from to (on m) (omega arith) (on m)
    in let span = cut_span can so.left c.in-Some.ensures blocks.first blocks.behind g.L.StateLanes.value
    c.rows-rows.result rows.heads rows.times rows.tails c.blocks-in-Some.ensures c.take_raise-raise.ensures.raise
    c.machine_bound-span.ensures
    in let small = c.requires.computable
    in let same = c.loop-machine.invariant.long in let room = c.requires.room
    in let within : m < length c.loop-machine.ceilings = omega arith
    in let most = c.max.ensures in let greatest = c.max-greatest.ensures
    in record {
      found = subst (λ (rs : List Raise). IsFoundSo c.lane_number-lowest.result old on rs c.pop_first.new.self
          (set c.loop-machine.ceilings m c.max.result) c.max-greatest.result) (sym c.take_raise-raise.ensures.empty)
          (found_more so c.in-Some.ensures (nothing_raised g.L.StateLanes.GREATEST) refl c.max.result refl within
          (elim c.kept_ceiling-ceiling.ensures [
            | inl kept ↦ (let covers = span.covers kept.0 in let is = kept.1 in omega arith)
            | inr high ↦ (let is = high.1 in omega arith)
          ]) (omega arith) (omega arith) (let low = so.most m within in omega arith));
      long = length-set c.loop-machine.ceilings m c.max.result ∙ c.loop-machine.invariant.long;
    }

pub returns-clause-bounds : goal.returns-clause-bounds
returns-clause-bounds g c =
    let so = c.loop-machine.invariant.found
    in let all = found_all c.in_default.ensures.0 so
    in rw (← c.lane_number-lowest.ensures, c.bound_time.ensures) (bounds_written g.L.StateLanes.value
    c.self.inside.raises c.loop-machine.raises c.as_mut_slice-raises.ensures.value (long_given g.L.StateLanes.value c.as_mut_slice-raises.ensures.value
    c.self.view_is (raises_in g.L.StateLanes.value c.loop-machine.raises) so.left.long) (record {
      empty = all.0;
      long = so.left.long;
      low = so.low;
      least_of = so.least_of;
      covers = all.1;
      most = so.most;
    }) (omega arith))

pub invariant_of-self : goal.invariant_of-self
invariant_of-self g c =
    few_written g.L.StateLanes.value c.self.inside.raises c.loop-machine.raises
    c.as_mut_slice-raises.ensures.value (long_given g.L.StateLanes.value c.as_mut_slice-raises.ensures.value
    c.self.view_is (raises_in g.L.StateLanes.value c.loop-machine.raises) c.loop-machine.invariant.found.left.long)
    g.L.StateLanes.EACH c.self.invariant

pub loop-machine-init : goal.loop-machine-init
loop-machine-init g c = record {
  found = found_begins (ap (raises_in g.L.StateLanes.value) c.as_mut_slice-raises.ensures.value ∙ c.self.view_is)
      c.requires.can.listed (λ m here. (let long = c.fill.ensures.len
      in let is = c.fill.ensures.clones m 0 (omega arith) refl in omega arith));
  long = c.fill.ensures.len;
}

pub offset_bounds-ceilings-machine : goal.offset_bounds-ceilings-machine
offset_bounds-ceilings-machine g c = grind (arith, first_known)

pub bounds-ceilings-machine : goal.bounds-ceilings-machine
bounds-ceilings-machine g c = grind (arith, first_known, length-map)

pub bounds-ceilings-machine-in-Some : goal.bounds-ceilings-machine-in-Some
bounds-ceilings-machine-in-Some g c = grind (arith, first_known, length-map)
