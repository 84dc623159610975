use Rattle.std.proofs.Common.{arith}
use Rattle.shop_states.proofs.WrittenRaises.{few_written, spans_given, spans_written}
use Rattle.shop_states.proofs.machine_raises.MachineRaises.take_bound.Goals as goal

pub take_any_spans-requires : goal.take_any_spans-requires
take_any_spans-requires g c =
    rw c.lane_number.ensures
    (spans_given g.L.StateLanes.value c.as_mut_slice-raises.ensures.value c.self.view_is c.requires.can)

pub take_spans_of-requires-clause-can : goal.take_spans_of-requires-clause-can
take_spans_of-requires-clause-can g c =
    rw c.lane_number.ensures
    (spans_given g.L.StateLanes.value c.as_mut_slice-raises.ensures.value c.self.view_is c.requires.can)

pub invariant_of-self : goal.invariant_of-self
invariant_of-self g c = few_written g.L.StateLanes.value c.self.inside.raises c.take_any_spans.new.raises
    c.as_mut_slice-raises.ensures.value c.take_any_spans.ensures.long g.L.StateLanes.EACH c.self.invariant

pub invariant_of-self-2 : goal.invariant_of-self-2
invariant_of-self-2 g c = few_written g.L.StateLanes.value c.self.inside.raises c.take_spans_of.new.raises
    c.as_mut_slice-raises.ensures.value c.take_spans_of.ensures.long g.L.StateLanes.EACH c.self.invariant

pub returns-then-each-eq0 : goal.returns-then-each-eq0
returns-then-each-eq0 g c = rw c.bound_time.ensures (spans_written g.L.StateLanes.value c.self.inside.raises
    c.take_any_spans.new.raises c.as_mut_slice-raises.ensures.value c.self.view_is
    (rw (c.lane_number.ensures, c.lane_number-2.ensures) at c.take_any_spans.ensures) (omega arith))

pub returns : goal.returns
returns g c = rw c.bound_time-2.ensures (spans_written g.L.StateLanes.value c.self.inside.raises
    c.take_spans_of.new.raises c.as_mut_slice-raises.ensures.value c.self.view_is
    (rw (c.lane_number.ensures, c.lane_number-2.ensures) at c.take_spans_of.ensures) (omega arith))
