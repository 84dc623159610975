use Rattle.std.proofs.Common.{◌≤◌, arith, ap, length}
use Rattle.shop_states.proofs.MarkedRaises.{all_marked, delayed_begin, marks_can_raise, marks_wait, raised_begins}
use Rattle.shop_states.proofs.{MarkedRaises.{raised_ends, raised_on}, RaisedMachines.can_note}
use Rattle.shop_states.proofs.WrittenRaises.{few_written, raised_written}
use Rattle.shop_states.proofs.machine_raises.MachineRaises.raise.Goals as goal

pub raise_any-requires-clause-can : goal.raise_any-requires-clause-can
raise_any-requires-clause-can g c = c.requires.can

pub raise_any-requires-clause-note : goal.raise_any-requires-clause-note
raise_any-requires-clause-note g c = λ some. can_note g.L.StateLanes.value
    c.as_mut_slice-raises.ensures.value c.self.view_is c.self.invariant.0 c.requires.at_rest
    c.requires.known c.none-raised.ensures some (λ few. c.if-raises-le64.true)

pub raise_any-requires-then-each-eq0-clause-can : goal.raise_any-requires-then-each-eq0-clause-can
raise_any-requires-then-each-eq0-clause-can g c = c.requires.can

pub raise_any-requires-then-each-eq0-clause-note : goal.raise_any-requires-then-each-eq0-clause-note
raise_any-requires-then-each-eq0-clause-note g c = λ some. can_note g.L.StateLanes.value
    c.as_mut_slice-raises.ensures.value c.self.view_is c.self.invariant.0 c.requires.at_rest c.requires.known
    c.none-raised.ensures some (λ one. omega arith)

pub raise_marked-requires-clause-note : goal.raise_marked-requires-clause-note
raise_marked-requires-clause-note g c = λ noted.
    let some = c.if-each-eq0.false in let is = c.fixed_blocks_each-each.ensures.is
    in let few = c.self.invariant.1 (omega arith) in let same = ap length c.as_mut_slice-raises.ensures.value
    in let small : length c.as_mut_slice-raises.result.now ≤ 64 = omega arith
    in rw c.routes-routes.ensures (can_note g.L.StateLanes.value c.as_mut_slice-raises.ensures.value
    c.self.view_is c.self.invariant.0 c.requires.at_rest c.requires.known c.none-raised.ensures noted (λ one. small))

pub raise_marked-requires-clause-marks : goal.raise_marked-requires-clause-marks
raise_marked-requires-clause-marks g c = marks_wait c.requires.can (delayed_begin c.requires.can) c.requires.can.delayed

pub raise_marked-requires-clause-can : goal.raise_marked-requires-clause-can
raise_marked-requires-clause-can g c = rw c.routes-routes.ensures
    (marks_can_raise c.requires.can (delayed_begin c.requires.can) c.requires.can.delayed)

pub invariant_of-self : goal.invariant_of-self
invariant_of-self g c = few_written g.L.StateLanes.value c.self.inside.raises c.raise_any.new.raises
    c.as_mut_slice-raises.ensures.value (c.raise_any.ensures.noted (omega arith)).machines
    g.L.StateLanes.EACH c.self.invariant

pub invariant_of-self-then-each-eq0 : goal.invariant_of-self-then-each-eq0
invariant_of-self-then-each-eq0 g c = few_written g.L.StateLanes.value c.self.inside.raises
    c.raise_any-then-each-eq0.new.raises c.as_mut_slice-raises.ensures.value
    (c.raise_any-then-each-eq0.ensures.noted (omega arith)).machines g.L.StateLanes.EACH c.self.invariant

pub invariant_of-self-2 : goal.invariant_of-self-2
invariant_of-self-2 g c = few_written g.L.StateLanes.value c.self.inside.raises c.raise_marked.new.raises
    c.as_mut_slice-raises.ensures.value (c.raise_marked.ensures.noted (omega arith)).machines
    g.L.StateLanes.EACH c.self.invariant

pub returns-then-raises-le64 : goal.returns-then-raises-le64
returns-then-raises-le64 g c = raised_written g.L.StateLanes.value c.self.inside.raises c.raise_any.new.raises
    c.as_mut_slice-raises.ensures.value c.self.view_is (c.raise_any.ensures.noted (omega arith))

pub returns-then-each-eq0 : goal.returns-then-each-eq0
returns-then-each-eq0 g c = raised_written g.L.StateLanes.value c.self.inside.raises
    c.raise_any-then-each-eq0.new.raises c.as_mut_slice-raises.ensures.value c.self.view_is
    (c.raise_any-then-each-eq0.ensures.noted (omega arith))

pub returns : goal.returns
returns g c =
    let few = c.if-each-gt-MOST_MARKED.false in let some = c.if-each-eq0.false
    in let noted = c.raise_marked.ensures.noted (omega arith)
    in raised_written g.L.StateLanes.value c.self.inside.raises c.raise_marked.new.raises
    c.as_mut_slice-raises.ensures.value c.self.view_is (raised_ends c.requires.can
    (all_marked c.args.grid.now c.args.dispatch.machine c.fixed_blocks_each-each.result
    c.fixed_blocks_each-each.ensures.even (omega arith) (omega arith) c.requires.can.machine.known)
    (raised_on c.requires.can (delayed_begin c.requires.can) c.requires.can.delayed (raised_begins c.requires.can)
    (rw c.routes-routes.ensures at noted)) noted.listed)
