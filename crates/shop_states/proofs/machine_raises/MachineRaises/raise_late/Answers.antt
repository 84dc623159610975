use Rattle.std.proofs.Common.{◌≤◌, ap, arith, inl, inr, length}
use Rattle.shop_states.proofs.{RaisedMachines.can_note, WrittenRaises.{behind_written, few_written}}
use Rattle.shop_states.proofs.machine_raises.MachineRaises.raise_late.Goals as goal

pub raise_late-requires-2-clause-can : goal.raise_late-requires-2-clause-can
raise_late-requires-2-clause-can g c = c.requires.can

pub raise_late-requires-2-clause-note : goal.raise_late-requires-2-clause-note
raise_late-requires-2-clause-note g c = can_note g.L.StateLanes.value c.as_mut_slice-raises.ensures.value
    c.self.view_is c.self.invariant.0 c.requires.at_rest c.requires.known c.none-raised.ensures (omega arith)
    (λ one. omega arith)

pub raise_late-requires-clause-can : goal.raise_late-requires-clause-can
raise_late-requires-clause-can g c = c.requires.can

pub raise_late-requires-clause-note : goal.raise_late-requires-clause-note
raise_late-requires-clause-note g c =
    let same = ap length c.as_mut_slice-raises.ensures.value
    in let few : length c.as_mut_slice-raises.result.now ≤ 64 = elim c.then-EACH-gt0.either [
      | inl some ↦ (let is = c.EACH.ensures in let least = c.self.invariant.1 (omega arith) in omega arith)
      | inr most ↦ most.1
    ]
    in can_note g.L.StateLanes.value c.as_mut_slice-raises.ensures.value c.self.view_is
    c.self.invariant.0 c.requires.at_rest c.requires.known c.none-raised.ensures (omega arith) (λ one. few)

pub invariant_of-self : goal.invariant_of-self
invariant_of-self g c = few_written g.L.StateLanes.value c.self.inside.raises c.raise_late.new.raises
    c.as_mut_slice-raises.ensures.value c.raise_late.ensures.noted.long g.L.StateLanes.EACH c.self.invariant

pub invariant_of-self-2 : goal.invariant_of-self-2
invariant_of-self-2 g c = few_written g.L.StateLanes.value c.self.inside.raises c.raise_late-2.new.raises
    c.as_mut_slice-raises.ensures.value c.raise_late-2.ensures.noted.long g.L.StateLanes.EACH c.self.invariant

pub returns-then-EACH-gt0 : goal.returns-then-EACH-gt0
returns-then-EACH-gt0 g c = behind_written g.L.StateLanes.value c.self.inside.raises c.raise_late.new.raises
    c.as_mut_slice-raises.ensures.value c.self.view_is c.raise_late.ensures

pub returns : goal.returns
returns g c = behind_written g.L.StateLanes.value c.self.inside.raises c.raise_late-2.new.raises
    c.as_mut_slice-raises.ensures.value c.self.view_is c.raise_late-2.ensures
