use Rattle.std.proofs.{Common.{ℕ, ◌*◌, ◌-◌, ◌^◌, ◌%◌, ◌<◌, List, bit_or, subst, arith}, lemmas.Nat.one_shl}
use Rattle.shop_states.{specs.inner.JobSets.HasPut, proofs.MachineSets.{machines_of, put_high, put_low, put_small}}
use Rattle.shop_states.proofs.machine_sets.MachineSet.put.Goals.{then-are_few-via-then-are_few}
use Rattle.shop_states.proofs.machine_sets.MachineSet.put.Goals.{then-are_few-via-else-are_few+then-machine-lt64}
use Rattle.shop_states.proofs.machine_sets.MachineSet.put.Goals as goal

pub invariant_of-self : goal.invariant_of-self
invariant_of-self c =
    grind (arith, then-are_few-via-then-are_few, then-are_few-via-else-are_few+then-machine-lt64, put_small)

pub returns-then-are_few : goal.returns-then-are_few
returns-then-are_few c =
    let low : c.args.machine < 64 = elim c.then-are_few.branch [
      | then-are_few-via-then-are_few w ↦ c.requires.few w.if-are_few.true
      | then-are_few-via-else-are_few+then-machine-lt64 w ↦ w.if-machine-lt64.true
    ]
    in let bit = 1 * 2 ^ c.args.machine % 18446744073709551616
    in subst (λ (old : List ℕ). HasPut c.args.machine old
    (machines_of (bit_or c.self.inside.low bit) c.self.inside.high)) c.self.view_is (put_low c.self.inside.low
    c.self.inside.high c.args.machine bit low (one_shl c.args.machine 64 low))

pub invariant_of-self-2 : goal.invariant_of-self-2
invariant_of-self-2 c = grind (arith, put_small)

pub returns : goal.returns
returns c =
    let few = c.requires.known in let from = c.if-machine-lt64.false
    in let bit = 1 * 2 ^ (c.args.machine - 64) % 18446744073709551616
    in subst (λ (old : List ℕ). HasPut c.args.machine old
    (machines_of c.self.inside.low (bit_or c.self.inside.high bit))) c.self.view_is (put_high c.self.inside.low
    c.self.inside.high c.args.machine bit from few (one_shl (c.args.machine - 64) 64 (omega arith)))
