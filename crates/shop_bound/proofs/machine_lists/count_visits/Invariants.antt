use Rattle.std.proofs.Common.{◌≡◌, ℕ, ◌<◌, length, get_or}
use Rattle.shop_bound.proofs.MachineListTurns.{visits_before}
use Rattle.shop_bound.proofs.machine_lists.count_visits.Given as goal

abbrev pub invariant-loop-j : goal.invariant-loop-j
invariant-loop-j l = record {
  long : length l.counts.items ≡ l.instance.machines;
  counted : (m : ℕ) → m < l.instance.machines → get_or l.counts.items m 0 ≡ visits_before l.instance m l.j;
}
