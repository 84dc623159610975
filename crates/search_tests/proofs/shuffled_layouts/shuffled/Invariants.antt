use Rattle.std.proofs.Common.{◌≡◌, length}
use Rattle.search_tests.proofs.shuffled_layouts.shuffled.Given as goal

abbrev pub invariant-loop-machine : goal.invariant-loop-machine
invariant-loop-machine g l = length l.keys.items ≡ l.instance.machines
