use Rattle.std.proofs.Common.{◌≡◌}
use Rattle.search_tests.proofs.desks.assert_steps.Given as goal

abbrev pub invariant-loop-job : goal.invariant-loop-job
invariant-loop-job g l = l.desk.shop ≡ l.instance
