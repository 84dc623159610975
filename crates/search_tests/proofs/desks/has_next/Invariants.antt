use Rattle.std.proofs.Common.{◌≡◌, take}
use Rattle.search_tests.proofs.desks.has_next.Given as goal

abbrev pub invariant-loop-dispatched : goal.invariant-loop-dispatched
invariant-loop-dispatched g l = l.jobs.items ≡ take l.dispatched-index l.dispatched-items
