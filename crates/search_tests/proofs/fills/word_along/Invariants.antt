use Rattle.std.proofs.Common.{◌≡◌, take}
use Rattle.search_tests.proofs.fills.word_along.Given as goal

abbrev pub invariant-loop-job : goal.invariant-loop-job
invariant-loop-job g l = l.jobs.items ≡ take l.job-index l.path
