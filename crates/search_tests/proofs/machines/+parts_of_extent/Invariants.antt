use Rattle.std.proofs.Common.{length}
use Rattle.search_tests.proofs.machines.+parts_of_extent.Given as goal

abbrev pub decreases-parts_of_extent : goal.decreases-parts_of_extent
decreases-parts_of_extent l = length l.triples.now
