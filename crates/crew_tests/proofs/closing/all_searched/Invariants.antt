use Rattle.std.proofs.Common.{◌≡◌, ℕ, ◌<◌, length}
use Rattle.std.specs.Prelude.{slice_index_or}
use Rattle.shop_runs.specs.Entries.{told}
use Rattle.shop_runs.specs.Crews.{IsEntryOf}
use Rattle.crew_tests.proofs.closing.all_searched.Given as goal

abbrev pub invariant-loop-number : goal.invariant-loop-number
invariant-loop-number g l = (length l.entries.items ≡ l.number)
    × ((n : ℕ) (d : _) → n < l.number → IsEntryOf (told l.round) n (slice_index_or l.entries.items n d))
