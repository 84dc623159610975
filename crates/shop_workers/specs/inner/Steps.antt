-- What each step of a board tells its seat.
--     spent                  a seat that was joined away
--     Claims, Looks, Marks   of a step, the seat before, the number found and the seat after
--     Recalls                nothing changes; no number stands twice among those that the seat won
use Rattle.std.specs.Prelude.{◌≡◌, ℕ, ◌≤◌, [], min, true, false, ◌==◌}
use Rattle.atomic_table.specs.Table.{Step, Me}
use Rattle.shop_workers.specs.{declared.views.View.View, Views.once}
use Rattle.shop_workers.specs.Moves.{IsTold, with_low, IsAtMostMarked, with_done}
use Rattle.shop_runs.specs.Hits.{IsHitOrEnd}

abbrev pub spent : View
spent = record { live = false; hits = []; mine = []; seen = []; done = []; low = 0 }

abbrev pub Telling : Type 1
Telling = Step (Unit {0}) → Me (Unit {0}) View → ℕ → Me (Unit {0}) View → Type 0

abbrev pub Claims : Telling
Claims s me found after = (after.1 ≡ me.1) × IsTold (found == 0) s.word me.0 after.0

abbrev pub Looks : Telling
Looks s me found after = (after.1 ≡ me.1) × (after.0 ≡ with_low me.0 found) × IsHitOrEnd me.0.hits found
    × (found ≤ me.0.low) × IsAtMostMarked me.0 found

abbrev pub Marks : Telling
Marks s me found after = (after.1 ≡ me.1) × (after.0 ≡ with_done me.0 s.first (min s.first found)) × (found ≤ me.0.low)

abbrev pub Recalls : Telling
Recalls s me found after = (after ≡ me) × (once me.0.mine ≡ true)
