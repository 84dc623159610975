-- The pieces below a number, up to the first that ends at the opening bound.
use Rattle.std.specs.Prelude.{◌≡◌, ℕ, ◌<◌, true, Option, Some, None}
use Rattle.shop_runs.specs.{Round.Told, Entries.is_hit, Crews.{IsEntryOf, NoHitBelow, IsUpToHit}}
use Rattle.shop_runs.specs.declared.entries.Entry.{Entry}

-- the entry of piece n: it was searched, or passed by the first that ends at the opening bound
abbrev pub IsEntryUpToHit : Told → ℕ → Entry → Type 0
IsEntryUpToHit r n e = IsEntryOf r n e × IsUpToHit r n e.kind

-- the first piece below n that ends at the opening bound, or none does
abbrev pub IsFirstHitBelow : Told → ℕ → Option ℕ → Type 0
IsFirstHitBelow r n None = NoHitBelow r n
IsFirstHitBelow r n (Some h) = (h < n) × (is_hit r h ≡ true) × NoHitBelow r h
