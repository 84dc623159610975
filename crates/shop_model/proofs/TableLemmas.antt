-- The rows of a table, seen as lists.
use Rattle.std.proofs.Common.{◌≡◌, ℕ, zero, suc, ◌+◌, ◌≤◌, ◌<◌, List, [], ◌∷◌, map, length, slice_index_or, refl, arith}
use Rattle.std.proofs.{Common.All, lemmas.{Bool.{cases_lt, cases_eq}, List.{get_or_past, get_or_default}}}
use Rattle.std.specs.{Prelude.Vec, declared.alloc.Global.Global}
use Rattle.shop_model.specs.{Limits.AreStarts, declared.limits.TheConstants.MAX_START}

pub rows_at : (rows : List (Vec ℕ Global)) (j : ℕ) (d : Vec ℕ Global) → j < length rows
    → slice_index_or (map (λ r. r.items) rows) j [] ≡ (slice_index_or rows j d).items
rows_at [] j d h = absurd (omega arith)
rows_at (r ∷ rs) zero d h = refl
rows_at (r ∷ rs) (suc j) d h = rows_at rs j d (omega arith)

abbrev pub StartsBelow : List (List ℕ) → ℕ → Type 0
StartsBelow rows n = (j k : ℕ) → j < n → slice_index_or (slice_index_or rows j []) k 0 ≤ MAX_START

pub starts_next : (rows : List (Vec ℕ Global)) (n : ℕ) (row : Vec ℕ Global) → n < length rows
    → row ≡ slice_index_or rows n row → StartsBelow (map (λ r. r.items) rows) n
    → All (λ s. s ≤ MAX_START) row.items
    → StartsBelow (map (λ r. r.items) rows) (n + 1)
starts_next rows n row h is before within j k below = grind (arith, cases_eq, rows_at, cases_lt, get_or_past)

pub starts_at : (rows : List (Vec ℕ Global)) (n : ℕ) (row : Vec ℕ Global) → n < length rows
    → row ≡ slice_index_or rows n row → AreStarts (map (λ r. r.items) rows) → All (λ s. s ≤ MAX_START) row.items
starts_at rows n row h is starts k d below = grind (arith, slice_index_or, rows_at, get_or_default)
