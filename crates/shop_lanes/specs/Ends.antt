-- The first of the least numbers of a row.
use Rattle.std.specs.Prelude.{ℕ, ◌<◌, ◌≤◌, List, length, slice_index}

pub record IsFirstLeast (xs : List ℕ) (i : ℕ) : Type 0 where
  pub within : i < length xs
  pub least : (k : ℕ) → k < length xs → slice_index xs i ≤ slice_index xs k
  pub first : (k : ℕ) → k < i → slice_index xs i < slice_index xs k
