-- A row of stacks, each with the words of one bound.
--     AreEmptyBelow n stacks        there are n buckets or more, and no stack before the n-th
--     StaysEmpty before after       where there was none before the n-th bucket, there is none
--     IsFirstFrom stacks n first    no stack from the n-th bucket up to the first, which has one or is the end
--     IsBehind first most stacks k  before bucket k, behind the first one, stand `most` nodes or more
--     TakesTop word before after    the top word is taken from the stack in a bucket, if there is one
use Rattle.std.specs.Prelude.{◌≡◌, ℕ, ◌<◌, ◌≤◌, List, [], ◌∷◌, Option, Some, None, IsSome, length, take, drop}
use Rattle.std.specs.Prelude.{slice_index_or}
use Rattle.shop_runs.specs.inner.Stacks.{Bucket, words_at, nodes_in_row}

abbrev pub AreEmptyBelow : ℕ → List Bucket → Type 0
AreEmptyBelow n stacks = (n ≤ length stacks) × (nodes_in_row 0 (take n stacks) ≡ [])

abbrev pub StaysEmpty : List Bucket → List Bucket → Type 0
StaysEmpty before after = (n : ℕ) → AreEmptyBelow n before → AreEmptyBelow n after

abbrev pub IsFirstFrom : List Bucket → ℕ → ℕ → Type 0
IsFirstFrom stacks n first = (n ≤ first) × (first ≤ length stacks)
    × (nodes_in_row n (drop n stacks) ≡ nodes_in_row first (drop first stacks))
    × (first < length stacks → IsSome (slice_index_or stacks first None))

abbrev pub IsBehind : ℕ → ℕ → List Bucket → ℕ → Type 0
IsBehind first most stacks k = (first < k) × (k ≤ length stacks) × (most ≤ length (nodes_in_row 0 (take k stacks)))

abbrev pub TakesTop : Option (List ℕ) → Bucket → Bucket → Type 0
TakesTop None before after = (before ≡ None) × (after ≡ None)
TakesTop (Some word) before after = words_at before ≡ word ∷ words_at after
