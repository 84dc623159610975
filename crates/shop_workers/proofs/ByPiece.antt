-- An entry written by piece, and one entry more.
use Rattle.std.proofs.Common.{◌≡◌, ℕ, ◌+◌, ◌<◌, ◌≤◌, List, [], ◌∷◌, ◌++◌, length, Option, None, arith}
use Rattle.std.{proofs.lemmas.Grind.{common_steps, elements}, specs.Prelude.{IfSome, slice_index_or, slice_set}}
use Rattle.shop_runs.specs.{Round.Told, Crews.IsEntryOf, declared.entries.Entry.Entry}
use Rattle.shop_workers.specs.inner.Gathered.{AreByPiece}

-- entries still stand at their pieces' numbers once one is written
pub one_written : (r : Told) (l : List (Option Entry)) (i : ℕ) (v : Option Entry)
    → AreByPiece r l → IfSome v (λ e. IsEntryOf r i e) → AreByPiece r (slice_set l i v)
one_written r l i v p h = grind (arith, elements)

-- the entry of piece n, if any, is kept as e
abbrev pub IsKept : List (Option Entry) → ℕ → Entry → Type 0
IsKept by_piece n e = IfSome (slice_index_or by_piece n None) (λ kept. e ≡ kept)

-- from the k-th on, entries stand as they did
abbrev pub AreLeftFrom : ℕ → List (Option Entry) → List (Option Entry) → Type 0
AreLeftFrom k before after = (n : ℕ) → k ≤ n → slice_index_or after n None ≡ slice_index_or before n None

pub one_taken_out : (before after : List (Option Entry)) (k : ℕ)
    → AreLeftFrom k before after → AreLeftFrom (k + 1) before (slice_set after k None)
one_taken_out before after k left n from = grind (arith, common_steps)

-- each entry below the k-th, with its number, has P
abbrev pub UpTo : (ℕ → Entry → Type 0) → List Entry → ℕ → Type 0
UpTo P es k = (n : ℕ) (d : Entry) → n < k → P n (slice_index_or es n d)

pub one_more : (P : ℕ → Entry → Type 0) (es : List Entry) (k : ℕ) (e : Entry)
    → length es ≡ k → UpTo P es k → P k e → UpTo P (es ++ e ∷ []) (k + 1)
one_more P es k e len so_far at = grind (arith, elements)
