-- Words of a board that are read, or written as they were, and the words that it opens with.
use Rattle.std.proofs.Common.{◌≡◌, ℕ, zero, suc, ◌<◌, List, [], ◌∷◌, ◌++◌, length, set, replicate, refl, sym, ap, subst}
use Rattle.std.{proofs.{Common.arith, lemmas.List.set-get_or}, specs.Prelude.slice_index}
use mathlib.Core.Option.{some, some-ne-none, some-injective}
use lib.ListN.{get_elem?}

-- a word written as it was
pub same_word : (words : List ℕ) (i x : ℕ) → slice_index words i ≡ x → set words i x ≡ words
same_word words i x e = subst (λ k. set words i k ≡ words) e (set-get_or words i 0)

-- a word that was read
pub word_read : (l : List ℕ) (i a : ℕ) → get_elem? l i ≡ some a → slice_index l i ≡ a
word_read [] i a e = absurd (some-ne-none a (sym e))
word_read (x ∷ xs) zero a e = some-injective x a e
word_read (x ∷ xs) (suc i) a e = word_read xs i a e

pub zeros_length : (n x : ℕ) → length (replicate n 0 ++ x ∷ []) ≡ suc n
zeros_length zero x = refl
zeros_length (suc n) x = ap suc (zeros_length n x)

pub zeros_at : (n x i : ℕ) → i < n → slice_index (replicate n 0 ++ x ∷ []) i ≡ 0
zeros_at zero x i h = absurd (omega arith)
zeros_at (suc n) x zero h = refl
zeros_at (suc n) x (suc i) h = zeros_at n x i (omega arith)

pub zeros_end : (n x : ℕ) → slice_index (replicate n 0 ++ x ∷ []) n ≡ x
zeros_end zero x = refl
zeros_end (suc n) x = zeros_end n x
