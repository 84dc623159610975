-- Lists of numbers: which stand in them, and that none stands twice.
use Rattle.std.proofs.Common.{◌≡◌, ◌⊎◌, ℕ, List, [], ◌∷◌, ◌++◌, Bool, true, false, ◌||◌, ◌&&◌, not, arith, true≢false}
use Rattle.std.proofs.Common.{refl, sym, ap, ◌∙◌, subst, ⊎_elim, eqb, eq-eqb, ne_eqb}
use Rattle.std.proofs.{lemmas.Bool.{both_ways, not-true, or_cases}, lemmas.List.Folds.list_any-append}
use native.Mathlib.Decide.{ℕ_discrete}
use Rattle.shop_workers.specs.Views.{has, once}

-- a number in x ∷ xs is x, or stands in xs
pub has_cons : (x n : ℕ) (xs : List ℕ) → has (x ∷ xs) n ≡ true → (x ≡ n) ⊎ (has xs n ≡ true)
has_cons x n xs h = grind (arith, ℕ_discrete, ne_eqb)

pub has_head : (x : ℕ) (xs : List ℕ) → has (x ∷ xs) x ≡ true
has_head x xs = rw (eq-eqb x x refl)

or_right : (a b : Bool) → b ≡ true → (a || b) ≡ true
or_right x b e = grind arith

pub has_tail : (x n : ℕ) (xs : List ℕ) → has xs n ≡ true → has (x ∷ xs) n ≡ true
has_tail x n xs h = or_right (eqb n x) (has xs n) h

pub has_same : (x n : ℕ) (xs : List ℕ) → x ≡ n → has (x ∷ xs) n ≡ true
has_same x n xs e = subst (λ k. has (x ∷ xs) k ≡ true) e (has_head x xs)

pub has_append : (xs ys : List ℕ) (n : ℕ) → has (xs ++ ys) n ≡ true → (has xs n ≡ true) ⊎ (has ys n ≡ true)
has_append xs ys n h = or_cases (has xs n) (has ys n) (sym (list_any-append (eqb n) xs ys) ∙ h)

pub has_left : (xs ys : List ℕ) (n : ℕ) → has xs n ≡ true → has (xs ++ ys) n ≡ true
has_left xs ys n h = list_any-append (eqb n) xs ys ∙ ap (λ b. b || has ys n) h

pub has_right : (xs ys : List ℕ) (n : ℕ) → has ys n ≡ true → has (xs ++ ys) n ≡ true
has_right xs ys n h = list_any-append (eqb n) xs ys ∙ or_right (has xs n) (has ys n) h

and_both : (a b : Bool) → (a && b) ≡ true → (a ≡ true) × (b ≡ true)
and_both x b e = grind (arith, true≢false)

pub is_false : (b : Bool) → (b ≡ true → ⊥) → b ≡ false
is_false x n = grind arith

-- the first number of those of which none stands twice, and the others
pub once_first : (x : ℕ) (xs : List ℕ) → once (x ∷ xs) ≡ true → has xs x ≡ true → ⊥
once_first x xs o h = both_ways (has xs x) (not-true (has xs x) (and_both (not (has xs x)) (once xs) o).0) h

pub once_others : (x : ℕ) (xs : List ℕ) → once (x ∷ xs) ≡ true → once xs ≡ true
once_others x xs o = (and_both (not (has xs x)) (once xs) o).1

pub once_cons : (x : ℕ) (xs : List ℕ) → (has xs x ≡ true → ⊥) → once xs ≡ true → once (x ∷ xs) ≡ true
once_cons x xs n o = rw (is_false (has xs x) n) o

-- two lists with nothing in common
abbrev pub Apart : List ℕ → List ℕ → Type 0
Apart xs ys = (n : ℕ) → has xs n ≡ true → has ys n ≡ true → ⊥

pub once_append : (xs ys : List ℕ) → once xs ≡ true → once ys ≡ true → Apart xs ys → once (xs ++ ys) ≡ true
once_append [] ys ox oy apart = oy
once_append (x ∷ xs) ys ox oy apart = once_cons x (xs ++ ys)
    (λ h. ⊎_elim (λ a. once_first x xs ox a) (λ b. apart x (has_head x xs) b) (has_append xs ys x h))
    (once_append xs ys (once_others x xs ox) oy (λ n a b. apart n (has_tail x n xs a) b))

pub once_apart : (xs ys : List ℕ) → once (xs ++ ys) ≡ true → Apart xs ys
once_apart [] ys o n a b = true≢false (sym a)
once_apart (x ∷ xs) ys o n a b =
    grind (arith, once_first, has_right, once_others, has_cons, once_apart xs ys (once_others x (xs ++ ys) o) n)
