-- The loads of operations with late heads, and what they say of spans.
use Rattle.std.proofs.Common.{◌≡◌, ℕ, ◌+◌, ◌≤◌, ◌<◌, max, true, false, refl, List, [], ◌∷◌, ◌++◌, arith}
use Rattle.std.proofs.lemmas.{Bool.{cases_Bool, cases_lt}, List.{append-nil, length-append, Elements.filter-append}}
use Rattle.std.proofs.lemmas.List.{Elements.recursion_from_All, Sums.sum_by_push, Sorted.All-permutation}
use Rattle.std.{proofs.lemmas.List.Sorted.sum_by-IsPermutation, specs.{List.{filter, sum_by}, Prelude.IsPermutation}}
use Rattle.shop_bound.specs.{declared.triples.Triple.Triple, OneMachine.{greatest_of, one, IsSmall}}
use Rattle.shop_bound.specs.inner.Thresholds.{is_above, span_above}
use Rattle.shop_bound.proofs.{Lists.{greatest_of-le, get_or-le-greatest_of}, SameSums.{permuted_sums, same_one}}
use Rattle.shop_bound.proofs.ThresholdLemmas.{greatest_of-append, one-le, span_above-some, is_above-true}

-- the times of the operations above both thresholds
abbrev pub time_above : List Triple → ℕ → ℕ → ℕ
time_above ts head tail = sum_by (λ t. t.time) (filter (is_above head tail) ts)

-- what a walk over some operations knows: the time of those with a head of at least `from`, and their load
pub record IsLoadOf (us : List Triple) (from time load : ℕ) : Type 0 where
  pub times : (head tail : ℕ) → from ≤ head → time_above us head tail ≤ time
  pub covers : (head tail : ℕ) → from ≤ head → span_above us head tail ≤ head + load
  pub few : time ≤ sum_by (λ t. t.time) us
  pub small : load ≤ time + greatest_of (λ t. t.tail) us

module _ (us : List Triple) (x : Triple) where
  passed : (head tail : ℕ) → is_above head tail x ≡ false
      → filter (is_above head tail) (us ++ x ∷ []) ≡ filter (is_above head tail) us
  passed head tail e = grind (arith, filter-append, e, append-nil)

  taken : (head tail : ℕ) → is_above head tail x ≡ true
      → filter (is_above head tail) (us ++ x ∷ []) ≡ filter (is_above head tail) us ++ x ∷ []
  taken head tail e = grind (arith, filter-append, e)

  span_passed : (head tail : ℕ) → is_above head tail x ≡ false
      → span_above (us ++ x ∷ []) head tail ≡ span_above us head tail
  span_passed head tail e = rw (passed head tail e) refl

  time_taken : (head tail : ℕ) → is_above head tail x ≡ true
      → time_above (us ++ x ∷ []) head tail ≡ time_above us head tail + x.time
  time_taken head tail e = grind (arith, taken, sum_by_push)

  span_taken : (head tail : ℕ) → is_above head tail x ≡ true
      → span_above (us ++ x ∷ []) head tail ≡ head + (time_above us head tail + x.time) + tail
  span_taken head tail e = grind (arith, span_above-some, taken, length-append, time_taken)

  tails_more : greatest_of (λ t. t.tail) (us ++ x ∷ []) ≡ max (greatest_of (λ t. t.tail) us) x.tail
  tails_more = let a = greatest_of-append (λ t. t.tail) us (x ∷ []) in omega arith

  times_more : sum_by (λ t. t.time) (us ++ x ∷ []) ≡ sum_by (λ t. t.time) us + x.time
  times_more = sum_by_push (λ (t : Triple). t.time) us x

  -- an operation more, which has an earlier head
  pub earlier : (from time load : ℕ) → IsLoadOf us from time load → x.head < from
      → IsLoadOf (us ++ x ∷ []) from time load
  earlier from time load is before =
      grind (arith, passed, span_passed, times_more, tails_more, cases_Bool, is_above-true)

  -- or one with a head of at least `from`
  pub later : (from time load more : ℕ) → IsLoadOf us from time load → more ≡ max load (time + x.time + x.tail)
      → IsLoadOf (us ++ x ∷ []) from (time + x.time) more
  later from time load more is e =
      grind (arith, cases_Bool, time_taken, passed, span_taken, is_above-true, span_passed, times_more, tails_more)

-- spans that are at most a bound: those from early heads, as is known, and those from the others by a load
pub all_settled : (ts : List Triple) (from load bound : ℕ)
    → ((head tail : ℕ) → head < from → span_above ts head tail ≤ bound)
    → ((head tail : ℕ) → from ≤ head → span_above ts head tail ≤ head + load)
    → greatest_of (λ t. t.head) ts + load ≤ bound → one ts ≤ bound
all_settled ts from load bound early late all = grind (arith, one-le, cases_lt, get_or-le-greatest_of)

-- in another order the operations have the same greatest numbers and times
module _ (xs ys : List Triple) (same : IsPermutation xs ys) where
  greatest_same : (f : Triple → ℕ) → greatest_of f ys ≤ greatest_of f xs
  greatest_same f = greatest_of-le f (greatest_of f xs) ys
      (recursion_from_All (λ y. f y ≤ greatest_of f xs) ys
      (All-permutation (λ y. f y ≤ greatest_of f xs) xs ys same
      (λ k d h. get_or-le-greatest_of f xs k d h)))

  pub small_in_order : IsSmall xs → IsSmall ys
  small_in_order small = grind (arith, greatest_same, sum_by-IsPermutation)

  pub one_in_order : one ys ≡ one xs
  one_in_order = same_one ys xs (permuted_sums xs ys same)
