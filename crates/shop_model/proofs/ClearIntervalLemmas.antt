-- Intervals that are clear of all others: how a pass finds them, and that their operations are apart.
use Rattle.std.proofs.Common.{◌≡◌, ℕ, zero, suc, ◌+◌, ◌≤◌, ◌<◌, inl, inr, List, length, get_or, set, sym, ◌∙◌, subst}
use Rattle.std.proofs.{Common.{arith, add-one, true, Result, Ok, Err, Ordering, Equal}, lemmas.Bool.cases_eq}
use Rattle.std.proofs.lemmas.{Bool.cases_order, List.{get_or_default, get_or-set_same, get_or-set_other, length-set}}
use Rattle.std.specs.{List.{AllPairs, HoldsAt, Sorted.IsSearchInRange}, Result.{is_ok, IfOk}, Ordering.nat_cmp}
use Rattle.std.specs.Ordering.{ordering_then}
use Rattle.shop_model.specs.{declared.intervals.Interval.Interval, Shop.Shop, inner.Intervals.{intervals_of, IsInTurn}}
use Rattle.shop_model.specs.inner.ClearIntervals.{EndsNotAfter, AreInOrder, IsBetween, ArePartedIntervals, IsClearOf}
use Rattle.shop_model.{specs.inner.ClearIntervals.{AreClearOf, AreOfApart}, proofs.IntervalLemmas.in_turn_parted}
use Rattle.shop_model.proofs.IntervalLemmas.{parted_both_ways, of_operations}

-- k intervals have been looked at: of them `count` clear ones stand in front, and `latest` ends last of all
pub record ClearSoFar (xs ys : List Interval) (k count : ℕ) (latest : Interval) : Type 0 where
  pub few : count ≤ k
  pub long : length ys ≡ length xs
  pub left : (n : ℕ) (d : Interval) → k ≤ n → n < length xs → get_or ys n d ≡ get_or xs n d
  pub clear : (n : ℕ) (d : Interval) → n < count → IsClearOf xs (get_or ys n d)
  pub passed : (n : ℕ) (d : Interval) → n < k → EndsNotAfter (get_or xs n d) latest

turn_back : (a b c : Interval) → EndsNotAfter a b → IsInTurn b c → IsInTurn a c
turn_back a b c before turn = grind arith

-- what is in turn with the next interval is so with all later ones
turn_far : (xs : List Interval) → AreInOrder xs → (a d : Interval) (k n : ℕ) → k < n → n < length xs
    → IsInTurn a (get_or xs (k + 1) d) → IsInTurn a (get_or xs n d)
turn_far xs order a d k zero before below turn = absurd (omega arith)
turn_far xs order a d k (suc n) before below turn = grind (arith, cases_eq, add-one, turn_far xs order a d k n)

module _ (xs ys : List Interval) (k count : ℕ) (latest one last : Interval)
    (so_far : ClearSoFar xs ys k count latest) (here : one ≡ get_or ys k one) (below : k < length xs)
    (ends : EndsNotAfter latest last) (ends_too : EndsNotAfter one last) where
  same : (n : ℕ) (d : Interval) → k ≤ n → n < length xs → get_or xs n d ≡ get_or ys n d
  same n d h g = sym (so_far.left n d h g)

  at_k : (d : Interval) → get_or ys k d ≡ one
  at_k d = get_or_default ys k d one (let e = so_far.long in omega arith) ∙ sym here

  it_is : (d : Interval) → get_or xs k d ≡ one
  it_is d = same k d (omega arith) below ∙ at_k d

  passed_more : (n : ℕ) (d : Interval) → n < k + 1 → EndsNotAfter (get_or xs n d) last
  passed_more n d h = grind (arith, cases_eq, it_is)

  -- the interval is passed over
  pub clear_not_more : ClearSoFar xs ys (k + 1) count last
  clear_not_more = grind (arith, passed_more)

  is_clear_of : AreInOrder xs → IsBetween latest ys k → IsClearOf xs one
  is_clear_of order between = record {
    index = k;
    is = it_is;
    parted = λ n d h ne. elim (cases_order n k) [
      | inl e ↦ absurd (ne e)
      | inr o ↦ elim o [
        | inl g ↦ parted_both_ways (get_or xs n d) one (in_turn_parted (get_or xs n d) one
            (turn_back (get_or xs n d) latest one (so_far.passed n d g) (rw at_k at (between d).0)))
        | inr g ↦ in_turn_parted one (get_or xs n d) (turn_far xs order one d k n g h
            (rw (same (k + 1) d (omega arith) (omega arith))
            (rw at_k at ((between d).1 (let e = so_far.long in omega arith)))))
      ]
    ];
  }

  -- it is kept
  pub clear_more : AreInOrder xs → IsBetween latest ys k → ClearSoFar xs (set ys count one) (k + 1) (count + 1) last
  clear_more order between =
      grind (arith, length-set, get_or-set_other, cases_eq, get_or-set_same, is_clear_of, passed_more)

-- of two intervals, one that is clear doesn't overlap with the other
abbrev pub AreClearPair : List Interval → Interval → Interval → Type 0
AreClearPair xs a b = (IsClearOf xs a → ArePartedIntervals a b) × (IsClearOf xs b → ArePartedIntervals b a)

pub clear_both_ways : (xs : List Interval) (a b : Interval) → AreClearPair xs a b → AreClearPair xs b a
clear_both_ways xs a b pair = (pair.1, pair.0)

pub clear_pairs : (xs : List Interval) → AllPairs (AreClearPair xs) xs
clear_pairs xs k l d before below = grind arith

pub apart_from_clear : (shop : Shop) (rows : List (List ℕ)) (xs ys : List Interval)
    → AllPairs (AreClearPair xs) (intervals_of shop rows) → AreClearOf xs ys → AreOfApart shop rows ys
apart_from_clear shop rows xs ys all clear j k n d op below is i l other before =
    (of_operations shop rows (AreClearPair xs) all j k i l op other before).0
    (subst (λ (a : Interval). IsClearOf xs a) is (clear n d below))

-- intervals that no comparison tells apart are one
abbrev pub interval_cmp : Interval → Interval → Ordering
interval_cmp a b = ordering_then (nat_cmp a.machine b.machine)
    (ordering_then (nat_cmp a.start b.start) (nat_cmp a.finish b.finish))

same_interval : (a b : Interval) → interval_cmp a b ≡ Equal → a ≡ b
same_interval a b e = grind arith

-- a binary search that doesn't fail finds the interval
pub found : (xs : List Interval) (a : Interval) (r : Result ℕ ℕ) → is_ok r ≡ true → IsSearchInRange r (length xs)
    → IfOk r (HoldsAt (λ b. interval_cmp b a ≡ Equal) xs)
    → (i : ℕ) × (i < length xs) × ((d : Interval) → get_or xs i d ≡ a)
found xs a (Ok i) e within h = (i, within, λ d. same_interval (get_or xs i d) a (h d))
found xs a (Err i) e within h = cc
