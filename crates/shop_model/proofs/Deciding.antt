-- Verdicts on small instances, decided by computing: each test, where it is true, gives the fact.
use Rattle.std.proofs.Common.{◌≡◌, ℕ, zero, suc, ◌<◌, inl, inr, Bool, true, not, ◌&&◌, ◌||◌, eqb, ltb, leb, List}
use Rattle.std.proofs.{Common.{[], length, slice_index_or, sym, ap, arith}, lemmas.Bool.{and_parts, or_cases, not-true}}
use Rattle.std.proofs.lemmas.Bool.{both_ways, leb-true, eqb-true, eqb-false, lt-ltb, eq-eqb, and_from, or_left}
use Rattle.std.proofs.lemmas.{Bool.{or_right, cases_eq, cases_lt}, List.get_or_past}
use Rattle.shop_model.specs.Shop.{Shop, ShopJob, Starts, no_job, route_of, machine_of, finish_of, IsOperation}
use Rattle.shop_model.specs.{Shop.IsFeasible, Checking.{HasShape, earliest_of, NoneEarly, IsBefore, AreApart}}
use Rattle.shop_model.{specs.Checking.{IsFirstEarly}, proofs.Ends.{IsOperation-job, feasible_from}}

-- p holds of each number below n
abbrev pub each_below : ℕ → (ℕ → Bool) → Bool
each_below zero p = true
each_below (suc n) p = each_below n p && p n

each_below-true : (n : ℕ) (p : ℕ → Bool) (i : ℕ) → each_below n p ≡ true → i < n → p i ≡ true
each_below-true zero p i h below = absurd (omega arith)
each_below-true (suc n) p i h below = grind (arith, and_parts, cases_eq, each_below-true n p i)

-- p holds of each operation
abbrev pub each_operation : Shop → (ℕ → ℕ → Bool) → Bool
each_operation shop p = each_below (length shop.jobs) (λ j. each_below (length (route_of shop j)) (λ k. p j k))

each_operation-true : (shop : Shop) (p : ℕ → ℕ → Bool) (j k : ℕ) → each_operation shop p ≡ true → IsOperation shop j k
    → p j k ≡ true
each_operation-true shop p j k h op =
    each_below-true (length (route_of shop j)) (λ k. p j k) k
    (each_below-true (length shop.jobs) (λ j. each_below (length (route_of shop j)) (λ k. p j k)) j h
    (IsOperation-job shop j k op)) op

-- (j, k) begins in time; two operations are apart; one stands before the other
abbrev pub is_in_time : Shop → Starts → ℕ → ℕ → Bool
is_in_time shop starts j k = leb (earliest_of shop starts j k) (starts j k)

abbrev pub are_apart : Shop → Starts → ℕ → ℕ → ℕ → ℕ → Bool
are_apart shop starts j k i l =
    not (eqb (machine_of shop j k) (machine_of shop i l))
    || (leb (finish_of shop starts j k) (starts i l) || leb (finish_of shop starts i l) (starts j k))

abbrev pub is_before : ℕ → ℕ → ℕ → ℕ → Bool
is_before j k i l = ltb j i || (eqb j i && ltb k l)

abbrev pub is_same : ℕ → ℕ → ℕ → ℕ → Bool
is_same j k i l = eqb j i && eqb k l

are_apart-true : (shop : Shop) (starts : Starts) (j k i l : ℕ) → are_apart shop starts j k i l ≡ true
    → AreApart shop starts j k i l
are_apart-true shop starts j k i l h e = grind (arith, or_cases, eqb-false, not-true, leb-true)

is_before-true : (j k i l : ℕ) → IsBefore j k i l → is_before j k i l ≡ true
is_before-true j k i l before = grind (arith, or_left, lt-ltb, or_right, and_from, eq-eqb)

-- what is no case, or is true
unless : (a b : Bool) → (not a || b) ≡ true → a ≡ true → b ≡ true
unless a b h is = elim (or_cases (not a) b h) [ inl other ↦ absurd (both_ways a (not-true a other) is) | inr so ↦ so ]

-- the rows have the instance's shape
abbrev pub has_shape : Shop → List (List ℕ) → Bool
has_shape shop rows = eqb (length rows) (length shop.jobs)
    && each_below (length shop.jobs) (λ j. eqb (length (slice_index_or rows j [])) (length (route_of shop j)))

pub shape_by_test : (shop : Shop) (rows : List (List ℕ)) → has_shape shop rows ≡ true → HasShape shop rows
shape_by_test shop rows h =
    let both = and_parts (eqb (length rows) (length shop.jobs))
    (each_below (length shop.jobs) (λ j. eqb (length (slice_index_or rows j [])) (length (route_of shop j)))) h
    in let many = eqb-true (length rows) (length shop.jobs) both.0
    in record {
      jobs = many;
      steps = λ j. elim (cases_lt j (length shop.jobs)) [
        | inl below ↦ eqb-true (length (slice_index_or rows j [])) (length (route_of shop j))
            (each_below-true (length shop.jobs)
            (λ j. eqb (length (slice_index_or rows j [])) (length (route_of shop j))) j both.1 below)
        | inr past ↦ rw (get_or_past rows j [] (omega arith))
            (sym (ap (λ (x : ShopJob). length x.route) (get_or_past shop.jobs j no_job past)))
      ];
    }

-- no operation begins too early
pub in_time_by_test : (shop : Shop) (starts : Starts) → each_operation shop (is_in_time shop starts) ≡ true
    → NoneEarly shop starts
in_time_by_test shop starts h j k op =
    leb-true (earliest_of shop starts j k) (starts j k) (each_operation-true shop (is_in_time shop starts) j k h op)

-- of any two different operations one is apart from the other
abbrev pub all_apart : Shop → Starts → Bool
all_apart shop starts = each_operation shop
    (λ j k. each_operation shop (λ i l. is_same j k i l || are_apart shop starts j k i l))

pub feasible_by_test : (shop : Shop) (starts : Starts) → each_operation shop (is_in_time shop starts) ≡ true
    → all_apart shop starts ≡ true → IsFeasible shop starts
feasible_by_test shop starts early apart = feasible_from shop starts (in_time_by_test shop starts early)
    (λ j k i l op other e different.
    let pair = each_operation-true shop (λ i l. is_same j k i l || are_apart shop starts j k i l) i l
    (each_operation-true shop (λ j k. each_operation shop
    (λ i l. is_same j k i l || are_apart shop starts j k i l)) j k apart op) other
    in elim (or_cases (is_same j k i l) (are_apart shop starts j k i l) pair) [
      | inl same ↦ (let both = and_parts (eqb j i) (eqb k l) same
          in absurd (different (eqb-true j i both.0, eqb-true k l both.1)))
      | inr clear ↦ are_apart-true shop starts j k i l clear e
    ])

-- all operations before (j, k) begin in time
abbrev pub in_time_before : Shop → Starts → ℕ → ℕ → Bool
in_time_before shop starts j k = each_operation shop (λ i l. not (is_before i l j k) || is_in_time shop starts i l)

pub first_early_by_test : (shop : Shop) (starts : Starts) (j k : ℕ) → IsOperation shop j k
    → starts j k < earliest_of shop starts j k
    → in_time_before shop starts j k ≡ true → IsFirstEarly shop starts j k
first_early_by_test shop starts j k op early h = record {
  operation = op;
  early = early;
  first = λ i l other before. leb-true (earliest_of shop starts i l) (starts i l)
      (unless (is_before i l j k) (is_in_time shop starts i l)
      (each_operation-true shop (λ i l. not (is_before i l j k) || is_in_time shop starts i l) i l h other)
      (is_before-true i l j k before));
}
