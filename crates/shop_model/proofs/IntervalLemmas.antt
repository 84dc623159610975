-- Intervals in turn are apart, and so are the operations that they stand for.
use Rattle.std.proofs.Common.{◌≡◌, ℕ, zero, suc, ◌+◌, ◌≤◌, ◌<◌, inl, inr, List, [], ◌∷◌, ◌++◌, length, map, take}
use Rattle.std.proofs.{Common.{get_or, slice_index_or, sym, ◌∙◌, ap, arith, All}, lemmas.Bool.cases_eq}
use Rattle.std.{proofs.lemmas.List.{take-take, take_all, Concat.{length-flat_map, get_or-flat_map}}, specs.List.sum_by}
use Rattle.std.proofs.lemmas.List.{Elements.All-from_recursion, FromFn.{length-range_with_len, get_or-range_with_len}}
use Rattle.std.proofs.lemmas.List.{FromFn.{length-map-range_with_len, get_or-map-range_with_len}, Sums.sum_by-take-le}
use Rattle.std.{proofs.lemmas.List.Sums.sum_by_more, specs.List.{range_with_len, flat_map, AllPairs, AllByRecursion}}
use Rattle.shop_model.specs.{declared.intervals.Interval.Interval, Shop.{Shop, route_of, IsOperation}}
use Rattle.shop_model.specs.{Checking.{IsBefore, starts_of}, inner.FirstFaults.AllApart}
use Rattle.shop_model.specs.inner.Intervals.{interval_at, intervals_at, intervals_of, IsInTurn, AreInTurn}
use Rattle.shop_model.specs.inner.ClearIntervals.{ArePartedIntervals}
use Rattle.shop_model.proofs.Ends.{IsOperation-job}

-- no interval ends before it begins
abbrev pub IsForward : Interval → Type 0
IsForward a = a.start ≤ a.finish

in_turn_far : (xs : List Interval) → AreInTurn xs → All IsForward xs → (k l : ℕ) (d : Interval) → k < l → l < length xs
    → IsInTurn (get_or xs k d) (get_or xs l d)
in_turn_far xs turns forward k zero d before below = absurd (omega arith)
in_turn_far xs turns forward k (suc l) d before below = grind (arith, cases_eq, in_turn_far xs turns forward k l d)

pub in_turn_parted : (a b : Interval) → IsInTurn a b → ArePartedIntervals a b
in_turn_parted a b turn same = elim turn [ inl h ↦ absurd (omega arith) | inr h ↦ inl h.1 ]

pub parted_pairs : (xs : List Interval) → AreInTurn xs → All IsForward xs → AllPairs ArePartedIntervals xs
parted_pairs xs turns forward k l d before below = grind (arith, in_turn_parted, in_turn_far)

pub parted_both_ways : (a b : Interval) → ArePartedIntervals a b → ArePartedIntervals b a
parted_both_ways a b parted same = elim (parted (sym same)) [ inl h ↦ inr h | inr h ↦ inl h ]

-- lists of intervals that are all forward
forward_map : (f : ℕ → Interval) → ((n : ℕ) → IsForward (f n)) → (ns : List ℕ) → AllByRecursion IsForward (map f ns)
forward_map f h [] = tt
forward_map f h (n ∷ ns) = (h n, forward_map f h ns)

forward_append : (xs ys : List Interval) → AllByRecursion IsForward xs → AllByRecursion IsForward ys
    → AllByRecursion IsForward (xs ++ ys)
forward_append [] ys h g = g
forward_append (x ∷ xs) ys h g = (h.0, forward_append xs ys h.1 g)

forward_parts : (f : ℕ → List Interval) → ((n : ℕ) → AllByRecursion IsForward (f n)) → (ns : List ℕ)
    → AllByRecursion IsForward (flat_map f ns)
forward_parts f h [] = tt
forward_parts f h (n ∷ ns) = forward_append (f n) (flat_map f ns) (h n) (forward_parts f h ns)

-- where the interval of step k of job j stands
module _ (shop : Shop) (rows : List (List ℕ)) where
  abbrev part : ℕ → List Interval
  part j = intervals_at (route_of shop j) (slice_index_or rows j [])

  abbrev numbers : List ℕ
  numbers = range_with_len 0 (length shop.jobs)

  abbrev index : ℕ → ℕ → ℕ
  index j k = length (flat_map part (take j numbers)) + k

  abbrev interval : ℕ → ℕ → Interval
  interval j k = interval_at (route_of shop j) (slice_index_or rows j []) k

  part_length : (j : ℕ) → length (part j) ≡ length (route_of shop j)
  part_length j = grind (arith, length-map-range_with_len, slice_index_or)

  number_at : (j : ℕ) → j < length shop.jobs → get_or numbers j 0 ≡ j
  number_at j h = get_or-range_with_len 0 (length shop.jobs) j 0 h ∙ omega arith

  interval_at_index : (j k : ℕ) (d : Interval) → IsOperation shop j k
      → get_or (intervals_of shop rows) (index j k) d ≡ interval j k
  interval_at_index j k d op =
      let job = IsOperation-job shop j k op
      in let many = length-range_with_len 0 (length shop.jobs)
      in let at = number_at j job
      in let short : k < length (part (get_or numbers j 0)) = rw (at, part_length) op
      in get_or-flat_map part numbers j k 0 d (omega arith) short
      ∙ (ap (λ (i : ℕ). get_or (part i) k d) at
      ∙ get_or-map-range_with_len (interval_at (route_of shop j) (slice_index_or rows j [])) 0
      (length (route_of shop j)) k k d op (omega arith))

  -- a job's intervals stand before those of later jobs
  part_ends : (j n : ℕ) → j < n → n ≤ length shop.jobs
      → length (flat_map part (take j numbers)) + length (route_of shop j) ≤ length (flat_map part (take n numbers))
  part_ends j n before few =
      let sizes : ℕ → ℕ = λ i. length (part i)
      in let many = length-range_with_len 0 (length shop.jobs)
      in let a = length-flat_map part (take j numbers)
      in let b = length-flat_map part (take n numbers)
      in let more = sum_by_more sizes numbers j 0 (omega arith)
      in let size : sizes (get_or numbers j 0) ≡ length (route_of shop j) =
      rw (number_at j (omega arith)) (part_length j)
      in let front : take (j + 1) numbers ≡ take (j + 1) (take n numbers) =
      sym (take-take (j + 1) n numbers (omega arith))
      in let le = sum_by-take-le sizes (take n numbers) (j + 1)
      in let same : sum_by sizes (take (j + 1) numbers) ≡ sum_by sizes (take (j + 1) (take n numbers)) =
      ap (sum_by sizes) front
      in omega arith

  index_before : (j k i l : ℕ) → IsOperation shop j k → IsOperation shop i l → IsBefore j k i l → index j k < index i l
  index_before j k i l op other before = elim before [
    | inl h ↦ (let job = IsOperation-job shop i l other in let a = part_ends j i h (omega arith) in omega arith)
    | inr h ↦ (let e : length (flat_map part (take j numbers)) ≡ length (flat_map part (take i numbers))
        = ap (λ (n : ℕ). length (flat_map part (take n numbers))) h.0 in let x = h.1 in omega arith)
  ]

  index_below : (j k : ℕ) → IsOperation shop j k → index j k < length (intervals_of shop rows)
  index_below j k op =
      let job = IsOperation-job shop j k op
      in let a = part_ends j (length shop.jobs) job (omega arith)
      in let all : take (length shop.jobs) numbers ≡ numbers =
      take_all (length shop.jobs) numbers (rw length-range_with_len (omega arith))
      in let b : length (flat_map part (take (length shop.jobs) numbers)) ≡ length (intervals_of shop rows)
      = ap (λ (xs : List ℕ). length (flat_map part xs)) all
      in omega arith

  -- what holds of each pair of intervals holds of those of two operations
  pub of_operations : (S : Interval → Interval → Type 0) → AllPairs S (intervals_of shop rows) → (j k i l : ℕ)
      → IsOperation shop j k → IsOperation shop i l → IsBefore j k i l → S (interval j k) (interval i l)
  of_operations S all j k i l op other before =
      let d : Interval = record { machine = 0; start = 0; finish = 0 }
      in rw (interval_at_index j k d op, interval_at_index i l d other)
      at (all (index j k) (index i l) d (index_before j k i l op other before) (index_below i l other))

  pub apart_from_pairs : AllPairs ArePartedIntervals (intervals_of shop rows) → AllApart shop (starts_of rows)
  apart_from_pairs all j k i l op other before same = of_operations ArePartedIntervals all j k i l op other before same

  -- no interval ends before it begins
  pub intervals_forward : All IsForward (intervals_of shop rows)
  intervals_forward = grind (arith, All-from_recursion, forward_parts, forward_map, range_with_len)
