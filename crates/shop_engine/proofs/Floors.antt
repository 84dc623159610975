-- What waits at the beginning of a search, counted by hand.
use Rattle.std.proofs.Common.{◌≡◌, ℕ, zero, suc, ◌+◌, ◌≤◌, ◌<◌, max, inl, inr, List, [], ◌∷◌, ◌++◌, length, get_or}
use Rattle.std.proofs.Common.{take, drop, refl, sym, ap, subst, arith, add-one, eqb, ltb}
use Rattle.std.proofs.{lemmas.Bool.{cases_Bool, eq-eqb, eqb-true}, lemmas.List.{map-append, length-append}}
use Rattle.std.proofs.{lemmas.List.Elements.filter-append, lemmas.List.Sums.{sum_by-append, sum_by-cons}}
use Rattle.std.specs.List.{AllByRecursion, filter, flat_map, sum_by, range_with_len}
use Rattle.shop_model.specs.{declared.ops.Op.Op, Limits.IsWithinLimits, Word.{none_placed, start_jobs, IsWord}}
use Rattle.shop_model.specs.Shop.{Shop, no_op, release_of, route_of, machine_of, IsOperation}
use Rattle.shop_model.proofs.{Ends.IsOperation-job, Greatest.le-greatest_below}
use Rattle.shop_bound.specs.Bound.{Waiting, waiting_from, waiting_of, waiting, triples_on, lb}
use Rattle.shop_bound.specs.{OneMachine.{span_of, one}, declared.triples.Triple.Triple}
use Rattle.shop_bound.proofs.{BoundsRise.bounds_rise, ThresholdLemmas.{le-greatest_sublist, le-least_of}}
use Rattle.shop_bound.proofs.Lists.{IsSublist, none, skip, keep, all_append, all_filter, all_map}
use Rattle.shop_nodes.proofs.Members.{In, in_map, in_filter, in_flat_map, in_range}
use Rattle.shop_runs.{specs.{Round.{Planned, opening}, Answers.{answer, bound_of}}, proofs.Covering.opens_covering}
use Rattle.shop_engine.proofs.{WalksAbove.IsAbove, LaterBounds.{least_above, rounds_above}}
use Rattle.shop_engine.specs.Floors.{times_of, work_in, work_of, AreLeastOn, BoundsReachTheFloor}

-- ---- sublists

nothing : {A : Type 0} (xs : List A) → IsSublist [] xs
nothing [] = none
nothing (x ∷ xs) = skip x (nothing xs)

everything : {A : Type 0} (xs : List A) → IsSublist xs xs
everything [] = none
everything (x ∷ xs) = keep x (everything xs)

single : (x : Triple) (xs : List Triple) → In x xs → IsSublist (x ∷ []) xs
single x [] h = absurd h
single x (y ∷ ys) h = elim h [
  | inl e ↦ subst (λ z. IsSublist (z ∷ []) (y ∷ ys)) (sym e) (keep y (nothing ys))
  | inr g ↦ skip y (single x ys g)
]

-- ---- on one machine

module _ (m : ℕ) where
  on_append : (xs ys : List Waiting) → triples_on m (xs ++ ys) ≡ triples_on m xs ++ triples_on m ys
  on_append xs ys = grind (arith, filter-append, map-append)

  work_from : (j k r : ℕ) (os : List Op)
      → sum_by (λ t. t.time) (triples_on m (waiting_from (λ i. 0) j k r os)) ≡ work_in m os
  work_from j k r [] = refl
  work_from j k r (o ∷ os) =
      let later = work_from j (k + 1) (max r 0 + o.time) os
      in elim (cases_Bool (eqb o.machine m)) [
        | inl e ↦ rw e (let a = sum_by-cons (λ (t : Triple). t.time)
            (record { head = max r 0; time = o.time; tail = times_of os })
            (triples_on m (waiting_from (λ i. 0) j (k + 1) (max r 0 + o.time) os))
            in let b = sum_by-cons (λ (p : Op). p.time) o (filter (λ p. eqb p.machine m) os) in omega arith)
        | inr e ↦ rw e later
      ]

  some_from : (j k r : ℕ) (os : List Op) (i : ℕ) → i < length os → (get_or os i no_op).machine ≡ m
      → 0 < length (triples_on m (waiting_from (λ i. 0) j k r os))
  some_from j k r [] i below on = absurd (omega arith)
  some_from j k r (o ∷ os) zero below on = rw (eq-eqb o.machine m on) (omega arith)
  some_from j k r (o ∷ os) (suc i) below on =
      let later = some_from j (k + 1) (max r 0 + o.time) os i (omega arith) on
      in elim (cases_Bool (eqb o.machine m)) [
        | inl e ↦ rw e (omega arith)
        | inr e ↦ rw e later
      ]

  module _ (head tail : ℕ) where
    abbrev IsLate : Triple → Type 0
    IsLate t = (head ≤ t.head) × (tail ≤ t.tail)

    abbrev AreLate : ℕ → List Op → Type 0
    AreLate r os = (i : ℕ) → i < length os → (get_or os i no_op).machine ≡ m
        → (head ≤ r + times_of (take i os)) × (tail ≤ times_of (drop (suc i) os))

    late_from : (j k r : ℕ) (os : List Op) → AreLate r os
        → AllByRecursion IsLate (triples_on m (waiting_from (λ i. 0) j k r os))
    late_from j k r [] late = tt
    late_from j k r (o ∷ os) late =
        let later : AllByRecursion IsLate (triples_on m (waiting_from (λ i. 0) j (k + 1) (max r 0 + o.time) os)) =
        late_from j (k + 1) (max r 0 + o.time) os (λ i below on. let g = late (suc i) (omega arith) on
        in let e = sum_by-cons (λ (p : Op). p.time) o (take i os) in (omega arith, g.1))
        in elim (cases_Bool (eqb o.machine m)) [
          | inl e ↦ rw e (let g = late 0 (omega arith) (eqb-true o.machine m e) in ((omega arith, g.1), later))
          | inr e ↦ rw e later
        ]

  -- ---- of all jobs

  module _ (shop : Shop) where
    abbrev of_job : ℕ → List Waiting
    of_job j = waiting_of shop (none_placed shop) j

    work_all : (js : List ℕ) → sum_by (λ t. t.time) (triples_on m (flat_map of_job js))
        ≡ sum_by (λ j. work_in m (route_of shop j)) js
    work_all [] = refl
    work_all (j ∷ js) =
        let split = ap (sum_by (λ (t : Triple). t.time)) (on_append (of_job j) (flat_map of_job js))
        in let a = sum_by-append (λ (t : Triple). t.time) (triples_on m (of_job j)) (triples_on m (flat_map of_job js))
        in let b = work_from j 0 (release_of shop j) (route_of shop j)
        in let c = sum_by-cons (λ (i : ℕ). work_in m (route_of shop i)) j js
        in let d = work_all js
        in omega arith

    late_all : (head tail : ℕ) → AreLeastOn shop m head tail → (js : List ℕ)
        → AllByRecursion (IsLate head tail) (triples_on m (flat_map of_job js))
    late_all head tail least [] = tt
    late_all head tail least (j ∷ js) =
        rw (on_append (of_job j) (flat_map of_job js))
        (all_append (IsLate head tail) (triples_on m (of_job j)) (triples_on m (flat_map of_job js))
        (late_from head tail j 0 (release_of shop j) (route_of shop j) (λ i below on. (
          least.heads j i below on,
          rw (← add-one) (least.tails j i below on),
        ))) (late_all head tail least js))

    some_all : (j k : ℕ) → IsOperation shop j k → machine_of shop j k ≡ m → (js : List ℕ) → In j js
        → 0 < length (triples_on m (flat_map of_job js))
    some_all j k op on [] h = absurd h
    some_all j k op on (i ∷ js) h =
        let split = ap length (on_append (of_job i) (flat_map of_job js))
        in let a = length-append (triples_on m (of_job i)) (triples_on m (flat_map of_job js))
        in elim h [
          | inl e ↦ (let b = some_from j 0 (release_of shop j) (route_of shop j) k op on
              in let c = ap (λ (n : ℕ). length (triples_on m (of_job n))) e in omega arith)
          | inr g ↦ (let b = some_all j k op on js g in omega arith)
        ]

-- the first step of a job, as it waits
abbrev first_of : ℕ → ℕ → List Op → Waiting
first_of j r os = record {
  job = j;
  step = 0;
  machine = (get_or os 0 no_op).machine;
  triple = record {
    head = max r 0;
    time = (get_or os 0 no_op).time;
    tail = times_of (drop 1 os);
  };
}

first_waits : (j r : ℕ) (os : List Op) → 0 < length os → In (first_of j r os) (waiting_from (λ i. 0) j 0 r os)
first_waits j r [] some = absurd (omega arith)
first_waits j r (o ∷ os) some = inl refl

first_times : (os : List Op) → 0 < length os → times_of os ≡ (get_or os 0 no_op).time + times_of (drop 1 os)
first_times [] some = absurd (omega arith)
first_times (o ∷ os) some = sum_by-cons (λ (p : Op). p.time) o os

span_reaches : (head tail : ℕ) (ts : List Triple) → 0 < length ts
    → AllByRecursion (λ t. (head ≤ t.head) × (tail ≤ t.tail)) ts → head + sum_by (λ t. t.time) ts + tail ≤ one ts
span_reaches head tail [] some late = absurd (omega arith)
span_reaches head tail (t ∷ ts) some late =
    let a = le-least_of (λ (t : Triple). t.head) head t ts
    (all_map (λ (t : Triple). (head ≤ t.head) × (tail ≤ t.tail)) (λ t. head ≤ t.head) (λ t h. h.0) (t ∷ ts) late)
    in let b = le-least_of (λ (t : Triple). t.tail) tail t ts
    (all_map (λ (t : Triple). (head ≤ t.head) × (tail ≤ t.tail)) (λ t. tail ≤ t.tail) (λ t h. h.1) (t ∷ ts) late)
    in let c = le-greatest_sublist span_of (everything (t ∷ ts))
    in omega arith

module _ (shop : Shop) (limits : IsWithinLimits shop) where
  -- the bound of the empty word is reached by every answer's
  start_word : IsWord shop (start_jobs shop)
  start_word j = let a = (opens_covering shop).0.full j in omega arith

  root_le : (plan : Planned) → lb shop [] ≤ bound_of shop (answer shop plan)
  root_le plan =
      let rises = bounds_rise shop [] (start_jobs shop) limits start_word
      in let root : IsAbove shop limits (lb shop []) [] = record { word = λ j. omega arith; above = omega arith }
      in let opened = least_above shop limits (lb shop []) (lb shop (start_jobs shop)) (opening shop).open_words rises
      (all_filter (λ w. ltb (lb shop w) (lb shop (start_jobs shop))) (IsAbove shop limits (lb shop []))
      (IsAbove shop limits (lb shop [])) (λ w h e. h) ([] ∷ []) (root, tt))
      in let later = rounds_above shop limits plan plan.rounds (opening shop) (opens_covering shop)
      in omega arith

  -- and the bound of the empty word reaches the one-machine bounds
  one_le : (m : ℕ) → m < shop.machines → one (triples_on m (waiting shop (none_placed shop))) ≤ lb shop []
  one_le m below =
      let a = le-greatest_below (λ i. one (triples_on i (waiting shop (none_placed shop)))) shop.machines m below
      in omega arith

  machine_floor : (plan : Planned) (j k m head tail : ℕ) → IsOperation shop j k → machine_of shop j k ≡ m
      → AreLeastOn shop m head tail → head + work_of shop m + tail ≤ bound_of shop (answer shop plan)
  machine_floor plan j k m head tail op on least =
      let js = range_with_len 0 (length shop.jobs)
      in let some = some_all m shop j k op on js (in_range 0 (length shop.jobs) j (omega arith)
      (let below = IsOperation-job shop j k op in omega arith))
      in let a = span_reaches head tail (triples_on m (waiting shop (none_placed shop))) some
      (late_all m shop head tail least js)
      in let work = work_all m shop js
      in let below : m < shop.machines = (let l = limits.on_machines j k in omega arith)
      in let b = one_le m below
      in let c = root_le plan
      in omega arith

  job_floor : (plan : Planned) (j : ℕ) → IsOperation shop j 0
      → release_of shop j + times_of (route_of shop j) ≤ bound_of shop (answer shop plan)
  job_floor plan j op =
      let m = machine_of shop j 0
      in let x = first_of j (release_of shop j) (route_of shop j)
      in let ws = waiting shop (none_placed shop)
      in let member : In x ws = in_flat_map (λ i. waiting_of shop (none_placed shop) i) j x
      (range_with_len 0 (length shop.jobs)) (in_range 0 (length shop.jobs) j (omega arith)
      (let below = IsOperation-job shop j 0 op in omega arith)) (first_waits j (release_of shop j) (route_of shop j) op)
      in let here : In x.triple (triples_on m ws) = in_map (λ (w : Waiting). w.triple) x
      (filter (λ (w : Waiting). eqb w.machine m) ws)
      (in_filter (λ (w : Waiting). eqb w.machine m) x ws member (eq-eqb m m refl))
      in let a = le-greatest_sublist span_of (single x.triple (triples_on m ws) here)
      in let b = one_le m (limits.on_machines j 0)
      in let c = root_le plan
      in let d = first_times (route_of shop j) op
      in omega arith

pub bounds_reach_the_floor : BoundsReachTheFloor
bounds_reach_the_floor = record {
  machines = λ shop plan limits j k m head tail op on least.
      machine_floor shop limits plan j k m head tail op on least;
  jobs = λ shop plan limits j op. job_floor shop limits plan j op;
}
