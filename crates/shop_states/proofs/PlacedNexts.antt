-- Next legs, and when jobs are ready and machines free, while a word is placed.
use Rattle.std.proofs.Common.{rules, ◌≡◌, ℕ, ◌+◌, ◌-◌, ◌≤◌, ◌<◌, ◌^◌, max, List, length, map, take, get_or, set}
use Rattle.std.proofs.{Common.{subst, sym, arith}, lemmas.{Bool.cases_eq, Grind.get_or-set_at, List.get_or-set_other}}
use Rattle.std.proofs.lemmas.List.{length-set, take_more, FromFn.{get_or-map-range_with_len, length-map-range_with_len}}
use Rattle.std.specs.List.{range_with_len}
use Rattle.shop_model.specs.{Limits.IsWithinLimits, Placements.{IsPlacement, PlacementState}}
use Rattle.shop_model.specs.Shop.{Shop, IsOperation, machine_of, release_of, route_of, time_of}
use Rattle.shop_model.specs.Word.{Placing, IsWord, none_placed, place_next, placing}
use Rattle.shop_model.proofs.{Ends.IsOperation-job, PlacementLemmas.{IsWord-take, placing-take}, Placings.place_next-is}
use Rattle.shop_model.proofs.{Unders.{after_word, next_operation}, WordLengths.{ready_word, word_length}}
use Rattle.shop_bound.specs.inner.PlacedWords.{IsOfWord}
use Rattle.shop_layout.specs.{declared.legs.Leg.Leg, Legs.{all_legs, end_of, leg_index}}
use Rattle.shop_layout.specs.Positions.{IsLaidOut, LayoutState}
use Rattle.shop_states.specs.inner.PlacedNexts.{IsPlacedAt, IsWordAt}
use Rattle.shop_states.proofs.JobLegs.{IsLegOf, first_small, index_there, leg_is, leg_small, next_first}

-- the step of job j of which leg i is, or the number of its steps
abbrev pub step_at : LayoutState → ℕ → ℕ → ℕ
step_at l j i = i - leg_index l j 0

abbrev pub placement_at : LayoutState → List ℕ → List ℕ → List ℕ → PlacementState
placement_at l legs ready free = record {
  steps = map (λ j. step_at l j (get_or legs j 0)) (range_with_len 0 (length legs));
  ready = ready;
  free = free;
}

-- the first n jobs are at their first legs
pub record AreBegun (shop : Shop) (l : LayoutState) (n : ℕ) (legs ready : List ℕ) : Type 0 where
  pub next_jobs : length legs ≡ length shop.jobs
  pub jobs : length ready ≡ length shop.jobs
  pub first : (j : ℕ) → j < n → get_or legs j 0 ≡ leg_index l j 0
  pub released : (j : ℕ) → j < n → get_or ready j 0 ≡ release_of shop j

-- nothing is placed
pub none_at : (shop : Shop) (l : LayoutState) → (legs ready free old : List ℕ)
    → AreBegun shop l (length shop.jobs) legs ready → length free ≡ length old
    → ((m : ℕ) → m < length old → get_or free m 0 ≡ 0) → length old ≡ shop.machines
    → IsPlacedAt shop (none_placed shop) l legs ready free
none_at shop l legs ready free old begun same none long = grind arith

-- where the legs of the next job begin, which is a small number
pub begins_behind : {shop : Shop} → IsWithinLimits shop → {l : LayoutState} → IsLaidOut shop l → {n : ℕ}
    → n < length shop.jobs → {count : ℕ} → count ≡ length (route_of shop n) → {i : ℕ} → i ≡ leg_index l n 0
    → (i + (count + 1) ≡ leg_index l (n + 1) 0) × (i + (count + 1) < 2 ^ 32)
begins_behind limits {l} laid {n} known count_is at =
    let steps = laid.routes n in grind (arith, next_first, first_small)

-- what is read of the next leg of a job that can go on
module _ {shop : Shop} (limits : IsWithinLimits shop) {l : LayoutState} {p : Placing}
    {legs ready free : List ℕ} (at : IsPlacedAt shop p l legs ready free) (j : ℕ)
    (op : IsOperation shop j (p.steps j)) where
  job_known : j < length shop.jobs
  job_known = IsOperation-job shop j (p.steps j) op

  module _ {leg : Leg} (is : IsLegOf shop l j (p.steps j) leg) where
    machine_known : leg.machine < shop.machines
    machine_known = let a = is.machine in let b = limits.on_machines j (p.steps j) in omega arith

    module _ {e : ℕ} (ends : e ≡ max (get_or ready j 0) (get_or free leg.machine 0) + leg.time) where
      finish : e ≡ max (p.ready j) (p.free (machine_of shop j (p.steps j))) + time_of shop j (p.steps j)
      finish = grind (arith, job_known, machine_known)

      -- it is placed
      placed_more : {i : ℕ} → i ≡ get_or legs j 0 + 1
          → IsPlacedAt shop (place_next shop p j) l (set legs j i) (set ready j e) (set free leg.machine e)
      placed_more {i} next =
          grind (
            arith,
            place_next-is,
            job_known,
            machine_known,
            finish,
            length-set,
            cases_eq,
            get_or-set_at,
            get_or-set_other,
          )

-- what is read for the entry of a word that comes next is there, and the sum fits
pub record CanPlaceEntry (read : LayoutState) (j : ℕ) (legs ready free : List ℕ) : Type 0 where
  pub next : j < length legs
  pub job : j < length ready
  pub leg : get_or legs j 0 < length (all_legs read)
  pub few : get_or legs j 0 + 1 < 2 ^ 32
  pub machine : (leg : Leg) → leg ≡ get_or (all_legs read) (get_or legs j 0) (end_of 0) → leg.machine < length free
  pub small : (leg : Leg) → leg ≡ get_or (all_legs read) (get_or legs j 0) (end_of 0)
      → max (get_or ready j 0) (get_or free leg.machine 0) + leg.time < 2 ^ 64

module _ {shop : Shop} (limits : IsWithinLimits shop) {l : LayoutState} (laid : IsLaidOut shop l) (w : List ℕ)
    (word : IsWord shop w) (i : ℕ) (below : i < length w) {legs ready free : List ℕ}
    (at : IsPlacedAt shop (placing shop (take i w)) l legs ready free)
    -- by rows that are those of the layout
    {read : LayoutState} (same : read ≡ l) where
  abbrev before : Placing
  before = placing shop (take i w)

  abbrev j : ℕ
  j = get_or w i 0

  entry_operation : IsOperation shop j (before.steps j)
  entry_operation =
      let v = take i w
      in let fits = subst (IsWord shop) (take_more w i 0 below) (IsWord-take shop w (i + 1) word)
      in let op = next_operation shop v j fits
      in let counts = (after_word shop v (IsWord-take shop w i word)).steps j
      in omega arith

  entry_known : j < length shop.jobs
  entry_known = job_known limits at j entry_operation

  entry_within : before.steps j ≤ length (route_of shop j)
  entry_within = let op = entry_operation in omega arith

  entry_leg : {leg : Leg} → leg ≡ get_or (all_legs read) (get_or legs j 0) (end_of 0)
      → IsLegOf shop l j (before.steps j) leg
  entry_leg is = leg_is limits laid j entry_known (before.steps j) entry_within same (at.next_at j entry_known) is
      entry_operation

  entry_small : (leg : Leg) → leg ≡ get_or (all_legs read) (get_or legs j 0) (end_of 0)
      → max (get_or ready j 0) (get_or free leg.machine 0) + leg.time < 2 ^ 64
  entry_small leg is =
      let found = entry_leg is
      in let few = word_length shop (take i w) limits (IsWord-take shop w i word)
      in let small = ready_word shop limits (take i w)
      in let a = small.ready j in let b = small.free leg.machine
      in let c = at.ready_at j entry_known
      in let d = at.free_at leg.machine (machine_known limits at j entry_operation found)
      in let e = found.time
      in let f = limits.times j (before.steps j)
      in omega arith

  pub can_place_entry : CanPlaceEntry read j legs ready free
  can_place_entry =
      grind (
        arith,
        entry_known,
        index_there,
        entry_within,
        leg_small,
        machine_known,
        entry_operation,
        entry_leg,
        entry_small,
      )

  pub entry_placed : {leg : Leg} → leg ≡ get_or (all_legs read) (get_or legs j 0) (end_of 0)
      → {e x : ℕ} → e ≡ max (get_or ready j 0) (get_or free leg.machine 0) → x ≡ get_or legs j 0 + 1
      → IsPlacedAt shop (placing shop (take (i + 1) w)) l (set legs j x) (set ready j (e + leg.time))
      (set free leg.machine (e + leg.time))
  entry_placed {leg} is {e} {x} ends next =
      subst (λ (p : Placing). IsPlacedAt shop p l (set legs j x) (set ready j (e + leg.time))
      (set free leg.machine (e + leg.time)))
      (sym (placing-take shop w i below))
      (placed_more limits at j entry_operation (entry_leg is) (omega arith) next)

-- the placement of a word
module _ {shop : Shop} (w : List ℕ) {l : LayoutState} {legs ready free : List ℕ}
    (at : IsPlacedAt shop (placing shop w) l legs ready free) where
  abbrev p : Placing
  p = placing shop w

  pub steps_are : (j : ℕ) → j < length shop.jobs
      → get_or (map (λ i. step_at l i (get_or legs i 0)) (range_with_len 0 (length legs))) j 0 ≡ p.steps j
  steps_are j known = grind (arith, get_or-map-range_with_len)

  pub placement_is : IsPlacement shop (placing shop w) (placement_at l legs ready free)
  placement_is = search (rules, length-map-range_with_len, steps_are)

pub of_word_at : {shop : Shop} {l : LayoutState} {legs ready free : List ℕ}
    → IsWordAt shop l legs ready free → IsOfWord shop (placement_at l legs ready free)
of_word_at is = search (rules, placement_is)
