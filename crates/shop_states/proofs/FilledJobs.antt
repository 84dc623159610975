-- The next operations that a fill finds, and their ends.
use Rattle.std.proofs.Common.{◌≡◌, ℕ, ◌+◌, ◌≤◌, ◌<◌, max, List, length, get_or, set, refl, sym, ◌∙◌, ap, arith, subst}
use Rattle.std.proofs.lemmas.{Bool.cases_eq, Grind.get_or-set_at, List.{get_or-set_other, length-set}}
use Rattle.shop_lanes.specs.Rows.{Rows}
use Rattle.shop_model.specs.{Placements.{PlacementState, IsPlacement}, Shop.{IsOperation, Shop, route_of}, Word.Placing}
use Rattle.shop_model.{specs.Word.placing, proofs.Unders.after_word}
use Rattle.shop_bound.specs.Conflicts.{next_end}
use Rattle.shop_layout.specs.{declared.legs.Leg.Leg, Legs.{all_legs, end_of, leg_index}}
use Rattle.shop_layout.specs.Positions.{LayoutState, first_position, position_or}
use Rattle.shop_states.specs.inner.{Fills.{CanFill, IsAtLeg, IsNextSet}, PlacedNexts.IsWordAt}
use Rattle.shop_states.proofs.JobLegs.{leg_is, leg_position_is, step_past, step_there}
use Rattle.shop_states.proofs.PlacedNexts.{of_word_at, placement_at, placement_is, steps_are}

-- the next operations of the first n jobs are told, and their ends were set
pub record AreNextsSet (shop : Shop) (l : LayoutState) (p : Placing) (n : ℕ)
    (old new ends_before ends_after : List ℕ) : Type 0 where
  pub jobs : length new ≡ length old
  pub long : length ends_after ≡ length ends_before
  pub are : (j : ℕ) → j < n
      → get_or new j 0 ≡ position_or (first_position l shop.machines) l.step_positions j (p.steps j)
  pub later : (j : ℕ) → n ≤ j → get_or new j 0 ≡ get_or old j 0
  pub next : (j : ℕ) → j < n → IsOperation shop j (p.steps j) → get_or ends_after j 0 ≡ next_end shop p j + 1
  pub none : (j : ℕ) → (j < n → length (route_of shop j) ≤ p.steps j)
      → get_or ends_after j 0 ≡ get_or ends_before j 0

module _ {greatest : ℕ} {shop : Shop} {l : LayoutState} {rows : Rows} (can : CanFill greatest shop l rows) {j : ℕ}
    (job : j < length shop.jobs) {s : PlacementState} {index ready : ℕ} {free : List ℕ}
    (at : IsAtLeg shop l s j index ready free) {read : LayoutState} (same : read ≡ l) {leg : Leg}
    (is : leg ≡ get_or (all_legs read) index (end_of 0)) {n : ℕ} (count : n ≡ length l.jobs)
    (p : Placing) (placed : IsPlacement shop p s) where
  within : p.steps j ≤ length (route_of shop j)
  within = let of = at.of in let steps = of.placed.steps j job in let here = placed.steps j job in let most = of.fits j
      in let counted = (after_word shop of.word of.fits).steps j in omega arith

  at_step : index ≡ leg_index l j (p.steps j)
  at_step = at.index_is ∙ ap (leg_index l j) (placed.steps j job)

  position_is : leg.position ≡ position_or (first_position l shop.machines) l.step_positions j (p.steps j)
  position_is = leg_position_is can.limits can.laid j job (p.steps j) within same at_step is

  -- a job at the end of its route has none
  pub none_left : n ≤ leg.position → {ends : List ℕ} → IsNextSet shop l p j leg.position ends ends
  none_left above = record {
    is = position_is;
    long = refl;
    next = λ op. absurd (
        let past = step_past can.limits can.laid j job (p.steps j) within same at_step is count above in omega arith);
    none = λ past. refl;
    others = λ i ne. refl;
  }

  pub end_set : leg.position < n → {head : ℕ} → head ≡ max ready (get_or free leg.machine 0) → {old new : List ℕ}
      → new ≡ set old j (head + leg.time + 1) → j < length old → IsNextSet shop l p j leg.position old new
  end_set below {head} greater {old} {new} wrote there =
      grind (arith, step_there, within, at_step, leg_is, position_is, length-set, get_or-set_at, get_or-set_other)

-- of one more job
module _ {shop : Shop} {l : LayoutState} {p : Placing} {n : ℕ} {old now before here : List ℕ}
    (so_far : AreNextsSet shop l p n old now before here) (known : n < length old) where
  pub nexts_more : {position : ℕ} {after : List ℕ} → IsNextSet shop l p n position here after
      → AreNextsSet shop l p (n + 1) old (set now n position) before after
  nexts_more {position} {after} one = grind (arith, length-set, cases_eq, get_or-set_at, get_or-set_other)

-- by what is kept of the jobs of a word
module _ {shop : Shop} {l : LayoutState} {old ready free : List ℕ} (is : IsWordAt shop l old ready free) where
  pub of_word : IsPlacement shop (placing shop is.word) (placement_at l old ready free)
  of_word = placement_is is.word is.placed

  module _ {n : ℕ} {now before here : List ℕ} (so_far : (p : Placing)
      → IsPlacement shop p (placement_at l old ready free) → AreNextsSet shop l p n old now before here) where
    abbrev word_so_far : AreNextsSet shop l (placing shop is.word) n old now before here
    word_so_far = so_far (placing shop is.word) of_word

    pub as_many_ends : length before ≡ length shop.jobs → length here ≡ length shop.jobs
    as_many_ends many = word_so_far.long ∙ many

    job_within : n < length old → n < length shop.jobs
    job_within below = let jobs = is.placed.next_jobs in omega arith

    pub at_leg : n < length old
        → IsAtLeg shop l (placement_at l old ready free) n (get_or now n 0) (get_or ready n 0) free
    at_leg below = record {
      of = of_word_at is;
      index_is = word_so_far.later n (omega arith) ∙ (is.placed.next_at n (job_within below)
          ∙ ap (leg_index l n) (sym (steps_are is.word is.placed n (job_within below))));
      ready_is = refl;
      free_is = refl;
    }

    -- up to the last one
    pub nexts_all : n ≡ length old → (p : Placing) → IsPlacement shop p (placement_at l old ready free)
        → AreNextsSet shop l p (length shop.jobs) old now before here
    nexts_all all p placed = subst (λ (x : ℕ). AreNextsSet shop l p x old now before here) (all ∙ is.placed.next_jobs)
        (so_far p placed)
