-- The leg behind an operation: where the next operation of its job stands, and when that one can end.
use Rattle.std.proofs.Common.{◌≡◌, ℕ, ◌+◌, ◌≤◌, ◌<◌, inl, inr, List, length, get_or, set, refl, ◌∙◌, ap, arith}
use Rattle.std.proofs.lemmas.{Bool.{cases_lt, lt-ltb, le-ltb}, Grind.get_or-set_at}
use Rattle.std.proofs.lemmas.List.{get_or_default, get_or_past, length-set}
use Rattle.shop_layout.specs.{declared.legs.Leg.Leg, Legs.{all_legs, end_of, leg_index}, Lanes.rows_of}
use Rattle.shop_layout.{specs.Positions.{LayoutState, position_behind}, proofs.RouteLegs.index_known}
use Rattle.shop_states.specs.inner.{LaneEnds.{CanKeepEnds, end_at}, Raises.{IsStepPosition, steps_of}}
use Rattle.shop_states.proofs.Followed.{leg_position, leg_time}

-- the head where a leg stands, or the greatest number at the end of a route, plus the leg's time is an end
pub record IsNextEnd (greatest : ℕ) (hs : List ℕ) (leg : Leg) (end : ℕ) : Type 0 where
  pub within : leg.position ≤ length hs
  pub sum : get_or hs leg.position greatest + leg.time ≡ end
  pub fits : end ≤ greatest

-- the leg is read from rows that are those of the layout
module _ {l read : LayoutState} (same : read ≡ l) {q : ℕ} (stands : IsStepPosition l q) {index : ℕ}
    (at : index ≡ leg_index read (get_or read.jobs q 0) (get_or read.steps q 0 + 1)) where
  index_is : index ≡ leg_index l (get_or l.jobs q 0) (get_or l.steps q 0 + 1)
  index_is = at ∙ ap (λ (x : LayoutState). leg_index x (get_or x.jobs q 0) (get_or x.steps q 0 + 1)) same

  within : get_or l.steps q 0 + 1 ≤ steps_of l (get_or l.jobs q 0)
  within = let a = stands.step in omega arith

  pub next_leg_known : index < length (all_legs read)
  next_leg_known =
      let a = index_known l (get_or l.jobs q 0) stands.job (get_or l.steps q 0 + 1) within
      in let b = index_is in let c = ap (λ (x : LayoutState). length (all_legs x)) same in omega arith

  module _ {leg : Leg} (is : leg ≡ get_or (all_legs read) index (end_of 0)) where
    found : leg ≡ get_or (all_legs l) (leg_index l (get_or l.jobs q 0) (get_or l.steps q 0 + 1)) (end_of 0)
    found = is ∙ (ap (λ (x : LayoutState). get_or (all_legs x) index (end_of 0)) same
        ∙ ap (λ (i : ℕ). get_or (all_legs l) i (end_of 0)) index_is)

    pub next_position : leg.position ≡ position_behind l q
    next_position = leg_position l stands.job within found

    module _ {greatest : ℕ} {hs es : List ℕ} (nexts : List ℕ) {job : ℕ} (known : job < length nexts)
        (keep : CanKeepEnds greatest l (set nexts job (position_behind l q)) (rows_of l hs es)) where
      can : CanKeepEnds greatest l (set nexts job leg.position) (rows_of l hs es)
      can = rw next_position keep

      here : get_or (set nexts job leg.position) job 0 ≡ leg.position
      here = get_or-set_at nexts job job leg.position 0 refl known

      time : leg.time ≡ get_or l.times leg.position 0
      time = leg_time l stands.job within found
          (let positions = keep.nexts_of_jobs.positions in let timed = keep.timed in omega arith)

      pub next_end : IsNextEnd greatest hs leg (end_at greatest (set nexts job leg.position) (rows_of l hs es) job)
      next_end = record {
        within = (let up_to = can.within job (omega (arith, known, length-set nexts job leg.position))
            in let is = here in omega arith);
        sum = elim (cases_lt leg.position (length hs)) [
          | inl below ↦ rw (here, lt-ltb leg.position (length hs) below)
              (let head = get_or_default hs leg.position greatest 0 below in let is = time in omega arith)
          | inr past ↦ rw (here, le-ltb leg.position (length hs) past)
              (let head = get_or_past hs leg.position greatest past in let is = time in let timed = keep.timed
              in let none = get_or_past l.times leg.position 0 (omega arith) in omega arith)
        ];
        fits = can.fits job (omega (arith, known, length-set nexts job leg.position));
      }
