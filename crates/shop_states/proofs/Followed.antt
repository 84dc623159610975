-- The position of a step of a route, or the number of all positions; the position and the time of its leg.
use Rattle.std.proofs.Common.{◌≡◌, ℕ, ◌≤◌, ◌<◌, inl, inr, length, get_or, refl, sym, ◌∙◌, ap, arith}
use Rattle.std.proofs.lemmas.{Bool.{cases_lt, lt-ltb, le-ltb}, List.get_or_past}
use Rattle.shop_layout.specs.{declared.legs.Leg.Leg, Legs.{all_legs, end_of, leg_index, leg_of}}
use Rattle.shop_layout.specs.Positions.{LayoutState, position_of, position_or}
use Rattle.shop_layout.proofs.RouteLegs.{leg_behind, leg_here}
use Rattle.shop_states.specs.inner.Raises.{steps_of}

module _ (l : LayoutState) (n j k : ℕ) where
  pub position_or-there : k < steps_of l j → position_or n l.step_positions j k ≡ position_of l j k
  position_or-there here = rw (lt-ltb k (steps_of l j) here) refl

  pub position_or-past : steps_of l j ≤ k → position_or n l.step_positions j k ≡ n
  position_or-past past = rw (le-ltb k (steps_of l j) past) refl

-- leg k of job j, or the end of its route
module _ (l : LayoutState) {j k : ℕ} (job : j < length l.step_positions) (within : k ≤ steps_of l j) {leg : Leg}
    (is : leg ≡ get_or (all_legs l) (leg_index l j k) (end_of 0)) where
  step_leg : k < steps_of l j → leg ≡ leg_of l.machines l.times (position_of l j k)
  step_leg here = is ∙ leg_here l j job k (end_of 0) here

  end_leg : steps_of l j ≤ k → leg ≡ end_of (length l.jobs)
  end_leg past = is ∙ leg_behind l j job k (end_of 0) (omega arith)

  pub leg_position : leg.position ≡ position_or (length l.jobs) l.step_positions j k
  leg_position = elim (cases_lt k (steps_of l j)) [
    | inl here ↦ ap (λ (x : Leg). x.position) (step_leg here) ∙ sym (position_or-there l (length l.jobs) j k here)
    | inr past ↦ ap (λ (x : Leg). x.position) (end_leg past) ∙ sym (position_or-past l (length l.jobs) j k past)
  ]

  -- the time at its position, or 0 behind the last position
  pub leg_time : length l.times ≤ length l.jobs → leg.time ≡ get_or l.times leg.position 0
  leg_time timed = elim (cases_lt k (steps_of l j)) [
    | inl here ↦ (let e = step_leg here
        in ap (λ (x : Leg). x.time) e ∙ ap (λ (q : ℕ). get_or l.times q 0) (sym (ap (λ (x : Leg). x.position) e)))
    | inr past ↦ (let e = end_leg past in let last = ap (λ (x : Leg). x.position) e
        in ap (λ (x : Leg). x.time) e ∙ sym (get_or_past l.times leg.position 0 (omega arith)))
  ]
