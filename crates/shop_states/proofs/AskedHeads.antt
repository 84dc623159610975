-- Heads that are as high as positions ask for, when what they ask for changes.
use Rattle.std.proofs.Common.{◌≡◌, ℕ, ◌≤◌, ◌<◌, get_or, refl, ap, arith}
use Rattle.shop_layout.specs.Positions.{LayoutState, position_of}
use Rattle.shop_states.specs.inner.Raises.{AreInRouteOrder, AsksNext, AsksOwn, IsStepPosition, IsPosition, IsRaised}

-- heads raised for some positions are raised for others, if they reach what these ask for
pub asks_less : {l : LayoutState} {A B : ℕ → Type 0} {asks more : ℕ → ℕ → ℕ → Type 0} {old new : ℕ → ℕ}
    → IsRaised l B more old new → ((p q v : ℕ) → A p → asks p q v → 0 < old p → v ≤ new q) → IsRaised l A asks old new
asks_less r reach = record { rises = r.rises; rests = r.rests; order = r.order; reach = reach }

-- what positions ask for themselves
pub own_reached : {l : LayoutState} {A : ℕ → Type 0} {e : ℕ} {old new : ℕ → ℕ} → IsRaised l A (AsksOwn e) old new
    → (q : ℕ) → A q → 0 < old q → e ≤ new q
own_reached {e = e} r q here waits = r.reach q q e here (refl, refl) waits

pub reach_own : {A : ℕ → Type 0} {e : ℕ} {old new : ℕ → ℕ} → ((q : ℕ) → A q → 0 < old q → e ≤ new q)
    → (p q v : ℕ) → A p → AsksOwn e p q v → 0 < old p → v ≤ new q
reach_own reach p q v here asked waits = rw (asked.0, asked.1) (reach p here waits)

-- what follows a position begins late enough where the position does, and routes are in order
pub reach_next : {l : LayoutState} {free : ℕ → ℕ} (new : ℕ → ℕ) {p q v : ℕ} → AreInRouteOrder l new → IsStepPosition l p
    → 0 < new p → free p ≤ new p → AsksNext l free p q v → v ≤ new q
reach_next {l} new {p} order at waits late asked =
    let here : new (position_of l (get_or l.jobs p 0) (get_or l.steps p 0)) ≡ new p = ap new at.is
    in let time : get_or l.times (position_of l (get_or l.jobs p 0) (get_or l.steps p 0)) 0 ≡ get_or l.times p 0 =
    ap (λ (x : ℕ). get_or l.times x 0) at.is
    in let follows = order (get_or l.jobs p 0) (get_or l.steps p 0) asked.more (omega arith)
    in let next = ap new asked.next in let ready = asked.ready in omega arith

-- a position asks for the same where its machine is free from the same time on
module _ {l : LayoutState} {free other : ℕ → ℕ} {p : ℕ} (same : free p ≡ other p) where
  pub asked_same : (r q v : ℕ) → r ≡ p → AsksNext l free r q v → AsksNext l other r q v
  asked_same r q v here asked = record {
    more = asked.more;
    next = asked.next;
    ready = let a = ap free here in let b = ap other here in let ready = asked.ready in omega arith;
  }

  pub raised_same : {old new : ℕ → ℕ} → IsRaised l (IsPosition p) (AsksNext l other) old new
      → IsRaised l (IsPosition p) (AsksNext l free) old new
  raised_same raised = asks_less raised (λ r q v here asked.
      raised.reach r q v here (asked_same r q v here asked))
