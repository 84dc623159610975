-- Heads are raised along a route while they are too small.
use Rattle.std.proofs.Common.{◌≡◌, ℕ, ◌+◌, ◌≤◌, ◌<◌, inl, inr, List, length, get_or, set, refl, sym, ◌∙◌, ap, arith}
use Rattle.std.proofs.lemmas.{Bool.cases_eq, Grind.get_or-set_at, List.{get_or-set_other, length-set}}
use Rattle.shop_layout.specs.Positions.{LayoutState, position_of}
use Rattle.shop_states.specs.inner.Raises.{AreInRouteOrder, AsksOwn, IsIndexed, IsPosition, IsRaised, IsStepPosition}
use Rattle.shop_states.{specs.inner.Raises.{at_in, steps_of}, proofs.AskedHeads.own_reached}

-- The head at position p was raised to e, and those of the route of job i behind it up to the step before t, which
-- ends at `ready`.
pub record IsRaisedUpTo (l : LayoutState) (p e i t ready : ℕ) (old new : List ℕ) : Type 0 where
  pub before : ℕ
  pub next : t ≡ before + 1
  pub within : before < steps_of l i
  pub positions : length new ≡ length old
  pub rises : (q : ℕ) → get_or old q 0 ≤ get_or new q 0
  pub rests : (q : ℕ) → get_or old q 0 ≡ 0 → get_or new q 0 ≡ 0
  pub order : (j k : ℕ) → k + 1 < steps_of l j → ((j ≡ i) × (k ≡ before) → ⊥) → 0 < get_or new (position_of l j k) 0
      → get_or new (position_of l j k) 0 + get_or l.times (position_of l j k) 0 ≤ get_or new (position_of l j (k + 1)) 0
  pub waits : 0 < get_or new (position_of l i before) 0
  pub ready_is : ready ≡ get_or new (position_of l i before) 0 + get_or l.times (position_of l i before) 0
  pub reach : e ≤ get_or new p 0
  pub least : (other : ℕ → ℕ) → IsRaised l (IsPosition p) (AsksOwn e) (at_in old) other → (q : ℕ)
      → get_or new q 0 ≤ other q

module _ {l : LayoutState} {n : ℕ} (ix : IsIndexed l n) where
  pub apart : (j k i t : ℕ) → k < steps_of l j → t < steps_of l i → position_of l j k ≡ position_of l i t
      → (j ≡ i) × (k ≡ t)
  apart j k i t here there same = grind arith

  pub position_below : (j k : ℕ) → k < steps_of l j → position_of l j k < n
  position_below j k here = let a = ix.step j k here in let b = a.within in let c = ix.jobs in omega arith

  module _ (p e i : ℕ) (old : List ℕ) (long : length old ≡ n) where
    pub walk_begins : (t ready : ℕ) → IsStepPosition l p → i ≡ get_or l.jobs p 0 → t ≡ get_or l.steps p 0 + 1
        → ready ≡ e + get_or l.times p 0 → AreInRouteOrder l (at_in old) → 0 < get_or old p 0 → get_or old p 0 ≤ e
        → IsRaisedUpTo l p e i t ready old (set old p e)
    walk_begins t ready at job step sum order waits below =
        record {
          before = get_or l.steps p 0;
          next = step;
          within = grind arith;
          positions = length-set old p e;
          rises = grind (arith, position_below, get_or-set_at, cases_eq, get_or-set_other);
          rests = grind (arith, cases_eq, get_or-set_other);
          order = grind (arith, position_below, get_or-set_at, cases_eq, get_or-set_other, apart);
          waits = grind (arith, position_below, get_or-set_at);
          ready_is = grind (arith, position_below, get_or-set_at);
          reach = grind (arith, position_below, get_or-set_at);
          least = λ other raised q.
              let reach = own_reached raised p refl waits
              in grind (arith, position_below, get_or-set_at, cases_eq, get_or-set_other);
        }

    module _ {t ready : ℕ} {new : List ℕ} (so_far : IsRaisedUpTo l p e i t ready old new) where
      -- any raise has the next step wait until the one before it ends
      pub next_least : (other : ℕ → ℕ) → IsRaised l (IsPosition p) (AsksOwn e) (at_in old) other → t < steps_of l i
          → ready ≤ other (position_of l i t)
      next_least other raised more =
          let b = so_far.before
          in let next : position_of l i t ≡ position_of l i (b + 1) = ap (position_of l i) so_far.next
          in let below = so_far.least other raised (position_of l i b)
          in let w = so_far.waits
          in let r = so_far.ready_is
          in let f = so_far.next
          in let a = raised.order i b (omega arith) (omega arith)
          in let c : other (position_of l i t) ≡ other (position_of l i (b + 1)) = ap other next
          in omega arith

      pub walk_on : (order : AreInRouteOrder l (at_in old)) → t < steps_of l i → (q h : ℕ) → q ≡ position_of l i t
          → get_or new q 0 < ready → h ≡ ready + get_or l.times q 0
          → IsRaisedUpTo l p e i (t + 1) h old (set new q ready)
      walk_on order more q h at below sum =
          let b = so_far.before
          in let f = so_far.next
          in let next : position_of l i t ≡ position_of l i (b + 1) = ap (position_of l i) so_far.next
          in let within : q < length new = (let a = position_below i t more in let c = so_far.positions in omega arith)
          in let now : get_or (set new q ready) q 0 ≡ ready = get_or-set_at new q q ready 0 refl within
          in let at_t : get_or (set new q ready) (position_of l i t) 0 ≡ ready =
          get_or-set_at new q (position_of l i t) ready 0 (sym at) within
          in let time_t : get_or l.times (position_of l i t) 0 ≡ get_or l.times q 0 =
          ap (λ (x : ℕ). get_or l.times x 0) (sym at)
          in let some = so_far.waits
          in let sums = so_far.ready_is
          in let not_before : position_of l i b ≡ q → ⊥ =
          (λ same. let z = (apart i b i t so_far.within more (same ∙ at)).1 in omega arith)
          in record {
            before = t;
            next = refl;
            within = more;
            positions = length-set new q ready ∙ so_far.positions;
            rises = λ r. grind (arith, cases_eq, get_or-set_at, get_or-set_other);
            rests = λ r none. grind (arith, cases_eq, get_or-set_other);
            order = grind (arith, apart, get_or-set_other, cases_eq, get_or-set_at);
            waits = (let a = so_far.rises q in omega arith);
            ready_is = omega arith;
            reach = grind (arith, cases_eq, get_or-set_at, get_or-set_other);
            least = λ other raised r. elim (cases_eq r q) [
              | inl g ↦ (let a = get_or-set_at new q r ready 0 g within
                  in let c : other r ≡ other (position_of l i t) = ap other (g ∙ at)
                  in let d = next_least other raised more in omega arith)
              | inr ne ↦ (let a = get_or-set_other new q r ready 0 ne in let d = so_far.least other raised r
                  in omega arith)
            ];
          }
