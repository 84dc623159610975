-- A raise over rows, head by head.
use Rattle.std.proofs.Common.{◌≡◌, ℕ, ◌+◌, ◌≤◌, ◌<◌, List, [], length, get_or, set, refl, sym, ◌∙◌, ap, arith}
use Rattle.std.proofs.lemmas.{Bool.cases_lt, List.{get_or_default, get_or_past}}
use Rattle.shop_lanes.specs.Rows.{Rows, with_head}
use Rattle.shop_layout.specs.{declared.legs.Leg.Leg, Legs.{all_legs, end_of, leg_index, leg_of}, Lanes.rows_of}
use Rattle.shop_layout.specs.Positions.{position_or, LayoutState, position_of}
use Rattle.shop_states.specs.inner.Raises.{AsksOwn, steps_of, IsPosition, IsRaisable, Raises}
use Rattle.shop_layout.proofs.RouteLegs.{index_known, leg_here}
use Rattle.shop_states.proofs.Followed.{leg_position, position_or-there}
use Rattle.shop_states.proofs.RaiseWalks.{IsRaisedUpTo, walk_begins, next_least, walk_on}

-- one head of a state was replaced
pub put_is : (l : LayoutState) (hs : List ℕ) {es hs' es' : List ℕ} (q v : ℕ) → hs' ≡ set hs q v → es' ≡ es
    → rows_of l hs' es' ≡ with_head (rows_of l hs es) q v
put_is l hs q v heads ends = rw (heads, ends) refl

-- the same of rows
pub record IsWalking (greatest : ℕ) (l : LayoutState) (p e t ready : ℕ) (old new : Rows)
    : Type 0 where
  pub up_to : IsRaisedUpTo l p e (get_or l.jobs p 0) t ready old.heads new.heads
  pub times : new.times ≡ old.times
  pub tails : new.tails ≡ old.tails
  pub ends : new.ends ≡ old.ends

module _ {greatest : ℕ} {l : LayoutState} {p e : ℕ} {old : Rows}
    (can : IsRaisable greatest l [] old (IsPosition p) (AsksOwn e)) (some : 0 < get_or old.heads p 0) where
  pub begun : get_or old.heads p 0 ≤ e → {new : Rows}
      → new ≡ with_head old p e
      → {t ready time : ℕ} → t ≡ get_or l.steps p 0 + 1 → time ≡ get_or new.times p 0 → ready ≡ e + time
      → IsWalking greatest l p e t ready old new
  begun below {new} wrote {t} {ready} next read sum = grind (arith, walk_begins)

  module _ {t ready : ℕ} {now : Rows} (so_far : IsWalking greatest l p e t ready old now)
      (more : t < steps_of l (get_or l.jobs p 0)) {q : ℕ} (at : q ≡ position_of l (get_or l.jobs p 0) t) where
    -- what is to be stored and added up there fits
    pub next_fits : (ready ≤ greatest) × (ready + get_or now.times q 0 ≤ greatest)
    next_fits =
        let i = get_or l.jobs p 0
        in let a = next_least can.indexed p e i old.heads refl so_far.up_to can.other can.raised more
        in let some_time = so_far.up_to.waits
        in let sum = so_far.up_to.ready_is
        in let b = can.fits (position_of l i t) (omega arith)
        in let same : get_or now.times q 0 ≡ get_or l.times (position_of l i t) 0 =
        ap (λ (xs : List ℕ). get_or xs q 0) (so_far.times ∙ can.times) ∙ ap (λ (x : ℕ). get_or l.times x 0) at
        in (omega arith, omega arith)

    pub on : get_or now.heads q 0 < ready → {new : Rows}
        → new ≡ with_head now q ready
        → {h time u : ℕ} → u ≡ t + 1 → time ≡ get_or new.times q 0 → h ≡ ready + time
        → IsWalking greatest l p e u h old new
    on below {new} wrote {h} next read sum = grind (arith, walk_on, more)

-- so far a raise has followed the route of position p up to a leg
pub record IsFollowing (greatest : ℕ) (l : LayoutState) (p e index ready : ℕ) (old new : Rows) : Type 0 where
  pub step : ℕ
  pub known : step ≤ steps_of l (get_or l.jobs p 0)
  pub index_is : index ≡ leg_index l (get_or l.jobs p 0) step
  pub walking : IsWalking greatest l p e step ready old new

module _ {greatest : ℕ} {l : LayoutState} {p e : ℕ} {old : Rows}
    (can : IsRaisable greatest l [] old (IsPosition p) (AsksOwn e)) (some : 0 < get_or old.heads p 0) where
  abbrev job : ℕ
  job = get_or l.jobs p 0

  pub begun_following : get_or old.heads p 0 ≤ e → {new : Rows}
      → new ≡ with_head old p e
      → {index ready time : ℕ} → index ≡ leg_index l (get_or l.jobs p 0) (get_or l.steps p 0 + 1)
      → time ≡ get_or new.times p 0 → ready ≡ e + time
      → IsFollowing greatest l p e index ready old new
  begun_following below wrote at read sum = record {
    step = get_or l.steps p 0 + 1;
    known = (let here = (can.at_steps p some).step in omega arith);
    index_is = at;
    walking = begun can some below wrote refl read sum;
  }

  module _ {index ready : ℕ} {now : Rows} (so_far : IsFollowing greatest l p e index ready old now) where
    -- a leg of the route, or its end, is among all
    pub leg_known : index < length (all_legs l)
    leg_known = grind (arith, index_known)

    module _ {leg : Leg} (is : leg ≡ get_or (all_legs l) index (end_of 0)) where
      read : leg ≡ get_or (all_legs l) (leg_index l job so_far.step) (end_of 0)
      read = is ∙ ap (λ (i : ℕ). get_or (all_legs l) i (end_of 0)) so_far.index_is

      stands : leg.position ≡ position_or (length old.heads) l.step_positions job so_far.step
      stands = leg_position l (can.at_steps p some).job so_far.known read
          ∙ ap (λ (n : ℕ). position_or n l.step_positions job so_far.step) can.indexed.jobs

      pub position_up_to : leg.position ≤ length now.heads
      position_up_to = grind (arith, stands, cases_lt, position_or-there)

      -- what is ready next fits, since no raised head is above the least of those that do
      fitting : ready ≤ greatest
      fitting =
          let so = so_far.walking.up_to
          in let q = position_of l job so.before
          in let most = so.least can.other can.raised q in let waits = so.waits in let is = so.ready_is
          in let fits = can.fits q (omega arith) in omega arith

      module _ {head : ℕ} (looked : head ≡ get_or now.heads leg.position greatest) where
        -- it ends where the head is great enough, or at the end of the route
        pub ended_at : ready ≤ head → Raises greatest l [] (IsPosition p) (AsksOwn e) old now
        ended_at enough = grind (arith, stands, position_or-there, get_or_default)

        module _ (below : head < ready) where
          -- the head behind the last position isn't below what is ready
          pub is_there : leg.position < length old.heads
          is_there = grind (arith, cases_lt, fitting, get_or_past)

          pub read_there : head ≡ get_or now.heads leg.position 0
          read_there = grind (arith, is_there, get_or_default)

          more : so_far.step < steps_of l job
          more = grind (arith, cases_lt, is_there, stands)

          here : leg.position ≡ position_of l job so_far.step
          here = stands ∙ position_or-there l (length old.heads) job so_far.step more

          leg_is : leg ≡ leg_of l.machines l.times (position_of l job so_far.step)
          leg_is = read ∙ leg_here l job (can.at_steps p some).job so_far.step (end_of 0) more

          pub leg_machine : leg.machine ≡ get_or l.machines leg.position 0
          leg_machine = ap (λ (x : Leg). x.machine) leg_is ∙ ap (λ (q : ℕ). get_or l.machines q 0) (sym here)

          leg_time : leg.time ≡ get_or l.times leg.position 0
          leg_time = ap (λ (x : Leg). x.time) leg_is ∙ ap (λ (q : ℕ). get_or l.times q 0) (sym here)

          pub leg_fits : (ready ≤ greatest) × (ready + leg.time ≤ greatest)
          leg_fits =
              let fits = next_fits can some so_far.walking more here
              in let low = fits.0 in let high = fits.1 in let time = leg_time
              in let same : get_or now.times leg.position 0 ≡ get_or l.times leg.position 0 =
              ap (λ (xs : List ℕ). get_or xs leg.position 0) (so_far.walking.times ∙ can.times)
              in (omega arith, omega arith)

          pub followed : {new : Rows} → new ≡ with_head now leg.position ready → {h : ℕ} → h ≡ ready + leg.time
              → IsFollowing greatest l p e (index + 1) h old new
          followed {new} wrote sum =
              let times : new.times ≡ now.times = ap (λ (r : Rows). r.times) wrote
              in record {
                step = so_far.step + 1;
                known = (let a = more in omega arith);
                index_is = (let at = so_far.index_is in omega arith);
                walking = on can some so_far.walking more here (let a = read_there in omega arith) wrote refl
                    (leg_time ∙ ap (λ (xs : List ℕ). get_or xs leg.position 0)
                    (sym (times ∙ (so_far.walking.times ∙ can.times)))) sum;
              }
