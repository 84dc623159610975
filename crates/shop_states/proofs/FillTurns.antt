-- Heads by position are set one by one.
use Rattle.std.proofs.Common.{◌≡◌, ℕ, ◌+◌, ◌-◌, ◌≤◌, ◌<◌, ◌^◌, max, inl, inr, List, length, get_or, set, refl, sym, ◌∙◌}
use Rattle.std.proofs.{Common.{ap, subst, arith}, lemmas.{Bool.cases_eq, Grind.get_or-set_at}}
use Rattle.std.proofs.lemmas.List.{get_or-set_other, length-set}
use Rattle.shop_lanes.specs.Rows.{Rows, with_head}
use Rattle.shop_model.specs.{Shop.{Shop, IsOperation, machine_of, route_of, time_of}, Word.Placing}
use Rattle.shop_model.{specs.Placements.{PlacementState, IsPlacement}, proofs.{Ends.IsOperation-job, Unders.after_word}}
use Rattle.shop_bound.specs.Heads.{ready_after, head_of}
use Rattle.shop_states.specs.inner.Fills.{IsAtLeg, IsStored, CanFill, AreSameBeside, HasFilledJob}
use Rattle.shop_states.{specs.inner.LaneHeads.AreHeadsAt, proofs.JobLegs.{IsLegOf, index_there, leg_is, leg_small}}
use Rattle.shop_states.proofs.{JobLegs.{step_past, step_there}, RowTurns.open_turn}
use Rattle.shop_layout.specs.{declared.legs.Leg.Leg, Legs.{all_legs, end_of, leg_index}, Positions.IsFree}
use Rattle.shop_layout.{specs.Positions.{LayoutState, position_of}, proofs.LaidPositions.is_position_of}

abbrev pub IsRested : List ℕ → Type 0
IsRested heads = (q : ℕ) → get_or heads q 0 ≡ 0

-- the heads of all jobs were set
pub record HasFilled (shop : Shop) (l : LayoutState) (s : PlacementState) (old new : Rows) : Type 0 where
  pub beside : AreSameBeside old new
  pub filled : IsRested old.heads → (p : Placing) → IsPlacement shop p s → AreHeadsAt shop p l new.heads

pub beside_both : (a b c : Rows) → AreSameBeside a b → AreSameBeside b c → AreSameBeside a c
beside_both a b c x y = grind arith

pub beside_one : (a b : Rows) (q v : ℕ) → b ≡ with_head a q v → AreSameBeside a b
beside_one a b q v e = grind (arith, length-set)

-- the heads of job j below step k
pub record IsFilledUpTo (shop : Shop) (l : LayoutState) (s : PlacementState) (j k ready : ℕ) (old now : Rows)
    : Type 0 where
  pub beside : AreSameBeside old now
  pub filled : (p : Placing) → IsPlacement shop p s → (t : ℕ) → IsOperation shop j t → t < k
      → IsStored shop p l old.heads now.heads j t
  pub others : (q : ℕ) → ((t : ℕ) → IsOperation shop j t → position_of l j t ≡ q → ⊥)
      → get_or now.heads q 0 ≡ get_or old.heads q 0
  pub ready_is : (p : Placing) → IsPlacement shop p s → ready ≡ ready_after shop p j (k - p.steps j)

module _ {greatest : ℕ} {shop : Shop} {l : LayoutState} {s : PlacementState} {rows : Rows}
    (can : CanFill greatest shop l rows) {j : ℕ} (job : j < length shop.jobs) where
  -- the next step stands at position q
  module _ {k ready : ℕ} {now : Rows} (so_far : IsFilledUpTo shop l s j k ready rows now) (op : IsOperation shop j k)
      {q : ℕ} (at : q ≡ position_of l j k) where
    pub position_known : q < length now.heads
    position_known =
        let within = (is_position_of shop can.limits l can.laid j k op).within
        in let b = can.positions in let c = so_far.beside.positions in omega arith

    -- the head of one step is written
    filled_more : (new : Rows) (v h : ℕ) → new ≡ with_head now q v
        → ((p : Placing) → IsPlacement shop p s → (p.steps j ≤ k) × (v ≡ head_of shop p j k + 1)
        × (h ≡ ready_after shop p j (k + 1 - p.steps j)))
        → IsFilledUpTo shop l s j (k + 1) h rows new
    filled_more new v h wrote value =
        let heads : new.heads ≡ set now.heads q v = ap (λ (r : Rows). r.heads) wrote
        in let mine : get_or new.heads (position_of l j k) 0 ≡ v =
        ap (λ (xs : List ℕ). get_or xs (position_of l j k) 0) heads
        ∙ get_or-set_at now.heads q (position_of l j k) v 0 (sym at) position_known
        in let other : (r : ℕ) → (r ≡ q → ⊥) → get_or new.heads r 0 ≡ get_or now.heads r 0 =
        (λ r ne. ap (λ (xs : List ℕ). get_or xs r 0) heads ∙ get_or-set_other now.heads q r v 0 ne)
        in record {
          beside = beside_both rows now new so_far.beside (beside_one now new q v wrote);
          filled = λ p is t op_t below. elim (cases_eq t k) [
            | inl f ↦ grind arith
            | inr ne ↦ (
                let apart : position_of l j t ≡ q → ⊥ = (λ f. ne (
                let a = is_position_of shop can.limits l can.laid j t op_t
                in let b = is_position_of shop can.limits l can.laid j k op
                in sym a.step ∙ (ap (λ (x : ℕ). get_or l.steps x 0) (f ∙ at) ∙ b.step)))
                in let same = other (position_of l j t) apart
                in let before = so_far.filled p is t op_t (omega arith)
                in record {
                  waiting = λ opened. same ∙ before.waiting opened;
                  placed = λ done. same ∙ before.placed done;
                })
          ];
          others = λ r free. other r (λ f. free k op (sym at ∙ sym f)) ∙ so_far.others r free;
          ready_is = λ p is. (value p is).2;
        }

    module _ {m t : ℕ} (on : m ≡ machine_of shop j k) (for : t ≡ time_of shop j k) (opened : get_or s.steps j 0 ≤ k)
        {head : ℕ} (greater : head ≡ max ready (get_or s.free m 0)) where
      turn : (p : Placing) → IsPlacement shop p s → (head ≡ head_of shop p j k)
          × (head + t ≡ ready_after shop p j (k + 1 - p.steps j))
      turn p is = open_turn shop can.limits s j job k ready head on for so_far.ready_is opened greater p is

      pub filled_open : (new : Rows) → new ≡ with_head now q (head + 1)
          → IsFilledUpTo shop l s j (k + 1) (head + t) rows new
      filled_open new wrote = filled_more new (head + 1) (head + t) wrote (λ p is.
          let found = turn p is
          in let steps = is.steps j job
          in (omega arith, (let a = found.0 in omega arith), found.1))

  -- what is placed stays as it was
  pub filled_begins : {placed ready : ℕ} → placed ≡ get_or s.steps j 0 → ready ≡ get_or s.ready j 0
      → IsFilledUpTo shop l s j placed ready rows rows
  filled_begins {placed} {ready} read is_ready = grind arith

-- so far the route of job j was filled up to a leg
pub record IsFillingTo (shop : Shop) (l : LayoutState) (s : PlacementState) (j index ready : ℕ) (old now : Rows)
    : Type 0 where
  pub step : ℕ
  pub within : step ≤ length (route_of shop j)
  pub opened : get_or s.steps j 0 ≤ step
  pub index_is : index ≡ leg_index l j step
  pub up_to : IsFilledUpTo shop l s j step ready old now

module _ {greatest : ℕ} {shop : Shop} {l : LayoutState} {rows : Rows} (can : CanFill greatest shop l rows) {j : ℕ}
    (job : j < length shop.jobs) {s : PlacementState} where
  pub filling_begins : {index ready : ℕ} {free : List ℕ} → IsAtLeg shop l s j index ready free
      → IsFillingTo shop l s j index ready rows rows
  filling_begins at = record {
    step = get_or s.steps j 0;
    within = (let of = at.of in let steps = of.placed.steps j job in let most = of.fits j
        in let count = (after_word shop of.word of.fits).steps j in omega arith);
    opened = omega arith;
    index_is = at.index_is;
    up_to = filled_begins can job refl at.ready_is;
  }

  module _ {index ready : ℕ} {now : Rows} (so_far : IsFillingTo shop l s j index ready rows now) {read : LayoutState}
      (same : read ≡ l) where
    -- the leg is among all
    pub leg_there : index < length (all_legs read)
    leg_there = index_there can.limits can.laid j job so_far.step so_far.within same so_far.index_is

    pub leg_few : index + 1 < 2 ^ 32
    leg_few = grind (arith, leg_small)

    module _ {leg : Leg} (is : leg ≡ get_or (all_legs read) index (end_of 0)) {n : ℕ}
        (count : n ≡ length l.jobs) where
      -- at the end of the route
      pub job_filled : n ≤ leg.position → HasFilledJob shop l s j rows now
      job_filled above =
          let past = step_past can.limits can.laid j job so_far.step so_far.within same so_far.index_is is count above
          in grind arith

      -- at a step of it
      module _ (below : leg.position < n) where
        op_there : IsOperation shop j so_far.step
        op_there = step_there can.limits can.laid j job so_far.step so_far.within same so_far.index_is is count below

        leg_found : IsLegOf shop l j so_far.step leg
        leg_found = leg_is can.limits can.laid j job so_far.step so_far.within same so_far.index_is is op_there

        leg_machine_known : leg.machine < shop.machines
        leg_machine_known = let a = leg_found.machine in let b = can.limits.on_machines j so_far.step in omega arith

        module _ {first from : ℕ} {free : List ℕ} (at : IsAtLeg shop l s j first from free) where
          pub leg_machine_within : leg.machine < length free
          leg_machine_within = grind (arith, leg_machine_known)

          module _ {head : ℕ} (greater : head ≡ max ready (get_or free leg.machine 0)) where
            above : head ≡ max ready (get_or s.free leg.machine 0)
            above = greater ∙ ap (λ (xs : List ℕ). max ready (get_or xs leg.machine 0)) at.free_is

            pub leg_fits : (head + 1 ≤ greatest) × (head + leg.time < greatest)
            leg_fits = grind (arith, op_there, leg_found, above)

            pub filling_on : (new : Rows) → new ≡ with_head now leg.position (head + 1)
                → IsFillingTo shop l s j (index + 1) (head + leg.time) rows new
            filling_on new wrote = record {
              step = so_far.step + 1;
              within = (let op = op_there in omega arith);
              opened = (let before = so_far.opened in omega arith);
              index_is = (let at = so_far.index_is in omega arith);
              up_to = filled_open can job so_far.up_to op_there leg_found.position leg_found.machine leg_found.time
                  so_far.opened above new wrote;
            }

-- the heads of the jobs below n
pub record AreFilledUpTo (shop : Shop) (l : LayoutState) (s : PlacementState) (n : ℕ) (old now : Rows) : Type 0 where
  pub beside : AreSameBeside old now
  pub filled : (p : Placing) → IsPlacement shop p s → (j k : ℕ) → IsOperation shop j k → j < n
      → IsStored shop p l old.heads now.heads j k
  pub later : (j k : ℕ) → IsOperation shop j k → n ≤ j
      → get_or now.heads (position_of l j k) 0 ≡ get_or old.heads (position_of l j k) 0
  pub free : (q : ℕ) → IsFree shop l q → get_or now.heads q 0 ≡ get_or old.heads q 0

module _ {greatest : ℕ} {shop : Shop} {l : LayoutState} {s : PlacementState} {rows : Rows}
    (can : CanFill greatest shop l rows) {n : ℕ} {now : Rows} (so_far : AreFilledUpTo shop l s n rows now) where
  pub jobs_more : {new : Rows} → HasFilledJob shop l s n now new → AreFilledUpTo shop l s (n + 1) rows new
  jobs_more {new} job =
      let same : (j k : ℕ) → IsOperation shop j k → (j ≡ n → ⊥)
      → get_or new.heads (position_of l j k) 0 ≡ get_or now.heads (position_of l j k) 0 = (λ j k op ne.
      job.others (position_of l j k) (λ t op_t f. ne (
      let a = is_position_of shop can.limits l can.laid j k op
      in let b = is_position_of shop can.limits l can.laid n t op_t
      in sym a.job ∙ (ap (λ (x : ℕ). get_or l.jobs x 0) (sym f) ∙ b.job))))
      in record {
        beside = beside_both rows now new so_far.beside job.beside;
        filled = λ p is j k op below. elim (cases_eq j n) [
          | inl f ↦ (let op_n : IsOperation shop n k = subst (λ (x : ℕ). IsOperation shop x k) f op
              in let mine = job.filled p is k op_n
              in subst (λ (x : ℕ). IsStored shop p l rows.heads new.heads x k) (sym f) (record {
                waiting = mine.waiting;
                placed = λ done. mine.placed done ∙ so_far.later n k op_n (omega arith);
              }))
          | inr ne ↦ (let before = so_far.filled p is j k op (omega arith)
              in record {
                waiting = λ opened. same j k op ne ∙ before.waiting opened;
                placed = λ done. same j k op ne ∙ before.placed done;
              })
        ];
        later = λ j k op behind. same j k op (λ f. omega arith) ∙ so_far.later j k op (omega arith);
        free = λ q none. job.others q (λ t op f. none n t op f) ∙ so_far.free q none;
      }

  pub jobs_all : length shop.jobs ≤ n → HasFilled shop l s rows now
  jobs_all all = record {
    beside = so_far.beside;
    filled = λ rested p is. record {
      positions = so_far.beside.positions ∙ can.positions;
      waiting = λ j k op opened. (let a = IsOperation-job shop j k op
          in (so_far.filled p is j k op (omega arith)).waiting opened);
      placed = λ j k op before. (let a = IsOperation-job shop j k op
          in (so_far.filled p is j k op (omega arith)).placed before ∙ rested (position_of l j k));
      padding = λ q none. so_far.free q none ∙ rested q;
    };
  }
