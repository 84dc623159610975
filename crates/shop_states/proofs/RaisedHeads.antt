-- The least raise of the heads by position, once an operation is placed, has the heads of what is left.
use Rattle.std.proofs.Common.{◌≡◌, ℕ, zero, suc, ◌+◌, ◌-◌, ◌≤◌, ◌<◌, ◌^◌, inl, inr, List, length, get_or, set}
use Rattle.std.proofs.{Common.{refl, sym, ◌∙◌, ap, subst, arith, cond, ltb}, lemmas.Grind.get_or-set_at}
use Rattle.std.proofs.lemmas.{Bool.{cases_eq, cases_lt, lt-ltb, le-ltb}, List.{get_or-set_other, length-set}}
use Rattle.shop_model.specs.{Limits.IsWithinLimits, Shop.{Shop, IsOperation, route_of, machine_of, time_of}}
use Rattle.shop_model.{specs.Word.Placing, proofs.{Ends.IsOperation-job, Placings.IsNext}}
use Rattle.shop_lanes.specs.Rows.{Rows}
use Rattle.shop_bound.{specs.Heads.{head_of, ready_after}, proofs.{HeadsRise.heads_up, HeadsStay.ready_first_same}}
use Rattle.shop_bound.proofs.{HeadsStay.steps_rise, HeadTurns.{ready_first, ready_more}}
use Rattle.shop_states.specs.inner.LaneHeads.{AreHeadsAt, AreStored}
use Rattle.shop_states.specs.inner.Raises.{steps_of, at_in, AreFirst, IsIndexed, IsStepPosition, AreInRouteOrder}
use Rattle.shop_states.specs.inner.Raises.{AsksOwn, IsRaised, IsLeastRaise, IsRaisable, IsOnMachine, HasBlocks}
use Rattle.shop_layout.specs.Positions.{IsLaidOut, LayoutState, first_position}
use Rattle.shop_layout.specs.Positions.{position_behind, position_of, position_or}
use Rattle.shop_states.proofs.AskedHeads.{own_reached, reach_own}
use Rattle.shop_layout.proofs.LaidPositions.{IsOperationAt, machines_rise, is_position_of, each_position, on_machine}

module _ {shop : Shop} (limits : IsWithinLimits shop) {l : LayoutState} (laid : IsLaidOut shop l) where
  pub operation_in : (j k : ℕ) → k < steps_of l j → IsOperation shop j k
  operation_in j k h = let a = laid.routes j in omega arith

  pub indexed : {n : ℕ} → n ≡ first_position l shop.machines → IsIndexed l n
  indexed is = record {
    jobs = laid.positions.jobs ∙ sym is;
    steps = laid.positions.steps ∙ sym is;
    step = λ j k h. (let a = is_position_of shop limits l laid j k (operation_in j k h) in record {
      within = (let b = a.within in let c = laid.positions.jobs in omega arith);
      job = a.job;
      step = a.step;
    });
  }

  pub position_behind-is : (j k : ℕ) → IsOperation shop j k
      → position_behind l (position_of l j k) ≡ position_or (first_position l shop.machines) l.step_positions j (k + 1)
  position_behind-is j k op =
      let a = is_position_of shop limits l laid j k op
      in ap (λ (n : ℕ). position_or n l.step_positions (get_or l.jobs (position_of l j k) 0)
      (get_or l.steps (position_of l j k) 0 + 1)) laid.positions.jobs
      ∙ (ap (λ (i : ℕ). position_or (first_position l shop.machines) l.step_positions i
      (get_or l.steps (position_of l j k) 0 + 1)) a.job
      ∙ ap (λ (t : ℕ). position_or (first_position l shop.machines) l.step_positions j (t + 1)) a.step)

  pub has_blocks : {n : ℕ} (m : ℕ) → n ≡ first_position l shop.machines → m < shop.machines → HasBlocks l n m
  has_blocks m is known = record {
    small = (let a = limits.machines in omega arith);
    known = (let a = laid.machines in omega arith);
    ordered = (let a = machines_rise shop limits l laid m (m + 1) (omega arith) (omega arith) in omega arith);
    within = (let a = machines_rise shop limits l laid (m + 1) shop.machines (omega arith)
        (omega arith) in omega arith);
  }

  pub is_step_position : (j k : ℕ) → IsOperation shop j k → IsStepPosition l (position_of l j k)
  is_step_position j k op =
      let a = is_position_of shop limits l laid j k op in let known = IsOperation-job shop j k op
      in let long = laid.routes (get_or l.jobs (position_of l j k) 0)
      in let same : length (route_of shop (get_or l.jobs (position_of l j k) 0)) ≡ length (route_of shop j) =
      ap (λ (x : ℕ). length (route_of shop x)) a.job
      in grind arith

  -- what waits is an operation that isn't placed
  module _ {steps : ℕ → ℕ} {f : ℕ → ℕ → ℕ} {hs : List ℕ} (are : AreStored shop steps f l hs) where
    waits_at : (r : ℕ) → 0 < get_or hs r 0 → (o : IsOperationAt shop l r) × (steps o.job ≤ o.step)
    waits_at r some = elim (each_position shop limits l laid r) [
      | inl o ↦ elim (cases_lt o.step (steps o.job)) [
        | inl before ↦ grind arith
        | inr opened ↦ (o, opened)
      ]
      | inr free ↦ (let a = are.padding r free in absurd (omega arith))
    ]

    -- what is so of each operation that waits is so at its position
    pub each_waiting : (P : ℕ → Type 0) → ((i k : ℕ) → IsOperation shop i k → steps i ≤ k → P (position_of l i k))
        → (r : ℕ) → 0 < get_or hs r 0 → P r
    each_waiting P each r some = let w = waits_at r some in let o = w.0 in subst P o.at (each o.job o.step o.is w.1)

    pub waits_at_step : (r : ℕ) → 0 < get_or hs r 0 → IsStepPosition l r
    waits_at_step = each_waiting (IsStepPosition l) (λ i k op opened. is_step_position i k op)

    pub fits_at : {greatest : ℕ} (g : ℕ → ℕ) → ((i k : ℕ) → IsOperation shop i k → steps i ≤ k
        → g (position_of l i k) + time_of shop i k ≤ greatest) → (r : ℕ) → 0 < get_or hs r 0
        → g r + get_or l.times r 0 ≤ greatest
    fits_at {greatest} g fits = each_waiting (λ r. g r + get_or l.times r 0 ≤ greatest) (λ i k op opened.
        let time = (is_position_of shop limits l laid i k op).time in let fit = fits i k op opened in omega arith)

  -- heads can be raised where some raised heads fit
  pub raisable_to : {steps : ℕ → ℕ} {f : ℕ → ℕ → ℕ} {greatest : ℕ} {nexts : List ℕ} {rows : Rows}
      {among : ℕ → Type 0} {asks : ℕ → ℕ → ℕ → Type 0} → AreStored shop steps f l rows.heads → rows.times ≡ l.times
      → AreFirst l nexts rows.heads → length nexts ≤ length rows.ends → greatest < 2 ^ 64
      → AreInRouteOrder l (at_in rows.heads) → (other : ℕ → ℕ) → IsRaised l among asks (at_in rows.heads) other
      → ((r : ℕ) → 0 < other r → other r + get_or l.times r 0 ≤ greatest)
      → IsRaisable greatest l nexts rows among asks
  raisable_to are times firsts ends computable order other raised fits = record {
    firsts = firsts;
    ends = ends;
    indexed = indexed are.positions;
    machines = laid.machines_at.positions ∙ sym are.positions;
    times = times;
    timed = laid.positions.times ∙ sym are.positions;
    at_steps = waits_at_step are;
    order = order;
    other = other;
    raised = raised;
    fits = fits;
    computable = computable;
  }

  pub in_order : (p : Placing) {steps : ℕ → ℕ} {hs : List ℕ} → AreStored shop steps (head_of shop p) l hs
      → ((i : ℕ) → p.steps i ≤ steps i) → AreInRouteOrder l (at_in hs)
  in_order p {steps} are rise i k two some =
      let op = operation_in i (k + 1) two in let op_k : IsOperation shop i k = omega arith
      in elim (cases_lt k (steps i)) [
        | inl before ↦ (let none = are.placed i k op_k before in absurd (omega arith))
        | inr opened ↦ (let low = rise i
            in let x = are.waiting i k op_k opened
            in let y = are.waiting i (k + 1) op (omega arith)
            in let z = ready_more shop p i k (omega arith)
            in let t = (is_position_of shop limits l laid i k op_k).time
            in omega arith)
      ]

  module _ {p : Placing} {j : ℕ} {q : Placing} (n : IsNext shop p j q) (next : IsOperation shop j (p.steps j)) where
    abbrev machine : ℕ
    machine = machine_of shop j (p.steps j)

    -- what is dispatched has no head any more
    pub left : {old : List ℕ} → AreHeadsAt shop p l old
        → AreStored shop q.steps (head_of shop p) l (set old (position_of l j (p.steps j)) 0)
    left {old} are =
        let x = position_of l j (p.steps j)
        in let here = is_position_of shop limits l laid j (p.steps j) next
        in let within : x < length old = (let a = are.positions in let b = here.within in omega arith)
        in let same_step : (i k : ℕ) → IsOperation shop i k → position_of l i k ≡ x → (i ≡ j) × (k ≡ p.steps j) =
        (λ i k op f. let a = is_position_of shop limits l laid i k op in (
          sym a.job ∙ (ap (λ (y : ℕ). get_or l.jobs y 0) f ∙ here.job),
          sym a.step ∙ (ap (λ (y : ℕ). get_or l.steps y 0) f ∙ here.step),
        ))
        in grind (arith, length-set, cases_eq, get_or-set_other, steps_rise, get_or-set_at)

    module _ {old : List ℕ} (are : AreStored shop q.steps (head_of shop p) l old) where
      -- the new head of what waits, and one more
      abbrev pub target : ℕ → ℕ
      target r = cond {A = ℕ} (ltb 0 (get_or old r 0))
          (head_of shop q (get_or l.jobs r 0) (get_or l.steps r 0) + 1) 0

      pub target_none : (r : ℕ) → get_or old r 0 ≡ 0 → target r ≡ 0
      target_none r none = rw (le-ltb 0 (get_or old r 0) (omega arith)) refl

      pub target_at : (i k : ℕ) → IsOperation shop i k → q.steps i ≤ k
          → target (position_of l i k) ≡ head_of shop q i k + 1
      target_at i k op opened =
          let a = is_position_of shop limits l laid i k op
          in let w = are.waiting i k op opened
          in rw (lt-ltb 0 (get_or old (position_of l i k) 0) (omega arith))
          (ap (λ (x : ℕ). head_of shop q x (get_or l.steps (position_of l i k) 0) + 1) a.job
          ∙ ap (λ (x : ℕ). head_of shop q i x + 1) a.step)

      module _ {e : ℕ} (end : e ≡ q.free machine + 1) where
        pub target_raised : IsRaised l (IsOnMachine l machine) (AsksOwn e) (at_in old) target
        target_raised = record {
          rises = λ r. grind (arith, cases_eq, waits_at, target_at, heads_up, are);
          rests = target_none;
          order = λ i k two some.
              let op = operation_in i (k + 1) two
              in let op_k : IsOperation shop i k = omega arith
              in elim (cases_lt k (q.steps i)) [
                | inl before ↦ (let z = target_none (position_of l i k) (are.placed i k op_k before)
                    in absurd (omega arith))
                | inr opened ↦ (let x = target_at i k op_k opened
                    in let y = target_at i (k + 1) op (omega arith)
                    in let z = ready_more shop q i k opened
                    in let t = (is_position_of shop limits l laid i k op_k).time
                    in omega arith)
              ];
          reach = reach_own (λ r here some. each_waiting are
              (λ x. IsOnMachine l machine x → e ≤ target x) (λ i k op opened there.
              let m = on_machine shop limits l laid machine i k (limits.on_machines j (p.steps j)) op there.0 there.1
              in let free = ap q.free m in let is = target_at i k op opened in omega arith) r some here);
        }

        pub raisable : {greatest : ℕ} {nexts : List ℕ} {rows : Rows} → rows.heads ≡ old → rows.times ≡ l.times
            → AreFirst l nexts rows.heads → length nexts ≤ length rows.ends → greatest < 2 ^ 64
            → ((i k : ℕ) → IsOperation shop i k → q.steps i ≤ k → head_of shop q i k + time_of shop i k < greatest)
            → IsRaisable greatest l nexts rows (IsOnMachine l machine) (AsksOwn e)
        raisable {rows = rows} heads times firsts ends computable fits =
            let stored : AreStored shop q.steps (head_of shop p) l rows.heads = rw heads are
            in raisable_to stored times firsts ends computable (in_order p stored (steps_rise shop p j q n)) target
            (subst (λ (xs : List ℕ). IsRaised l (IsOnMachine l machine) (AsksOwn e) (at_in xs) target) (sym heads)
            target_raised)
            (λ r some. elim (cases_lt 0 (get_or old r 0)) [
              | inl waits ↦ fits_at are target (λ i k op opened.
                  let at = target_at i k op opened in let fit = fits i k op opened in omega arith) r waits
              | inr none ↦ (let a = target_none r (omega arith) in absurd (omega arith))
            ])

        -- heads that are raised are no lower than those of what is left
        module _ {new : ℕ → ℕ} (up : IsRaised l (IsOnMachine l machine) (AsksOwn e) (at_in old) new) where
          on_machine_reached : (r : ℕ) → IsOnMachine l machine r → 0 < get_or old r 0 → e ≤ new r
          on_machine_reached = own_reached up

          -- a head is enough, where its step is ready no later
          free_enough : (i k : ℕ) → IsOperation shop i k → q.steps i ≤ k
              → q.free (machine_of shop i k) + 1 ≤ new (position_of l i k)
          free_enough i k op opened = grind (arith, cases_eq, is_position_of, on_machine_reached)

          -- step by step from the first that isn't placed
          ready_enough : (i d k : ℕ) → q.steps i + d ≡ k → IsOperation shop i k
              → ready_after shop q i (k - q.steps i) + 1 ≤ new (position_of l i k)
          ready_enough i zero k is op = grind (arith, ready_first, ready_first_same)
          ready_enough i (suc d) k is op =
              let b = q.steps i + d
              in let f : k ≡ b + 1 = omega arith
              in let op_b : IsOperation shop i b = omega arith
              in let before = ready_enough i d b refl op_b
              in let free = free_enough i b op_b (omega arith)
              in let long = laid.routes i
              in let o = up.order i b (omega arith) (omega arith)
              in let t = (is_position_of shop limits l laid i b op_b).time
              in let more = ready_more shop q i b (omega arith)
              in let now = ap (λ (x : ℕ). ready_after shop q i (x - q.steps i)) f
              in let at : new (position_of l i k) ≡ new (position_of l i (b + 1)) =
              ap (λ (x : ℕ). new (position_of l i x)) f
              in omega arith

          pub target_least : (r : ℕ) → target r ≤ new r
          target_least r = elim (cases_eq (get_or old r 0) 0) [
            | inl z ↦ (let a = target_none r z in omega arith)
            | inr nz ↦ each_waiting are (λ x. target x ≤ new x) (λ i k op opened.
                let is = target_at i k op opened
                in let c = ready_enough i (k - q.steps i) k (omega arith) op
                in let d = free_enough i k op opened in omega arith) r (omega arith)
          ]

        module _ {new : List ℕ} (least : IsLeastRaise l (IsOnMachine l machine) (AsksOwn e) old new) where
          pub raised : AreHeadsAt shop q l new
          raised = record {
            positions = least.positions ∙ are.positions;
            waiting = λ i k op opened.
                let a = least.least target target_raised (position_of l i k)
                in let b = target_at i k op opened
                in let c = ready_enough least.raised i (k - q.steps i) k (omega arith) op
                in let d = free_enough least.raised i k op opened
                in omega arith;
            placed = λ i k op before. least.raised.rests (position_of l i k) (are.placed i k op before);
            padding = λ r free. least.raised.rests r (are.padding r free);
          }
