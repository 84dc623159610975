-- The heads of a word, raised behind the operations of its candidates' machine as if that were free late: that lanes
-- have room for them, and that no child's heads are higher, but where its own operation delays them.
use Rattle.std.proofs.Common.{rules, ◌≡◌, ℕ, ◌+◌, ◌≤◌, ◌<◌, max, inl, inr, List, [], ◌∷◌, ◌++◌, get_or, set, refl, sym}
use Rattle.std.proofs.Common.{◌∙◌, ap, subst, arith, cond, ltb}
use Rattle.std.proofs.lemmas.Bool.{cases_eq, cases_lt, eq-eqb, le-ltb, lt-ltb, ne_eqb}
use Rattle.shop_lanes.specs.Rows.{Rows}
use Rattle.shop_model.specs.{Shop.{Shop, IsOperation, machine_of}, Word.{IsWord, place_next, placing}}
use Rattle.shop_layout.specs.{HeadLimits.latest_end, Lanes.rows_of}
use Rattle.shop_layout.{specs.Positions.{LayoutState, first_position, position_of}, proofs.LaidPositions.is_position_of}
use Rattle.shop_states.specs.declared.{late_raises.Latest.Latest, states.Candidate.Candidate}
use Rattle.shop_states.specs.inner.{LaneHeads.AreHeadsAt, LaneStates.IsKeptInLanes, Watchers.floor_on}
use Rattle.shop_states.specs.inner.Raises.{AreInRouteOrder, AsksNext, AsksOwn, IsInBlocks, IsOnMachine}
use Rattle.shop_states.specs.inner.Raises.{IsRaisable, IsRaised, Raises, at_in, steps_of}
use Rattle.shop_states.specs.inner.Siblings.{AreLatest, AreSiblings, CanEnd, IsAmong, end_by, free_late, job_at}
use Rattle.shop_states.proofs.{AskedHeads.{own_reached, reach_next, reach_own}, BehindRaises.{free_last, free_other}}
use Rattle.shop_states.proofs.{AdvanceSteps.end_small, Candidates.head_is, ChildRaises.heads_small}
use Rattle.shop_states.proofs.{ChildReads.{head_here, is_operation}, StateSteps.{next_at, next_known, within}}
use Rattle.shop_states.proofs.ChildTargets.{child_fits, child_head, child_raised, child_small, heads_least, struck_here}
use Rattle.shop_states.proofs.ChildTargets.{struck_low, struck_order, struck_other}
use Rattle.shop_states.proofs.RaisedHeads.{fits_at, in_order, operation_in, raisable_to, waits_at_step}

module _ {greatest : ℕ} {shop : Shop} {w : List ℕ} {l : LayoutState} {hs es nexts : List ℕ}
    (kept : IsKeptInLanes greatest shop w l (rows_of l hs es) nexts) {cs : List Candidate}
    (siblings : AreSiblings shop w cs) where
  -- each of the candidates
  module _ {j : ℕ} (among : IsAmong cs j) where
    pub its_word : IsWord shop (w ++ j ∷ [])
    its_word = subst (λ (i : ℕ). IsWord shop (w ++ i ∷ [])) among.is (siblings.fits among.at among.within)

    pub its_position_is : get_or nexts j 0 ≡ position_of l j ((placing shop w).steps j)
    its_position_is = next_at j kept its_word refl

    -- its end, and one higher
    pub its_end : end_by hs l.times nexts j
        ≡ (place_next shop (placing shop w) j).free (machine_of shop j ((placing shop w).steps j)) + 1
    its_end = head_is j kept its_word refl

    pub can_end : CanEnd greatest l hs nexts j
    can_end = record {
      job = next_known j kept its_word;
      position = within j kept its_word refl;
      timed = (let a = within j kept its_word refl in let b = kept.kept.laid.positions.times
          in let c = kept.kept.heads.positions in omega arith);
      fits = (end_small j kept.kept its_word its_position_is refl refl).1;
      computable = kept.kept.computable;
    }

  pub same_machine : (j k : ℕ) → IsAmong cs j → IsAmong cs k
      → machine_of shop j ((placing shop w).steps j) ≡ machine_of shop k ((placing shop w).steps k)
  same_machine j k a b = grind arith

  module _ {t : Latest} (latest : AreLatest (end_by hs l.times nexts) cs t) where
    abbrev machine : ℕ
    machine = machine_of shop t.job ((placing shop w).steps t.job)

    abbrev last : ℕ
    last = get_or nexts t.job 0

    pub second_low : t.second ≤ t.end
    second_low = grind arith

    own_order : AreInRouteOrder l (at_in hs)
    own_order = in_order kept.kept.limits kept.kept.laid (placing shop w) kept.kept.heads (λ i. omega arith)

    -- some heads that are late enough behind the last candidate
    record IsBeside (b : ℕ → ℕ) : Type 0 where
      rests : (q : ℕ) → get_or hs q 0 ≡ 0 → b q ≡ 0
      order : AreInRouteOrder l b
      here : get_or hs last 0 ≤ b last
      second : t.second ≤ b last
      fits : (q : ℕ) → 0 < b q → b q + get_or l.times q 0 ≤ greatest
      small : (q : ℕ) → b q ≤ latest_end shop + 1

    -- the word's own, where there is no other candidate
    own_beside : t.second ≡ 0 → IsBeside (at_in hs)
    own_beside none = record {
      rests = λ q z. z;
      order = own_order;
      here = omega arith;
      second = omega arith;
      fits = fits_at kept.kept.limits kept.kept.laid kept.kept.heads (at_in hs) (λ i k op opened.
          let head = kept.kept.heads.waiting i k op opened
          in let fit = kept.kept.fits w kept.kept.word i k op opened in omega arith);
      small = heads_small shop kept.kept.limits l kept.kept.laid w kept.kept.word hs kept.kept.heads;
    }

    last_waits : 0 < get_or hs last 0
    last_waits =
        let a = head_here kept.kept t.job (its_word latest.last)
        in let b = ap (λ (q : ℕ). get_or hs q 0) (its_position_is latest.last) in omega arith

    its_operation : {j : ℕ} → (among : IsAmong cs j) → IsOperation shop j ((placing shop w).steps j)
    its_operation {j} among = is_operation kept.kept j (its_word among)

    -- its position is one of the machine
    on_its : (m : ℕ) → m ≡ machine → IsOnMachine l m last
    on_its m is = grind (arith, is_position_of, its_operation, its_position_is)

    -- jobs apart stand apart
    apart : (j : ℕ) → IsAmong cs j → (j ≡ t.job → ⊥) → last ≡ position_of l j ((placing shop w).steps j) → ⊥
    apart j among differs same =
        let a = is_position_of shop kept.kept.limits l kept.kept.laid t.job ((placing shop w).steps t.job)
        (its_operation latest.last)
        in let b = is_position_of shop kept.kept.limits l kept.kept.laid j ((placing shop w).steps j)
        (its_operation among)
        in differs (sym b.job ∙ (ap (λ (q : ℕ). get_or l.jobs q 0) (sym same ∙ its_position_is latest.last) ∙ a.job))

    -- the child's by the candidate that ends last of the others
    other_beside : (j : ℕ) → (among : IsAmong cs j) → (j ≡ t.job → ⊥) → t.second ≡ end_by hs l.times nexts j
        → IsBeside (child_head kept.kept j (its_word among))
    other_beside j among differs is =
        let fits = its_word among
        in let raised = child_raised kept.kept j fits
        in let struck = struck_other kept.kept j fits last (apart j among differs)
        in let rises = raised.rises last
        in let some = last_waits
        in let end = its_end among
        in let reach = own_reached raised last (on_its (machine_of shop j ((placing shop w).steps j))
        (same_machine j t.job among latest.last)) (omega arith)
        in record {
          rests = λ q none. raised.rests q (let low = struck_low kept.kept j fits q in omega arith);
          order = raised.order;
          here = omega arith;
          second = omega arith;
          fits = child_fits kept.kept j fits;
          small = child_small kept.kept j fits;
        }

    beside : (b : ℕ → ℕ) × IsBeside b
    beside = elim latest.second [
      | inl none ↦ (at_in hs, own_beside none)
      | inr some ↦ (
        child_head kept.kept some.0 (its_word some.1.0),
        other_beside some.0 some.1.0 some.1.1.0 some.1.1.1,
      )
    ]

    -- the greater of these and of the heads after the candidate that ends last
    of_last : ℕ → ℕ
    of_last = child_head kept.kept t.job (its_word latest.last)

    late_head : ℕ → ℕ
    late_head q = max (of_last q) (beside.0 q)

    module _ {from to : ℕ} (from_is : from ≡ get_or l.blocks machine 0)
        (to_is : to ≡ get_or l.blocks (machine + 1) 0) where
      last_raised : IsRaised l (IsOnMachine l machine) (AsksOwn t.end)
          (at_in (set hs (position_of l t.job ((placing shop w).steps t.job)) 0)) of_last
      unfolding of_last
      last_raised = subst (λ (e : ℕ). IsRaised l (IsOnMachine l machine) (AsksOwn e)
          (at_in (set hs (position_of l t.job ((placing shop w).steps t.job)) 0))
          (child_head kept.kept t.job (its_word latest.last)))
          (sym (latest.end ∙ its_end latest.last)) (child_raised kept.kept t.job (its_word latest.last))

      -- what waits elsewhere than at its position
      waits_there : (q : ℕ) → (q ≡ last → ⊥)
          → get_or (set hs (position_of l t.job ((placing shop w).steps t.job)) 0) q 0 ≡ get_or hs q 0
      waits_there q ne = search (rules, struck_other, its_word, its_position_is)

      late_rises : (q : ℕ) → get_or hs q 0 ≤ late_head q
      unfolding late_head
      late_rises q = grind (arith, cases_eq, beside, last_raised, waits_there)

      late_order : AreInRouteOrder l late_head
      unfolding late_head
      late_order j k two some = elim (cases_lt 0 (of_last (position_of l j k))) [
        | inl first ↦ grind (arith, last_raised, cases_lt, beside)
        | inr none ↦ (let y = beside.1.order j k two (omega arith) in omega arith)
      ]

      -- on the machine these heads are late enough
      free_low : (q : ℕ) → IsInBlocks from to q → 0 < get_or hs q 0 → free_late last t q ≤ late_head q
      unfolding late_head
      free_low q here waits = elim (cases_eq q last) [
        | inl is ↦ (let b = ap beside.0 is in let second = beside.1.second in let free = free_last last t is refl
            in omega arith)
        | inr ne ↦ (let same = waits_there q ne in let low = here.0 in let high = here.1
            in let reach = own_reached last_raised q (omega arith, omega arith) (omega arith)
            in let free = free_other last t ne refl in omega arith)
      ]

      late_raised : IsRaised l (IsInBlocks from to) (AsksNext l (free_late last t)) (at_in hs) late_head
      unfolding late_head
      late_raised = record {
        rises = late_rises;
        rests = λ q none.
            let low = struck_low kept.kept t.job (its_word latest.last) q
            in let x = last_raised.rests q (omega arith) in let y = beside.1.rests q none in omega arith;
        order = late_order;
        reach = λ p q v here asked waits.
            let up = late_rises p
            in reach_next late_head late_order (waits_at_step kept.kept.limits kept.kept.laid kept.kept.heads p waits)
            (omega arith) (free_low p here waits) asked;
      }

      late_fits : (q : ℕ) → 0 < late_head q → late_head q + get_or l.times q 0 ≤ greatest
      unfolding late_head of_last
      late_fits q some = grind (arith, beside, cases_lt, of_last, child_fits, its_word)

      late_small : (q : ℕ) → late_head q ≤ latest_end shop + 1
      unfolding late_head of_last
      late_small q = grind (arith, child_small, its_word, beside)

      -- an operation that begins when the machine is free ends in time
      pub ends_fit : (q : ℕ) → IsInBlocks from to q → 0 < get_or hs q 0
          → free_late last t q + get_or l.times q 0 ≤ greatest
      ends_fit q here waits =
          let low = free_low q here waits in let up = late_rises q in let fits = late_fits q (omega arith)
          in omega arith

      pub can_late : IsRaisable greatest l [] (rows_of l hs es) (IsInBlocks from to) (AsksNext l (free_late last t))
      can_late = raisable_to kept.kept.limits kept.kept.laid kept.kept.heads refl (grind arith) (omega arith)
          kept.kept.computable own_order late_head late_raised late_fits

      -- the raised heads
      module _ {now : Rows} (raises : Raises greatest l [] (IsInBlocks from to) (AsksNext l (free_late last t))
          (rows_of l hs es) now) where
        pub now_small : (q : ℕ) → get_or now.heads q 0 ≤ latest_end shop + 1
        now_small q = let a = raises.raised.least late_head late_raised q in let b = late_small q in omega arith

        -- no head of a child is higher, but on the machine up to the end of its own operation
        module _ {j : ℕ} (among : IsAmong cs j) where
          child_other : ℕ → ℕ
          child_other q = cond {A = ℕ} (ltb 0 (get_or (set hs (position_of l j ((placing shop w).steps j)) 0) q 0))
              (max (get_or now.heads q 0) (floor_on machine (end_by hs l.times nexts j) (get_or l.machines q 0))) 0

          other_some : (q : ℕ) → 0 < get_or (set hs (position_of l j ((placing shop w).steps j)) 0) q 0 → child_other q
              ≡ max (get_or now.heads q 0) (floor_on machine (end_by hs l.times nexts j) (get_or l.machines q 0))
          unfolding child_other
          other_some q some =
              rw (lt-ltb 0 (get_or (set hs (position_of l j ((placing shop w).steps j)) 0) q 0) some) refl

          other_none : (q : ℕ) → get_or (set hs (position_of l j ((placing shop w).steps j)) 0) q 0 ≡ 0
              → child_other q ≡ 0
          unfolding child_other
          other_none q none = grind (arith, le-ltb)

          struck_some : (q : ℕ) → 0 < child_other q
              → 0 < get_or (set hs (position_of l j ((placing shop w).steps j)) 0) q 0
          struck_some q some = grind (arith, cases_eq, other_none)

          -- what waits on the machine is raised behind its end
          delayed : (i k : ℕ) → k + 1 < steps_of l i
              → 0 < get_or (set hs (position_of l j ((placing shop w).steps j)) 0) (position_of l i k) 0
              → floor_on machine (end_by hs l.times nexts j) (get_or l.machines (position_of l i k) 0)
              + get_or l.times (position_of l i k) 0 ≤ get_or now.heads (position_of l i (k + 1)) 0
          delayed i k two some =
              let q = position_of l i k
              in let op = operation_in kept.kept.limits kept.kept.laid i (k + 1) two
              in let op_k : IsOperation shop i k = omega arith
              in let at = is_position_of shop kept.kept.limits l kept.kept.laid i k op_k
              in let low = struck_low kept.kept j (its_word among) q
              in let rises = raises.raised.raised.rises q
              in let order = raises.raised.raised.order i k two (omega arith)
              in elim (cases_eq (get_or l.machines q 0) machine) [
                | inr off ↦ grind (arith, ne_eqb)
                | inl on ↦ (let all : floor_on machine (end_by hs l.times nexts j) (get_or l.machines q 0)
                    ≡ end_by hs l.times nexts j = rw (eq-eqb (get_or l.machines q 0) machine on) refl
                    in let own = kept.kept.laid.machines_at.at (machine_of shop i k) q
                    (kept.kept.limits.on_machines i k) at.from at.to
                    in let a : first_position l (machine_of shop i k) ≡ first_position l machine =
                    ap (first_position l) (sym own ∙ on)
                    in let b : first_position l (machine_of shop i k + 1) ≡ first_position l (machine + 1) =
                    ap (λ (n : ℕ). first_position l (n + 1)) (sym own ∙ on)
                    in let from' = at.from in let to' = at.to
                    in let ends : end_by hs l.times nexts (job_at cs among.at) ≡ end_by hs l.times nexts j =
                    ap (end_by hs l.times nexts) among.is
                    in let late = raises.raised.raised.reach q (position_of l i (k + 1))
                    (free_late last t q + get_or l.times q 0) (omega arith, omega arith) (record {
                      more = rw (at.job, at.step) two;
                      next = rw (at.job, at.step) refl;
                      ready = refl;
                    }) (omega arith)
                    in elim (cases_eq q last) [
                      | inr ne ↦ (let free = free_other last t ne refl
                          in let each = latest.each among.at among.within in omega arith)
                      | inl is ↦ (let free = free_last last t is refl
                          in let differs : job_at cs among.at ≡ t.job → ⊥ = λ same. (
                          let here : q ≡ position_of l j ((placing shop w).steps j) = is ∙ (its_position_is latest.last
                          ∙ ap (λ (x : ℕ). position_of l x ((placing shop w).steps x)) (sym same ∙ among.is))
                          in let none = struck_here kept.kept j (its_word among) q here in omega arith)
                          in let other = latest.others among.at among.within differs in omega arith)
                    ])
              ]

          other_raised : IsRaised l (IsOnMachine l (machine_of shop j ((placing shop w).steps j)))
              (AsksOwn ((place_next shop (placing shop w) j).free (machine_of shop j ((placing shop w).steps j)) + 1))
              (at_in (set hs (position_of l j ((placing shop w).steps j)) 0)) child_other
          other_raised = record {
            rises = λ q. elim (cases_lt 0 (get_or (set hs (position_of l j ((placing shop w).steps j)) 0) q 0)) [
              | inl some ↦ (let is = other_some q some in let low = struck_low kept.kept j (its_word among) q
                  in let rises = raises.raised.raised.rises q in omega arith)
              | inr none ↦ omega arith
            ];
            rests = other_none;
            order = λ i k two some.
                let waits = struck_some (position_of l i k) some
                in let next = struck_order kept.kept j (its_word among) i k two waits
                in let a = other_some (position_of l i k) waits
                in let b = other_some (position_of l i (k + 1)) (omega arith)
                in let late = delayed i k two waits
                in let low = struck_low kept.kept j (its_word among) (position_of l i k)
                in let rises = raises.raised.raised.rises (position_of l i k)
                in let order = raises.raised.raised.order i k two (omega arith)
                in omega arith;
            reach = reach_own (λ q here some.
                let a = other_some q some
                in let m = machine_of shop j ((placing shop w).steps j)
                in let own = kept.kept.laid.machines_at.at m q
                (kept.kept.limits.on_machines j ((placing shop w).steps j))
                here.0 here.1
                in let on : get_or l.machines q 0 ≡ machine = own ∙ same_machine j t.job among latest.last
                in let all : floor_on machine (end_by hs l.times nexts j) (get_or l.machines q 0)
                ≡ end_by hs l.times nexts j = rw (eq-eqb (get_or l.machines q 0) machine on) refl
                in let end = its_end among
                in omega arith);
          }

          pub child_low : {heads : List ℕ} → AreHeadsAt shop (place_next shop (placing shop w) j) l heads → (q : ℕ)
              → get_or heads q 0
              ≤ max (get_or now.heads q 0) (floor_on machine (end_by hs l.times nexts j) (get_or l.machines q 0))
          child_low {heads} are q =
              let least = heads_least kept.kept j (its_word among) are child_other other_raised q
              in grind (arith, cases_lt, other_some, other_none)
