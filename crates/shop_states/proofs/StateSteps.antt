-- What is kept of a word, with one operation more.
use Rattle.std.proofs.Common.{rules, ◌≡◌, ℕ, ◌+◌, ◌<◌, inl, inr, List, [], ◌∷◌, ◌++◌, length, get_or, set, refl, sym}
use Rattle.std.proofs.{Common.{◌∙◌, ap, subst, arith}, lemmas.{Bool.cases_eq, Grind.get_or-set_at}}
use Rattle.std.proofs.lemmas.List.{get_or-set_other, length-set}
use Rattle.shop_lanes.specs.Rows.{Rows, with_end}
use Rattle.shop_model.specs.{Shop.{Shop, IsOperation}, Word.{Placing, IsWord, placing, place_next}}
use Rattle.shop_model.proofs.{Placings.place_next-is, Unders.placing-snoc}
use Rattle.shop_states.specs.inner.{LaneChoices.{AreNextsAt, AreNextsOf}, LaneEnds.{CanKeepEnds, IsEndOf, end_at}}
use Rattle.shop_states.specs.inner.{LaneStates.{AreHeadsInLanes, IsKeptInLanes}, Raises.{AreFirst, IsStepPosition}}
use Rattle.shop_layout.specs.Positions.{position_behind, position_or, LayoutState, first_position, position_of}
use Rattle.shop_states.proofs.{ChildReads.is_operation, ChildTurns.its_job, NextOperations.{next_there, next_within}}
use Rattle.shop_states.proofs.LaneEnds.{AreEndsOf, HasEnds, beside_more, can_keep, end_here, end_other, ends_at}
use Rattle.shop_states.proofs.LaneEnds.{ends_of, next_first, nexts_at, with_ends}
use Rattle.shop_states.proofs.{RaisedHeads.{position_behind-is, is_step_position}, SoleCandidates.sole_keeps_bound}

module _ {greatest : ℕ} {shop : Shop} {w : List ℕ} (j : ℕ) {l : LayoutState} {rows : Rows} {nexts : List ℕ}
    (kept : IsKeptInLanes greatest shop w l rows nexts) (fits : IsWord shop (w ++ j ∷ [])) where
  pub next_known : j < length nexts
  next_known = let a = its_job shop w j fits in let b = kept.are_next.jobs in omega arith

  pub firsts : AreFirst l nexts rows.heads
  firsts = next_first kept.kept kept.are_next

  there : AreNextsAt shop (placing shop w) l nexts rows
  there = nexts_at kept.kept kept.are_next

  operation : IsOperation shop j ((placing shop w).steps j)
  operation = is_operation kept.kept j fits

  module _ {x : ℕ} (x_is : x ≡ get_or nexts j 0) where
    pub next_at : x ≡ position_of l j ((placing shop w).steps j)
    next_at = x_is ∙ next_there there j operation

    pub within : x < length rows.heads
    within = let a = next_within there j operation in let b = x_is in omega arith

    pub known_position : x < length l.jobs
    known_position =
        let a = within in let rows = kept.kept.laid.positions.jobs in let heads = kept.kept.heads.positions
        in omega arith

    pub stands : IsStepPosition l x
    stands = subst (IsStepPosition l) (sym next_at)
        (is_step_position kept.kept.limits kept.kept.laid j ((placing shop w).steps j) operation)

    -- and the position behind x
    module _ {q : ℕ} (read : q ≡ position_behind l x) {after : List ℕ} (wrote : after ≡ set nexts j q) where
      nexts_more : AreNextsOf shop (placing shop (w ++ j ∷ [])) l after
      nexts_more =
          let next = place_next-is shop (placing shop w) j
          in let op = operation
          in let route = kept.kept.laid.routes j
          in let n = first_position l shop.machines
          in let placed : placing shop (w ++ j ∷ []) ≡ place_next shop (placing shop w) j = placing-snoc shop w j
          in let follows : q ≡ position_or n l.step_positions j ((placing shop w).steps j + 1) =
          read ∙ (ap (position_behind l) next_at
          ∙ position_behind-is kept.kept.limits kept.kept.laid j ((placing shop w).steps j) operation)
          in let here : get_or (set nexts j q) j 0
          ≡ position_or n l.step_positions j ((placing shop (w ++ j ∷ [])).steps j) =
          get_or-set_at nexts j j q 0 refl next_known
          ∙ (follows ∙ ap (position_or n l.step_positions j) (sym (ap (λ (p : Placing). p.steps j) placed
          ∙ next.steps_here)))
          in grind (arith, length-set, cases_eq, get_or-set_other)

      -- in the heads of the word with the operation, with the ends of other jobs
      module _ {new : Rows} (now : AreHeadsInLanes greatest shop (w ++ j ∷ []) l new)
          (long : length new.ends ≡ length rows.ends) (others : (i : ℕ) → i < length nexts → (get_or nexts i 0 ≡ x → ⊥)
          → IsEndOf greatest nexts rows i → IsEndOf greatest nexts new i) where
        as_many_ends : length new.ends ≡ length shop.jobs
        as_many_ends = long ∙ kept.ends.jobs

        pub ends_more : CanKeepEnds greatest l after new
        ends_more = can_keep now nexts_more as_many_ends

        pub job_more : j < length after
        job_more = let a = next_known in let b = ap length wrote in omega (arith, length-set nexts j q)

        -- another job's next operation doesn't stand there
        elsewhere : (i : ℕ) → i < length nexts → (i ≡ j → ⊥) → get_or nexts i 0 ≡ x → ⊥
        elsewhere i known ne at = search (rules, within, firsts, next_known)

        module _ {ended : Rows} (set_end : ended ≡ with_end new j (end_at greatest after new j)) where
          same : HasEnds new new
          same = record { heads = refl; times = refl; tails = refl; ends = refl }

          beside : HasEnds new ended
          beside = beside_more ends_more same job_more set_end

          ends_set : AreEndsOf greatest after ended
          ends_set i known = elim (cases_eq i j) [
            | inl e ↦ grind (arith, end_here, ends_more, same, job_more)
            | inr ne ↦ (
                let before : i < length nexts = (let a = ap length wrote in omega (arith, length-set nexts j q))
                in let was = ends_of kept.kept kept.are_next kept.ends.jobs kept.ends i before
                in let now = others i before (elsewhere i before ne) was
                in let next : get_or after i 0 ≡ get_or nexts i 0 =
                ap (λ (xs : List ℕ). get_or xs i 0) wrote ∙ get_or-set_other nexts j i q 0 ne
                in end_other ends_more same job_more set_end i ne (rw next now))
          ]

          pub kept_more : IsKeptInLanes greatest shop (w ++ j ∷ []) l ended after
          kept_more =
              let heads = with_ends beside now
              in record {
                kept = heads;
                are_next = nexts_more;
                ends = ends_at heads nexts_more (beside.ends ∙ as_many_ends) kept.holds ends_set;
                holds = kept.holds;
                sole = sole_keeps_bound shop now.limits now.laid.slots now.laid.are (w ++ j ∷ []) now.word;
              }
