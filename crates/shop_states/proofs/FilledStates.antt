-- A state that was set by a placement.
use Rattle.std.proofs.{Common.{◌≡◌, ℕ, ◌<◌, List, length, replicate, get_or, ◌∙◌, ap, arith}, lemmas.Bool.cases_lt}
use Rattle.std.proofs.lemmas.List.{get_or_past, get_or-replicate, length-replicate}
use Rattle.shop_model.specs.{Placements.IsPlacement, Shop.Shop, Word.{IsWord, Placing, placing}}
use Rattle.shop_model.proofs.Ends.{IsOperation-job}
use Rattle.shop_layout.{specs.{LaidOuts.IsReady, Lanes.rows_of, Positions.LayoutState}, proofs.LatestEnds.latest_end_is}
use Rattle.shop_states.specs.inner.{Fills.CanFill, LaneStates.{HasRoom, IsKeptInLanes}, PlacedNexts.IsPlacedAt}
use Rattle.shop_states.proofs.{HeadsFit.heads_fit, PlacedNexts.{placement_at, placement_is}, NextOperations.head_first}
use Rattle.shop_states.proofs.{FilledJobs.AreNextsSet, FillTurns.{HasFilled, IsRested}, SoleCandidates.sole_keeps_bound}

module _ {greatest : ℕ} {shop : Shop} {l : LayoutState} (is : IsReady greatest shop l) {hs es nexts : List ℕ}
    (room : HasRoom shop l hs es nexts) {hs' : List ℕ} (heads : hs' ≡ replicate (length hs) 0) where
  pub can_fill : {es' : List ℕ} → CanFill greatest shop l (rows_of l hs' es')
  can_fill = record {
    limits = is.limits;
    laid = is.laid;
    fits = heads_fit greatest shop l is.limits is.holds;
    computable = is.computable;
    positions = ap length heads ∙ (length-replicate (length hs) 0 ∙ room.positions);
  }

  rested : IsRested hs'
  rested q = grind (arith, cases_lt, get_or-replicate, get_or_past, length-replicate)

  module _ {es' : List ℕ} (long : es' ≡ replicate (length es) greatest) where
    pub as_many : length es' ≡ length shop.jobs
    as_many = ap length long ∙ (length-replicate (length es) greatest ∙ room.jobs_with_ends)

    -- no job has an end yet
    none_set : (j : ℕ) → j < length shop.jobs → get_or es' j 0 ≡ greatest
    none_set j known = grind (arith, get_or-replicate)

    module _ {ready free hs'' es'' nexts' : List ℕ}
        (has : HasFilled shop l (placement_at l nexts ready free) (rows_of l hs' es') (rows_of l hs'' es''))
        (set : (p : Placing) → IsPlacement shop p (placement_at l nexts ready free)
        → AreNextsSet shop l p (length shop.jobs) nexts nexts' es' es'') where
      pub filled_kept : (w : List ℕ) → IsWord shop w → IsPlacedAt shop (placing shop w) l nexts ready free
          → IsKeptInLanes greatest shop w l (rows_of l hs'' es'') nexts'
      filled_kept w word at =
          let placed = placement_is w at
          in let are = set (placing shop w) placed
          in record {
            kept = record {
              limits = is.limits;
              word = word;
              laid = is.laid;
              times = has.beside.times;
              tails = has.beside.tails;
              fits = heads_fit greatest shop l is.limits is.holds;
              computable = is.computable;
              heads = has.filled rested (placing shop w) placed;
            };
            are_next = record { jobs = are.jobs ∙ room.jobs_with_nexts; are = are.are };
            ends = record {
              jobs = are.long ∙ as_many;
              next = λ j op. are.next j (IsOperation-job shop j ((placing shop w).steps j) op) op;
              none = λ j known past. are.none j (λ below. past) ∙ none_set j known;
              fits = λ j op. (
                  let head = head_first shop (placing shop w) j
                  in let latest = latest_end_is shop w word j ((placing shop w).steps j) op (omega arith)
                  in let fits = is.holds 0 (let some = is.limits.some_machine in omega arith) in omega arith);
            };
            holds = is.holds;
            sole = sole_keeps_bound shop is.limits is.laid.slots is.laid.are w word;
          }
