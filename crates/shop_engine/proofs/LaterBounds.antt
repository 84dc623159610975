-- A round lowers no bound.
use Rattle.std.proofs.Common.{◌≡◌, ℕ, zero, suc, ◌-◌, ◌≤◌, min, Option, Some, None, List, [], ◌∷◌, ◌++◌, map, sym, ap}
use Rattle.std.{proofs.{Common.{arith, ltb}, lemmas.List.append-nil}, specs.List.{AllByRecursion, flat_map}}
use Rattle.shop_model.specs.{Shop.Shop, Limits.IsWithinLimits, Word.placed}
use Rattle.shop_bound.{specs.Bound.lb, proofs.{BoundLaw.full_word, Lists.{all_append, all_filter}}}
use Rattle.shop_nodes.{specs.Walking.Walk, proofs.Members.all_contains}
use Rattle.shop_runs.specs.Round.{Planned, Stand, Told, least_bound, sheet_in, sheets_of, up_to_hit, best_word}
use Rattle.shop_runs.specs.{Round.{words_of_round, after_round, cut_of, round, opening, makespan_of}, Exact.with_rounds}
use Rattle.shop_runs.specs.Answers.{unless_closed, rounds_from, answer, bound_of}
use Rattle.shop_runs.specs.Laws.{IsStanding, IsRound, StandsCovering}
use Rattle.shop_runs.proofs.{Covering.{cut_is_round, round_covers, opens_covering}, Trusting.{rounds_cover, trust}}
use Rattle.shop_runs.proofs.{Cutting.{all_front, all_back, all_pieces}, Ending.goes_on_from, FrontLemmas.least_order}
use Rattle.shop_engine.{proofs.WalksAbove.{IsAbove, sheet_above}, specs.AnswerLaws.MoreRoundsLowerNoBound}

module _ (shop : Shop) (limits : IsWithinLimits shop) (b : ℕ) where
  pub least_above : (c : ℕ) (ws : List (List ℕ)) → b ≤ c → AllByRecursion (IsAbove shop limits b) ws
      → b ≤ least_bound shop c ws
  least_above c [] h a = h
  least_above c (w ∷ ws) h a = least_above (min c (lb shop w)) ws (let k = a.0.above in omega arith) a.1

module _ (r : Told) (limits : IsWithinLimits r.shop) (is : IsRound r) where
  words_above : AllByRecursion (IsAbove r.shop limits r.bound) (words_of_round r)
  words_above = all_contains (IsAbove r.shop limits r.bound) (words_of_round r)
      (λ w h. record { word = is.words w h; above = is.bound w h })

  left_above : (ps : List (List (List ℕ))) → AllByRecursion (AllByRecursion (IsAbove r.shop limits r.bound)) ps
      → AllByRecursion (IsAbove r.shop limits r.bound) (flat_map (λ t. t.left) (map (sheet_in r) ps))
  left_above [] a = tt
  left_above (p ∷ ps) a = grind (arith, all_append, sheet_above, left_above ps a.1)

  after_above : (o : Option (Walk × List Walk))
      → AllByRecursion (IsAbove r.shop limits r.bound) (after_round r (sheets_of r) o).open_words
  after_above None =
      let P = IsAbove r.shop limits r.bound
      in all_filter (λ w. ltb (lb r.shop w) (lb r.shop (best_word r.best r.word (sheets_of r)))) P P (λ w h e. h)
      (flat_map (λ t. t.left) (sheets_of r) ++ r.rest) (all_append P (flat_map (λ t. t.left) (sheets_of r)) r.rest
      (left_above r.pieces (all_pieces P r.pieces (all_front P (flat_map (λ p. p) r.pieces) r.rest words_above)))
      (all_back P (flat_map (λ p. p) r.pieces) r.rest words_above))
  after_above (Some (h, counted)) = tt

module _ (shop : Shop) (limits : IsWithinLimits shop) (plan : Planned) where
  -- no standing ends before a bound
  ends_above : (s t : Stand) → StandsCovering shop s → IsStanding shop t → bound_of shop s ≤ makespan_of shop t
  ends_above s t covers is =
      let p = full_word shop t.word is.full
      in let a = (trust shop s covers).bound (placed shop t.word) (p.under t.word [] (sym (append-nil t.word))).feasible
      in let e = p.ends
      in omega arith

  same_bound : (s : Stand) → (cut_of shop plan s).bound ≡ bound_of shop s
  same_bound s = least_order shop plan.order (lb shop s.word) s.open_words

  round_above : (s : Stand) → StandsCovering shop s → bound_of shop s ≤ bound_of shop (round shop plan s)
  round_above s covers =
      let r = cut_of shop plan s
      in let next = round shop plan s
      in let above = after_above r limits (cut_is_round shop plan s covers.0) (up_to_hit r.bound (sheets_of r))
      in let m = ends_above s next covers (round_covers shop plan s covers).0
      in let e = same_bound s
      in let h : r.bound ≤ bound_of shop next =
      least_above shop limits r.bound (makespan_of shop next) next.open_words (omega arith) above
      in omega arith

  unless_above : (ws : List (List ℕ)) (s : Stand) (go : Stand → Stand) → bound_of shop s ≤ bound_of shop (go s)
      → bound_of shop s ≤ bound_of shop (unless_closed ws s go)
  unless_above [] s go h = omega arith
  unless_above (w ∷ ws) s go h = h

  pub rounds_above : (n : ℕ) (s : Stand) → StandsCovering shop s
      → bound_of shop s ≤ bound_of shop (rounds_from shop plan n s)
  rounds_above zero s covers = omega arith
  rounds_above (suc n) s covers =
      unless_above s.open_words s (λ t. rounds_from shop plan n (round shop plan t))
      (let a = round_above s covers in let c = rounds_above n (round shop plan s) (round_covers shop plan s covers)
      in omega arith)

pub more_rounds_lower_no_bound : MoreRoundsLowerNoBound
more_rounds_lower_no_bound shop plan n m limits h =
    let covers : StandsCovering shop (answer shop (with_rounds plan n)) =
    rounds_cover shop (with_rounds plan n) n (opening shop) (opens_covering shop)
    in let a = rounds_above shop limits plan (m - n) (answer shop (with_rounds plan n)) covers
    in let e = ap (bound_of shop) (goes_on_from shop plan n m h)
    in omega arith
