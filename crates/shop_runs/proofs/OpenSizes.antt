-- How many words a run leaves open: one at first, and for each node that is taken at most one for each job.
use Rattle.std.proofs.Common.{◌≡◌, ℕ, zero, suc, ◌+◌, ◌*◌, ◌^◌, ◌≤◌, ◌<◌, Bool, Option, Some, None, List, [], ◌∷◌}
use Rattle.std.proofs.Common.{◌++◌, length, map}
use Rattle.std.proofs.{Common.{refl, sym, ◌∙◌, ap, arith, leb, ltb}}
use Rattle.std.proofs.{lemmas.{Bool.cases_Bool, List.{length-append, length-map}}}
use Rattle.std.proofs.lemmas.List.{FromFn.length-range_with_len, Sums.sum_by-cons}
use Rattle.std.specs.List.{filter, flat_map, fold, sum_by, range_with_len}
use Rattle.shop_model.specs.{Limits.IsWithinLimits, Shop.{Shop, route_of}}
use Rattle.shop_model.specs.Word.{Placing, placing, start_jobs}
use Rattle.shop_bound.specs.{Bound.lb, Conflicts.{open_jobs, chosen_of, conflicts_with, conflict, conflict_among}}
use Rattle.shop_nodes.specs.{Branching.branch}
use Rattle.shop_nodes.specs.{Walking.{Walk, walk, walk_within, operations_left, sheet, taking, unless_cut}}
use Rattle.shop_runs.specs.{Plans.Planned, Round.{Stand, Told, taken_of, sheet_in, sheets_of, up_to_hit, best_word}}
use Rattle.shop_runs.specs.Round.{after_round, words_of_round, in_order, gathered, cut_of, round, opening}
use Rattle.shop_runs.specs.{Answers.{unless_closed, rounds_from, answer}, inner.Searches.HasFewOpen}
use Rattle.shop_runs.specs.{Limits.IsCountWithin}
use Rattle.shop_runs.proofs.{Cutting.pieces_all, FrontLemmas.{length_order, sort_length}}

pub few_filtered : {A : Type 0} (p : A → Bool) (xs : List A) → length (filter p xs) ≤ length xs
few_filtered p [] = omega arith
few_filtered p (x ∷ xs) = grind (arith, cases_Bool, few_filtered p xs)

pub times_both : (a b j : ℕ) → (a + b) * j ≡ a * j + b * j
times_both zero b j = omega arith
times_both (suc a) b j = let e = times_both a b j in omega arith

pub times_at_most : (a b j : ℕ) → a ≤ b → a * j ≤ b * j
times_at_most zero b j h = omega arith
times_at_most (suc a) zero j h = absurd (omega arith)
times_at_most (suc a) (suc b) j h = let e = times_at_most a b j (omega arith) in omega arith

module _ (shop : Shop) where
  few_open : (p : Placing) → length (open_jobs shop p) ≤ length shop.jobs
  few_open p =
      let a = few_filtered (λ j. ltb (p.steps j) (length (route_of shop j))) (range_with_len 0 (length shop.jobs))
      in let b = length-range_with_len 0 (length shop.jobs)
      in omega arith

  few_among : (p : Placing) (js : List ℕ) → length (conflict_among shop p js) ≤ length js
  few_among p [] = omega arith
  few_among p (j ∷ js) = few_filtered (conflicts_with shop p (chosen_of shop p j js)) (j ∷ js)

  few_children : (w : List ℕ) → length (branch shop w) ≤ length shop.jobs
  few_children w =
      let p = placing shop w
      in let a = few_among p (open_jobs shop p)
      in let b = few_open p
      in let c = length-map (conflict shop w) (λ j. w ++ j ∷ [])
      in let d = sort_length shop (map (λ j. w ++ j ∷ []) (conflict shop w))
      in omega arith

  -- a walk goes from s to t, over this many words
  pub record Leaves (s t : Walk) (words : ℕ) : Type 0 where
    pub less : t.budget ≤ s.budget
    pub few : length t.left + t.budget * length shop.jobs ≤ length s.left + words + s.budget * length shop.jobs

  fold_leaves : (f : Walk → List ℕ → Walk) → ((s : Walk) (w : List ℕ) → Leaves s (f s w) 1)
      → (s : Walk) (ws : List (List ℕ)) → Leaves s (fold f s ws) (length ws)
  fold_leaves f h s [] = record { less = omega arith; few = omega arith }
  fold_leaves f h s (w ∷ ws) =
      let a = h s w in let b = fold_leaves f h (f s w) ws
      in let p = a.less in let q = b.less in let x = a.few in let y = b.few
      in record { less = omega arith; few = omega arith }

  -- once a word is taken, at most one word for each job is left of it
  record GoesOn (s t : Walk) : Type 0 where
    pub less : t.budget < s.budget
    pub few : length t.left + t.budget * length shop.jobs ≤ length s.left + s.budget * length shop.jobs

  taking_leaves : (b : ℕ) (s : Walk) (w : List ℕ) (go : Walk → Walk) → s.budget ≡ b
      → ((t : Walk) → t.left ≡ s.left → t.budget + 1 ≡ s.budget → GoesOn s (go t)) → Leaves s (taking b s w go) 1
  taking_leaves zero s w go e h =
      let l = length-append s.left (w ∷ []) in record { less = omega arith; few = omega arith }
  taking_leaves (suc b) s w go e h =
      let g = h (record s { budget = b }) refl (omega arith)
      in let p = g.less in let q = g.few in record { less = omega arith; few = omega arith }

  cut_goes_on : (test : Bool) (s t : Walk) (go : Walk → Walk) → t.left ≡ s.left → t.budget + 1 ≡ s.budget
      → GoesOn s (go t) → GoesOn s (unless_cut test t go)
  cut_goes_on x s t go same e g =
      let l = ap length same in let m = times_at_most t.budget s.budget (length shop.jobs) (omega arith)
      in grind arith

  pub walk_leaves : (n : ℕ) (s : Walk) (w : List ℕ) → Leaves s (walk_within shop n s w) 1
  walk_leaves zero s w = taking_leaves s.budget s w _ refl
      (λ t same less. cut_goes_on (leb t.best (lb shop w)) s t _ same less
      (let l = ap length same in let m = times_at_most t.budget s.budget (length shop.jobs) (omega arith)
      in record { less = omega arith; few = omega arith }))
  walk_leaves (suc n) s w = taking_leaves s.budget s w _ refl
      (λ t same less. cut_goes_on (leb t.best (lb shop w)) s t _ same less
      (let l = ap length same
      in let all = fold_leaves (walk_within shop n) (walk_leaves n) t (branch shop w)
      in let c = few_children w
      in let p = all.less
      in let q = all.few
      in let m : s.budget * length shop.jobs ≡ length shop.jobs + t.budget * length shop.jobs =
      ap (λ k. k * length shop.jobs) (sym less) ∙ (let e = times_both t.budget 1 (length shop.jobs) in omega arith)
      in record { less = omega arith; few = omega arith }))

  pub sheet_few : (piece : List (List ℕ)) (best budget : ℕ)
      → let t = sheet shop piece best budget
      in length t.left ≤ length piece + taken_of budget t * length shop.jobs
  sheet_few piece best budget =
      let t = sheet shop piece best budget
      in let s : Walk = record { found = None; best = best; left = []; budget = budget }
      in let a = fold_leaves (walk shop) (λ u w. walk_leaves (operations_left shop w) u w) s piece
      in let p = a.less
      in let q = a.few
      in let e = times_both (taken_of budget t) t.budget (length shop.jobs)
      in let f : taken_of budget t + t.budget ≡ budget = omega arith
      in let g = ap (λ k. k * length shop.jobs) f
      in omega arith

-- all sheets of a round
sheets_few : (r : Told) (ps : List (List (List ℕ)))
    → length (flat_map (λ t. t.left) (map (sheet_in r) ps))
    ≤ length (flat_map (λ p. p) ps) + sum_by (taken_of r.budget) (map (sheet_in r) ps) * length r.shop.jobs
sheets_few r [] = omega arith
sheets_few r (p ∷ ps) =
    let a = sheet_few r.shop p r.best r.budget
    in let b = sheets_few r ps
    in let c = length-append (sheet_in r p).left (flat_map (λ t. t.left) (map (sheet_in r) ps))
    in let d = length-append p (flat_map (λ q. q) ps)
    in let e = sum_by-cons (taken_of r.budget) (sheet_in r p) (map (sheet_in r) ps)
    in let f = times_both (taken_of r.budget (sheet_in r p)) (sum_by (taken_of r.budget) (map (sheet_in r) ps))
    (length r.shop.jobs)
    in let g = ap (λ k. k * length r.shop.jobs) e
    in omega arith

after_few : (r : Told) (o : Option (Walk × List Walk))
    → length (after_round r (sheets_of r) o).open_words + r.nodes * length r.shop.jobs
    ≤ length (words_of_round r) + (after_round r (sheets_of r) o).nodes * length r.shop.jobs
after_few r (Some (h, counted)) =
    let m = times_both r.nodes (sum_by (taken_of r.budget) counted) (length r.shop.jobs) in omega arith
after_few r None =
    let a = sheets_few r r.pieces
    in let better = best_word r.best r.word (sheets_of r)
    in let b = few_filtered (λ w. ltb (lb r.shop w) (lb r.shop better)) (flat_map (λ t. t.left) (sheets_of r) ++ r.rest)
    in let c = length-append (flat_map (λ t. t.left) (sheets_of r)) r.rest
    in let d = length-append (flat_map (λ p. p) r.pieces) r.rest
    in let m = times_both r.nodes (sum_by (taken_of r.budget) (sheets_of r)) (length r.shop.jobs)
    in omega arith

-- what a round leaves open of its words, for the nodes that it took
pub gathered_few : (r : Told) → length (gathered r).open_words + r.nodes * length r.shop.jobs
    ≤ length (words_of_round r) + (gathered r).nodes * length r.shop.jobs
gathered_few r = after_few r (up_to_hit r.bound (sheets_of r))

pub opening_few : (shop : Shop) → HasFewOpen shop (opening shop)
opening_few shop =
    let a : length (opening shop).open_words ≤ 1 =
    few_filtered (λ w. ltb (lb shop w) (lb shop (start_jobs shop))) ([] ∷ [])
    in omega arith

pub round_few : (shop : Shop) (plan : Planned) (s : Stand) → HasFewOpen shop s → HasFewOpen shop (round shop plan s)
round_few shop plan s few =
    let r = cut_of shop plan s
    in let a = gathered_few r
    in let b = ap length (pieces_all plan (in_order shop plan.order s.open_words))
    in let c = length_order shop plan.order s.open_words
    in omega arith

closed_few : (shop : Shop) (ws : List (List ℕ)) (s : Stand) (go : Stand → Stand) → HasFewOpen shop s
    → HasFewOpen shop (go s) → HasFewOpen shop (unless_closed ws s go)
closed_few shop [] s go few then = few
closed_few shop (w ∷ ws) s go few then = then

rounds_few : (shop : Shop) (plan : Planned) (n : ℕ) (s : Stand) → HasFewOpen shop s
    → HasFewOpen shop (rounds_from shop plan n s)
rounds_few shop plan zero s few = few
rounds_few shop plan (suc n) s few =
    closed_few shop s.open_words s (λ t. rounds_from shop plan n (round shop plan t)) few
    (rounds_few shop plan n (round shop plan s) (round_few shop plan s few))

pub answer_few : (shop : Shop) (plan : Planned) → HasFewOpen shop (answer shop plan)
answer_few shop plan = rounds_few shop plan plan.rounds (opening shop) (opening_few shop)

-- so no run leaves 2^58 words open
pub few_words : (shop : Shop) (s : Stand) (rounds nodes : ℕ) → IsWithinLimits shop → HasFewOpen shop s
    → IsCountWithin rounds nodes → s.nodes ≤ nodes + 2560000000 → length s.open_words < 2 ^ 59
few_words shop s rounds nodes within few counted le =
    let a = times_at_most rounds 100000 2560000000 counted.0
    in let b = counted.1
    in let c = times_at_most s.nodes 256002560000000 (length shop.jobs) (omega arith)
    in let d = within.jobs
    in omega arith
