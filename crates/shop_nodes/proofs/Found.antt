-- The words of a search: children are words, what is left are words, and what is found is full.
use Rattle.std.proofs.Common.{rules, ◌≡◌, ℕ, zero, suc, ◌+◌, ◌<◌, inl, inr, Bool, true, false, None, List, [], ◌∷◌}
use Rattle.std.proofs.{Common.{◌++◌, length, map, refl, arith, ltb, leb}, lemmas.Bool.{cases_Bool, ltb-true}}
use Rattle.std.{proofs.lemmas.List.length-append, specs.List.{AllByRecursion, filter, fold}}
use Rattle.shop_model.{specs.{Shop.{Shop, route_of}, Word.{placing, IsWord}}, proofs.Unders.after_word}
use Rattle.shop_bound.{specs.Bound.lb, proofs.{Entries.IsWord-snoc, Lists.{all_append, all_filter}}}
use Rattle.shop_nodes.specs.{Branching.{conflict_among, conflict, branch}, Walking.{Walk, walk, walk_within}}
use Rattle.shop_nodes.specs.{Walking.{operations_left, taking, unless_cut, sheet}, Laws.{IsBestOf, SearchesLoseNoTable}}
use Rattle.shop_nodes.proofs.Members.{in_contains, contains_in, all_contains, contains_all, all_sort}
use Rattle.shop_nodes.proofs.{Counting.full_from, SearchLaw.{walk_goes_on, fold_goes_on, Reaches, reaches_later}}
use Rattle.shop_nodes.proofs.SearchLaw.{fold_reaches, walk_reaches}

-- a word with one entry more than w
abbrev pub IsLonger : Shop → List ℕ → List ℕ → Type 0
IsLonger shop w c = IsWord shop c × (length c ≡ length w + 1)

module _ (shop : Shop) (w : List ℕ) (word : IsWord shop w) where
  steps_of : ℕ → ℕ
  steps_of j = (placing shop w).steps j

  module _ where
    with_steps : (js : List ℕ) → AllByRecursion (λ j. steps_of j < length (route_of shop j))
        (filter (λ j. ltb ((placing shop w).steps j) (length (route_of shop j))) js)
    unfolding steps_of
    with_steps [] = tt
    with_steps (j ∷ js) = grind (arith, cases_Bool, ltb-true, with_steps js)

    in_conflict : (js : List ℕ) → AllByRecursion (λ j. steps_of j < length (route_of shop j)) js
        → AllByRecursion (λ j. steps_of j < length (route_of shop j)) (conflict_among shop (placing shop w) js)
    in_conflict [] a = tt
    in_conflict (j ∷ js) a = search (rules, all_filter)

    longer : (js : List ℕ) → AllByRecursion (λ j. steps_of j < length (route_of shop j)) js
        → AllByRecursion (IsLonger shop w) (map (λ j. w ++ j ∷ []) js)
    unfolding steps_of
    longer [] a = tt
    longer (j ∷ js) a = (
      (
        IsWord-snoc shop w j word (let b = a.0 in let c = (after_word shop w word).steps j
            in omega arith),
        length-append w (j ∷ []),
      ),
      longer js a.1,
    )

    pub children_longer : AllByRecursion (IsLonger shop w) (branch shop w)
    children_longer = search (rules, all_sort, longer, in_conflict, with_steps)

    extended : (js : List ℕ) → AllByRecursion (λ j. steps_of j < length (route_of shop j)) js
        → AllByRecursion (λ j. IsWord shop (w ++ j ∷ [])) js
    unfolding steps_of
    extended [] a = tt
    extended (j ∷ js) a = (
      IsWord-snoc shop w j word (let b = a.0 in let c = (after_word shop w word).steps j in omega arith),
      extended js a.1,
    )

    -- each job of the conflict set makes a longer word
    pub conflict_words : AllByRecursion (λ j. IsWord shop (w ++ j ∷ [])) (conflict shop w)
    conflict_words = search (rules, extended, in_conflict, with_steps)

-- what a walk that began at `opening` has found and left
pub record IsSound (shop : Shop) (opening : ℕ) (s : Walk) : Type 0 where
  pub found : IsBestOf shop opening s.best s.found
  pub left : AllByRecursion (IsWord shop) s.left

taking_sound : (shop : Shop) (opening b : ℕ) (s : Walk) (w : List ℕ) (go : Walk → Walk) → IsWord shop w
    → IsSound shop opening s → ((t : Walk) → IsSound shop opening t → IsSound shop opening (go t))
    → IsSound shop opening (taking b s w go)
taking_sound shop opening zero s w go word i h = record {
  found = i.found;
  left = all_append (IsWord shop) s.left (w ∷ []) i.left (word, tt);
}
taking_sound shop opening (suc b) s w go word i h = grind arith

cut_sound : (shop : Shop) (opening : ℕ) (test : Bool) (t : Walk) (go : Walk → Walk) → IsSound shop opening t
    → IsSound shop opening (go t) → IsSound shop opening (unless_cut test t go)
cut_sound shop opening true t go i h = i
cut_sound shop opening false t go i h = h

fold_sound : (shop : Shop) (opening : ℕ) (P : List ℕ → Type 0) (f : Walk → List ℕ → Walk)
    → ((s : Walk) (w : List ℕ) → P w → IsSound shop opening s → IsSound shop opening (f s w))
    → (s : Walk) (ws : List (List ℕ)) → AllByRecursion P ws → IsSound shop opening s
    → IsSound shop opening (fold f s ws)
fold_sound shop opening P f h s [] a i = i
fold_sound shop opening P f h s (w ∷ ws) a i = fold_sound shop opening P f h (f s w) ws a.1 (h s w a.0 i)

walk_sound : (shop : Shop) (opening n : ℕ) (s : Walk) (w : List ℕ) → IsWord shop w → operations_left shop w ≡ n
    → IsSound shop opening s → IsSound shop opening (walk_within shop n s w)
walk_sound shop opening zero s w word e i =
    taking_sound shop opening s.budget s w _ word i (λ t k. cut_sound shop opening (leb t.best (lb shop w)) t _ k
    (record { found = (full_from shop w word e, refl); left = k.left }))
walk_sound shop opening (suc n) s w word e i =
    taking_sound shop opening s.budget s w _ word i (λ t k. cut_sound shop opening (leb t.best (lb shop w)) t _ k
    (fold_sound shop opening (IsLonger shop w) (walk_within shop n) (λ u c longer j. walk_sound shop opening n u c
    longer.0 (let x = longer.1 in omega arith) j) t (branch shop w) (children_longer shop w word) k))

-- what a search of some words keeps
pub searches_keep : SearchesLoseNoTable
unfolding Reaches
searches_keep shop piece best budget words =
    let opening : Walk = record { found = None; best = best; left = []; budget = budget }
    in let go = fold_goes_on (walk shop) (λ s w. walk_goes_on shop (operations_left shop w) s w) opening piece
    in let all = all_contains (IsWord shop) piece words
    in let sound = fold_sound shop best (IsWord shop) (walk shop) (λ s w word i. walk_sound shop best
    (operations_left shop w) s w word refl i) opening piece all (record { found = refl; left = tt })
    in record {
      found = sound.found;
      best = go.best;
      left = contains_all (IsWord shop) (sheet shop piece best budget).left sound.left;
      tables = λ starts h.
          let member = in_contains h.word piece h.member
          in let word = words h.word h.member
          in let reaches = fold_reaches shop (walk shop) h.better h.word
          (λ s w. walk_goes_on shop (operations_left shop w) s w)
          (λ s. walk_reaches shop
          (operations_left shop h.word) s h.word h.better word refl h.under) opening piece member
          in elim (reaches_later shop (sheet shop piece best budget) h.better starts h.ends reaches) [
            | inl a ↦ inl a
            | inr a ↦ inr (record {
              word = a.0;
              member = contains_in a.0 (sheet shop piece best budget).left a.1;
              better = a.2;
              under = a.3;
              ends = a.4;
            })
          ];
    }
