-- The sheets of a round: the best word of them, and the first that ends at a bound.
use Rattle.std.proofs.Common.{rules, ◌≡◌, ℕ, ◌≤◌, ◌<◌, inl, inr, false, cond, Option, Some, None, List, [], ◌∷◌, map}
use Rattle.std.proofs.{Common.{refl, sym, ◌∙◌, ap, subst, arith, ltb, eqb}, lemmas.Bool.{cases_Bool, ltb-true}}
use Rattle.std.{proofs.lemmas.Bool.{ltb-false, eqb-true}, specs.{Prelude.unwrap_or, List.{AllByRecursion, flat_map}}}
use Rattle.std.specs.List.{fold}
use Rattle.shop_model.specs.{Shop.Shop, Word.{IsWord, IsFull}}
use Rattle.shop_bound.{specs.Bound.lb, proofs.Lists.all_append}
use Rattle.shop_nodes.{specs.{Walking.Walk, Laws.IsBestOf}, proofs.Members.{In, all_contains, contains_all}}
use Rattle.shop_nodes.proofs.Found.{searches_keep}
use Rattle.shop_runs.specs.Round.{Told, sheet_in, hit_or, up_to_hit, best_word}

-- what is known of a sheet from the opening best
pub record IsOfRound (shop : Shop) (best : ℕ) (s : Walk) : Type 0 where
  pub found : IsBestOf shop best s.best s.found
  pub left : AllByRecursion (IsWord shop) s.left

pub sheets_known : (r : Told) (ps : List (List (List ℕ))) → AllByRecursion (AllByRecursion (IsWord r.shop)) ps
    → AllByRecursion (IsOfRound r.shop r.best) (map (sheet_in r) ps)
sheets_known r [] a = tt
sheets_known r (p ∷ ps) a =
    let k = searches_keep r.shop p r.best r.budget (contains_all (IsWord r.shop) p a.0)
    in (
      record {
        found = k.found;
        left =
            all_contains (IsWord r.shop) (sheet_in r p).left k.left;
      },
      sheets_known r ps a.1,
    )

-- the words left by all sheets are words
pub left_words : (shop : Shop) (best : ℕ) (ss : List Walk) → AllByRecursion (IsOfRound shop best) ss
    → AllByRecursion (IsWord shop) (flat_map (λ t. t.left) ss)
left_words shop best [] a = tt
left_words shop best (s ∷ ss) a = grind (arith, all_append, left_words shop best ss a.1)

-- a walk that holds a full word, whose bound is its best and at most c
pub record IsHeld (shop : Shop) (c : ℕ) (b : Walk) : Type 0 where
  pub word : List ℕ
  pub found : b.found ≡ Some word
  pub full : IsFull shop word
  pub best : b.best ≡ lb shop word
  pub below : b.best ≤ c

abbrev pub better_of : Walk → Walk → Walk
better_of b s = cond (ltb s.best b.best) s b

module _ (shop : Shop) (c : ℕ) where
  held_from : (b s : Walk) (o : Option (List ℕ)) → s.found ≡ o → IsBestOf shop c s.best o → s.best < b.best → b.best ≤ c
      → IsHeld shop c s
  held_from b s x e i less below = grind arith

  -- the first of the least best of the walks
  pub record IsLeastHeld (b : Walk) (ss : List Walk) (r : Walk) : Type 0 where
    pub held : IsHeld shop c r
    pub first : r.best ≤ b.best
    pub each : (s : Walk) → In s ss → r.best ≤ s.best

  pub least_held : (b : Walk) (ss : List Walk) → IsHeld shop c b → AllByRecursion (IsOfRound shop c) ss
      → IsLeastHeld b ss (fold better_of b ss)
  least_held b [] held a = record { held = held; first = omega arith; each = λ s h. absurd h }
  least_held b (s ∷ ss) held a = elim (cases_Bool (ltb s.best b.best)) [
    | inl e ↦ (let low = ltb-true s.best b.best e
        in let held_s = held_from b s s.found refl a.0.found low held.below
        in grind (arith, low, held_s, least_held s ss held_s a.1))
    | inr e ↦ grind (arith, ltb-false, least_held b ss held a.1)
  ]

-- the best word of some sheets is full, and its bound is at most each makespan
pub record IsBestWord (shop : Shop) (c : ℕ) (ss : List Walk) (w : List ℕ) : Type 0 where
  pub full : IsFull shop w
  pub below : lb shop w ≤ c
  pub each : (s : Walk) → In s ss → lb shop w ≤ s.best

abbrev pub first_of : ℕ → List ℕ → Walk
first_of c word = record { found = Some word; best = c; left = []; budget = 0 }

held_of : (shop : Shop) (c : ℕ) (word : List ℕ) (ss : List Walk) → c ≡ lb shop word → IsFull shop word
    → AllByRecursion (IsOfRound shop c) ss
    → IsLeastHeld shop c (first_of c word) ss (fold better_of (first_of c word) ss)
held_of shop c word ss e full a = search (rules, least_held)

pub best_is : (shop : Shop) (c : ℕ) (word : List ℕ) (ss : List Walk) → c ≡ lb shop word → IsFull shop word
    → AllByRecursion (IsOfRound shop c) ss → IsBestWord shop c ss (best_word c word ss)
best_is shop c word ss e full a =
    let r = held_of shop c word ss e full a
    in let held = r.held
    in let same : best_word c word ss ≡ held.word = ap (λ o. unwrap_or o word) held.found
    in grind arith

-- the least makespan of some sheets is the bound of their best word
pub least_is_bound : (shop : Shop) (c : ℕ) (word : List ℕ) (ss : List Walk) → c ≡ lb shop word → IsFull shop word
    → AllByRecursion (IsOfRound shop c) ss
    → (fold better_of (first_of c word) ss).best ≡ lb shop (best_word c word ss)
least_is_bound shop c word ss e full a =
    let held = (held_of shop c word ss e full a).held
    in let same : best_word c word ss ≡ held.word = ap (λ o. unwrap_or o word) held.found
    in held.best ∙ ap (lb shop) (sym same)

abbrev hit_of : Walk → Option (Walk × List Walk) → Walk
hit_of s None = s
hit_of s (Some (h, counted)) = h

-- the sheet that hits is one of them, and ends there
module _ (c : ℕ) where
  pub hit_in : (ss : List Walk) (h : Walk) (counted : List Walk) → up_to_hit c ss ≡ Some (h, counted)
      → In h ss × (h.best ≡ c)
  hit_in [] h counted e = absurd (cc)
  hit_in (s ∷ ss) h counted e = elim (cases_Bool (eqb s.best c)) [
    | inl t ↦ grind (arith, eqb-true)
    | inr t ↦ grind (arith, later, hit_in ss)
  ]
    where
      later : (o : Option (Walk × List Walk))
          → ((k : Walk) (more : List Walk) → o ≡ Some (k, more) → In k ss × (k.best ≡ c))
          → hit_or false s o ≡ Some (h, counted) → In h (s ∷ ss) × (h.best ≡ c)
      later None f g = absurd (cc)
      later (Some (k, more)) f g = (let same : k ≡ h = ap (hit_of k) g in let r = f k more refl
          in (inr (subst (λ x. In x ss) same r.0), sym (ap (λ (u : Walk). u.best) same) ∙ r.1))

-- what was found by a sheet that ends at c, or else the best word, is full and has the bound c
pub found_is : (shop : Shop) (word : List ℕ) (start c : ℕ) (o : Option (List ℕ)) (best : ℕ) → start ≡ lb shop word
    → IsFull shop word → IsBestOf shop start best o → best ≡ c
    → IsFull shop (unwrap_or o word) × (lb shop (unwrap_or o word) ≡ c)
found_is shop word start c x best s full i e = grind arith
