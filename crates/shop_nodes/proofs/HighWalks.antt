-- Walks of words whose bounds reach the best, and walks that have no budget.
use Rattle.std.proofs.Common.{◌≡◌, ℕ, zero, suc, ◌-◌, ◌≤◌, ◌⊎◌, inl, inr, List, [], ◌∷◌, ◌++◌, length, drop, refl, sym}
use Rattle.std.proofs.{Common.{◌∙◌, ap, arith, append_assoc, append-nil}, lemmas.Bool.{cases_Bool, le-ltb, lt-ltb}}
use Rattle.std.{proofs.lemmas.Bool.ltb-true, specs.List.{AllByRecursion, fold}}
use Rattle.shop_model.specs.Shop.{Shop}
use Rattle.shop_bound.specs.Bound.{lb}
use Rattle.shop_nodes.{specs.{Pieces.words_below, Walking.{Walk, walk}}, proofs.WalkSteps.{walk-cut, walk-left}}

-- words below a bound, of those below a greater one
pub below-below : (shop : Shop) (c d : ℕ) (ws : List (List ℕ)) → d ≤ c
    → words_below shop d (words_below shop c ws) ≡ words_below shop d ws
below-below shop c d [] le = refl
below-below shop c d (w ∷ ws) le = grind (arith, cases_Bool, lt-ltb, ltb-true, below-below shop c d ws le)

-- none of these words is below
pub none_below : (shop : Shop) (c : ℕ) (ws : List (List ℕ)) → AllByRecursion (λ w. c ≤ lb shop w) ws
    → words_below shop c ws ≡ []
none_below shop c [] high = refl
none_below shop c (w ∷ ws) high = rw (le-ltb (lb shop w) c high.0) (none_below shop c ws high.1)

-- where the bound of a word reaches the best, the word is only counted
high-one : (shop : Shop) (s : Walk) (w : List ℕ) (b : ℕ) → s.budget ≡ suc b → s.best ≤ lb shop w
    → walk shop s w ≡ record s { budget = s.budget - 1 }
high-one shop s w b e high = grind (arith, walk-cut)

-- so many of them are counted, and the walk goes on to the others
pub high-taken : (shop : Shop) (s : Walk) (n : ℕ) (ws : List (List ℕ)) → n ≤ s.budget
    → AllByRecursion (λ w. s.best ≤ lb shop w) ws → n ≤ length ws
    → fold (walk shop) s ws ≡ fold (walk shop) (record s { budget = s.budget - n }) (drop n ws)
high-taken shop s zero ws some high few = grind arith
high-taken shop s (suc n) [] some high few = absurd (omega arith)
high-taken shop s (suc n) (w ∷ ws) some high few =
    let one : Walk = record s { budget = s.budget - 1 }
    in ap (λ t. fold (walk shop) t ws) (high-one shop s w (s.budget - 1) (omega arith) high.0)
    ∙ (high-taken shop one n ws (omega arith) high.1 (omega arith)
    ∙ ap (λ b. fold (walk shop) (record s { budget = b }) (drop n ws))
    (let e : s.budget - 1 - n ≡ s.budget - suc n = omega arith in e))

-- with no budget all words are left
pub all-left : (shop : Shop) (s : Walk) (ws : List (List ℕ)) → s.budget ≡ 0
    → fold (walk shop) s ws ≡ record s { left = s.left ++ ws }
all-left shop s [] none = ap (λ l. record s { left = l }) (sym (append-nil s.left))
all-left shop s (w ∷ ws) none =
    ap (λ t. fold (walk shop) t ws) (walk-left shop s.found s.best s.left w s.budget none)
    ∙ (all-left shop (record s { left = s.left ++ w ∷ [] }) ws none
    ∙ ap (λ l. record s { left = l }) (append_assoc s.left (w ∷ []) ws))

pub none-walked : (shop : Shop) (s : Walk) (ws : List (List ℕ)) → (s.budget ≡ 0) ⊎ (ws ≡ [])
    → fold (walk shop) s ws ≡ record s { left = s.left ++ ws }
none-walked shop s ws (inl none) = all-left shop s ws none
none-walked shop s ws (inr empty) = grind (arith, append-nil)
