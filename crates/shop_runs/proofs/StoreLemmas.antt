-- Open nodes in the order of the next cut, through what is put, taken and let go.
use Rattle.std.proofs.Common.{◌≡◌, ℕ, suc, min, Bool, true, false, List, [], ◌∷◌, ◌++◌, length, append-nil, ltb}
use Rattle.std.proofs.{Common.{reverse, refl, sym, ◌∙◌, ap, arith, eqb, filter, inl, inr, cond}, lemmas.Bool.cases_Bool}
use Rattle.std.proofs.lemmas.{Bool.{cases_lt, ne_eqb, lt-ltb, le-ltb}, List.{Elements.filter-append, reverse-append}}
use Rattle.std.specs.Prelude.{IsTrue, ◌↔◌}
use Rattle.shop_nodes.specs.{declared.nodes.Node.Node, inner.HeldNodes.nodes_below}
use Rattle.shop_runs.specs.{declared.{stacks.Stack.Stack, plans.Order.Order}, inner.NodeLists.least_of_bounds}
use Rattle.shop_runs.specs.inner.Stacks.{nodes_by_bound, put_before, put_all_before}

pub reverse-cons : {A : Type 0} (x : A) (xs : List A) → reverse (x ∷ xs) ≡ reverse xs ++ x ∷ []
reverse-cons x xs = reverse-append (x ∷ []) xs

-- none is open just where there is no stack
pub empty_is : (b : Bool) (es : List (ℕ × Stack)) → (IsTrue b ↔ (length es ≡ 0))
    → b ≡ eqb (length (nodes_by_bound es)) 0
empty_is true [] h = refl
empty_is false [] h = h.1 refl
empty_is true (e ∷ es) h = absurd (let x : suc (length es) ≡ 0 = h.0 refl in omega arith)
empty_is false (e ∷ es) h = sym (ne_eqb (length (nodes_by_bound (e ∷ es))) 0 (λ z. absurd (omega arith)))

-- the least bound, with one more
pub least_min : (c b : ℕ) (ns : List Node) → least_of_bounds (min c b) ns ≡ min (least_of_bounds c ns) b
least_min c b [] = refl
least_min c b (n ∷ ns) = grind (arith, least_min (min c n.bound) b ns)

-- what is kept, in reverse
pub filter-reverse : {A : Type 0} (p : A → Bool) (xs : List A) → reverse (filter p xs) ≡ filter p (reverse xs)
filter-reverse p [] = refl
filter-reverse p (x ∷ xs) =
    let right : filter p (reverse (x ∷ xs)) ≡ filter p (reverse xs) ++ cond (p x) (x ∷ []) [] =
    ap (filter p) (reverse-cons x xs) ∙ filter-append p (reverse xs) (x ∷ [])
    in elim (cases_Bool (p x)) [
      | inl t ↦ rw t (reverse-cons x (filter p xs) ∙ (ap (λ ys. ys ++ x ∷ []) (filter-reverse p xs)
          ∙ sym (right ∙ ap (λ b. filter p (reverse xs) ++ cond b (x ∷ []) []) t)))
      | inr f ↦ rw f (filter-reverse p xs ∙ sym (right ∙ (ap (λ b. filter p (reverse xs) ++ cond b (x ∷ []) []) f
          ∙ append-nil (filter p (reverse xs)))))
    ]

pub below_reverse : (c : ℕ) (ns : List Node) → reverse (nodes_below c ns) ≡ nodes_below c (reverse ns)
below_reverse c ns = filter-reverse (λ n. ltb n.bound c) ns

-- of two lists the second is put first
pub put_append : (o : Order) (ms ns nodes : List Node)
    → put_all_before o (ms ++ ns) nodes ≡ put_all_before o ms (put_all_before o ns nodes)
put_append o [] ns nodes = refl
put_append o (m ∷ ms) ns nodes = ap (put_before o m) (put_append o ms ns nodes)

-- what is below two makespans is below the less
pub below_both : (c d : ℕ) (ns : List Node) → nodes_below c (nodes_below d ns) ≡ nodes_below (min c d) ns
below_both c d [] = refl
below_both c d (n ∷ ns) = grind (arith, cases_lt, lt-ltb, le-ltb, below_both c d ns)
