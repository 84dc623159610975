-- Steps through the jobs with steps left: the choice so far, and the conflict set so far.
use Rattle.std.proofs.Common.{◌≡◌, ℕ, zero, suc, ◌+◌, ◌≤◌, ◌<◌, Bool, true, false, cond, ◌&&◌, ◌||◌, Some, None, List}
use Rattle.std.proofs.Common.{[], ◌∷◌, ◌++◌, length, refl, sym, ◌∙◌, ap, subst, arith, eqb, ltb, append-nil}
use Rattle.std.proofs.lemmas.{Bool.{le-ltb, lt-ltb}, List.{Elements.filter-append, Sums.fold-append}}
use Rattle.std.specs.List.{filter, range_with_len}
use Rattle.shop_model.specs.{Shop.{Shop, route_of}, Word.Placing}
use Rattle.shop_nodes.specs.{declared.conflicts.NextOperation.NextOperation, Branching.{next_end, chosen_of}}
use Rattle.shop_nodes.specs.{Branching.conflicts_with, inner.Choosing.{IsNext, IsChoice}}

-- the jobs below n with steps left, in order
abbrev pub open_below : Shop → Placing → ℕ → List ℕ
open_below shop p n = filter (λ j. ltb (p.steps j) (length (route_of shop j))) (range_with_len 0 n)

range-last : (a n : ℕ) → range_with_len a (suc n) ≡ range_with_len a n ++ (a + n) ∷ []
range-last a zero = let e : a + 0 ≡ a = omega arith in rw e refl
range-last a (suc n) = grind (arith, range-last (a + 1) n)

open-last : (shop : Shop) (p : Placing) (n : ℕ)
    → open_below shop p (n + 1) ≡ open_below shop p n ++ filter (λ j. ltb (p.steps j) (length (route_of shop j)))
    (n ∷ [])
open-last shop p n =
    let test = λ (j : ℕ). ltb (p.steps j) (length (route_of shop j))
    in let e : n + 1 ≡ suc n = omega arith
    in ap (λ k. filter test (range_with_len 0 k)) e
    ∙ (ap (filter test) (range-last 0 n)
    ∙ (filter-append test (range_with_len 0 n) ((0 + n) ∷ []) ∙ ap (λ k. open_below shop p n ++ filter test (k ∷ []))
    (let z : 0 + n ≡ n = omega arith in z)))

-- a job with no step left, and one with a step left
pub open-skip : (shop : Shop) (p : Placing) (n : ℕ) → length (route_of shop n) ≤ p.steps n → open_below shop p (n + 1)
    ≡ open_below shop p n
open-skip shop p n h = grind (arith, open-last, le-ltb, append-nil)

pub open-more : (shop : Shop) (p : Placing) (n : ℕ) → p.steps n < length (route_of shop n) → open_below shop p (n + 1)
    ≡ open_below shop p n ++ n ∷ []
open-more shop p n h = grind (arith, open-last, lt-ltb)

chosen-last : (shop : Shop) (p : Placing) (x : ℕ) (js : List ℕ) (j : ℕ) (b : Bool)
    → ltb (next_end shop p j) (next_end shop p (chosen_of shop p x js)) ≡ b
    → chosen_of shop p x (js ++ j ∷ []) ≡ cond b j (chosen_of shop p x js)
chosen-last shop p x js j b e = grind (arith, fold-append)

-- The choice after one more job: the first one, one that ends sooner, or one that does not.
pub choice-first : (shop : Shop) (p : Placing) (js : List ℕ) (j : ℕ) (n : NextOperation) → IsChoice shop p js None
    → IsNext shop p j n
    → IsChoice shop p (js ++ j ∷ []) (Some n)
choice-first shop p [] j n c h = h
choice-first shop p (x ∷ js) j n c h = absurd c

pub choice-sooner : (shop : Shop) (p : Placing) (js : List ℕ) (j : ℕ) (best n : NextOperation)
    → IsChoice shop p js (Some best) → IsNext shop p j n
    → n.end < best.end → IsChoice shop p (js ++ j ∷ []) (Some n)
choice-sooner shop p [] j best n c h lt = absurd c
choice-sooner shop p (x ∷ js) j best n c h lt =
    let a = c.end in let b = h.end
    in subst (λ i. IsNext shop p i n) (sym (chosen-last shop p x js j true (lt-ltb _ _ (omega arith)))) h

pub choice-kept : (shop : Shop) (p : Placing) (js : List ℕ) (j : ℕ) (best n : NextOperation)
    → IsChoice shop p js (Some best) → IsNext shop p j n
    → best.end ≤ n.end → IsChoice shop p (js ++ j ∷ []) (Some best)
choice-kept shop p [] j best n c h le = absurd c
choice-kept shop p (x ∷ js) j best n c h le =
    let a = c.end in let b = h.end
    in subst (λ i. IsNext shop p i best) (sym (chosen-last shop p x js j false (le-ltb _ _ (omega arith)))) c

-- whether an operation conflicts, from what is known of both
pub conflicts-is : (shop : Shop) (p : Placing) (c j : ℕ) (chosen n : NextOperation) → IsNext shop p c chosen
    → IsNext shop p j n
    → (eqb n.job chosen.job || (eqb n.machine chosen.machine && ltb n.head chosen.end)) ≡ conflicts_with shop p c j
conflicts-is shop p c j chosen n a b = rw (a.job, a.machine, a.end, b.job, b.machine, b.head) refl

-- the conflict set after one more job
pub conflict-step : (shop : Shop) (p : Placing) (c n : ℕ) (b : Bool) → p.steps n < length (route_of shop n)
    → conflicts_with shop p c n ≡ b
    → filter (conflicts_with shop p c) (open_below shop p (n + 1)) ≡ filter (conflicts_with shop p c)
    (open_below shop p n) ++ cond b (n ∷ []) []
conflict-step shop p c n b h e = grind (arith, open-more, filter-append)
