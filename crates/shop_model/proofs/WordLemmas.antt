-- Words that grow at their end.
use Rattle.std.proofs.Common.{◌≡◌, ℕ, ◌+◌, ◌≤◌, ◌<◌, ◌⊎◌, inl, inr, List, [], ◌∷◌, ◌++◌, length, refl, sym, ◌∙◌, ap}
use Rattle.std.{proofs.Common.{subst, arith, append_assoc, cond, eqb, add-zero, All, Bool}, specs.List.AllByRecursion}
use Rattle.std.proofs.lemmas.{List.{Elements.{All-from_recursion, recursion_from_All}, Sums.sum_by_push}, Bool.cases_lt}
use Rattle.std.proofs.lemmas.{List.{Sums.sum_by-cons, append-nil, get_or_past}, Bool.Decides.eqb_tells}
use Rattle.shop_model.{proofs.Ends.IsOperation-job, specs.{Word.{count_of, IsWord, IsFull}, Shop.{Shop, ShopJob}}}
use Rattle.shop_model.specs.Shop.{no_job, route_of}

-- a word is built from the empty one, one entry after another
pub snoc_from : (P : List ℕ → Type 0) → ((w : List ℕ) (j : ℕ) → P w → P (w ++ j ∷ [])) → (v w : List ℕ) → P v
    → P (v ++ w)
snoc_from P step v [] p = rw append-nil p
snoc_from P step v (j ∷ w) p = subst P (append_assoc v (j ∷ []) w) (snoc_from P step (v ++ j ∷ []) w (step v j p))

pub snoc_induct : (P : List ℕ → Type 0) → P [] → ((w : List ℕ) (j : ℕ) → P w → P (w ++ j ∷ [])) → (w : List ℕ) → P w
snoc_induct P base step w = snoc_from P step [] w base

-- one more entry
pub count_of-snoc_same : (w : List ℕ) (i j : ℕ) → i ≡ j → count_of i (w ++ j ∷ []) ≡ count_of i w + 1
count_of-snoc_same w i j e = grind (arith, eqb_tells, sum_by_push)

pub count_of-snoc_other : (w : List ℕ) (i j : ℕ) → (i ≡ j → ⊥) → count_of i (w ++ j ∷ []) ≡ count_of i w
count_of-snoc_other w i j ne = grind (arith, eqb_tells, sum_by_push, add-zero)

-- where a word with an entry at its end is cut: at the end, or before
pub cut_snoc : (w v later : List ℕ) (c j : ℕ) → w ++ c ∷ [] ≡ v ++ j ∷ later
    → ((later ≡ []) × (v ≡ w) × (j ≡ c)) ⊎ ((rest : List ℕ) × (later ≡ rest ++ c ∷ []) × (w ≡ v ++ j ∷ rest))
cut_snoc [] [] later c j e = inl (cc, refl, cc)
cut_snoc [] (x ∷ []) later c j e = absurd (cc)
cut_snoc [] (x ∷ y ∷ v) later c j e = absurd (cc)
cut_snoc (y ∷ w) [] later c j e = inr (w, cc, cc)
cut_snoc (y ∷ w) (x ∷ v) later c j e = grind (arith, cut_snoc w v later c j)

-- the front of a word is one
pub IsWord-init : (shop : Shop) (w : List ℕ) (j : ℕ) → IsWord shop (w ++ j ∷ []) → IsWord shop w
IsWord-init shop w j h i = elim (eqb_tells i j) [
  | inl e ↦ omega (arith, h i, count_of-snoc_same w i j e.1)
  | inr ne ↦ omega (arith, h i, count_of-snoc_other w i j ne.1)
]

-- a word with one more entry of a job that has a step left
pub IsWord-snoc : (shop : Shop) (w : List ℕ) (j : ℕ) → IsWord shop w → count_of j w < length (route_of shop j)
    → IsWord shop (w ++ j ∷ [])
IsWord-snoc shop w j word left i = elim (eqb_tells i j) [
  | inl same ↦ subst (λ x. count_of x (w ++ j ∷ []) ≤ length (route_of shop x)) (sym same.1)
      (omega (arith, left, count_of-snoc_same w j j refl))
  | inr other ↦ omega (arith, word i, count_of-snoc_other w i j other.1)
]

-- an entry before the others counts no less
pub count_of-cons : (i x : ℕ) (w : List ℕ) → count_of i w ≤ count_of i (x ∷ w)
count_of-cons i x w = let e = sum_by-cons (λ y. cond (eqb y i) 1 0) x w in omega arith

pub count_of-head : (x : ℕ) (w : List ℕ) → count_of x (x ∷ w) ≡ count_of x w + 1
count_of-head x w = elim (eqb_tells x x) [
  | inl h ↦ (let e : count_of x (x ∷ w) ≡ 1 + count_of x w
      = subst (λ (b : Bool). count_of x (x ∷ w) ≡ cond {A = ℕ} b 1 0 + count_of x w) h.0
      (sum_by-cons (λ y. cond (eqb y x) 1 0) x w)
      in omega arith)
  | inr h ↦ absurd (h.1 refl)
]

pub count_of-head_other : (i x : ℕ) (w : List ℕ) → (x ≡ i → ⊥) → count_of i (x ∷ w) ≡ count_of i w
count_of-head_other i x w ne = grind (arith, eqb_tells, sum_by-cons)

-- each entry of a word is a job
pub jobs_below : (shop : Shop) (w : List ℕ) → IsWord shop w → AllByRecursion (λ j. j < length shop.jobs) w
jobs_below shop [] h = tt
jobs_below shop (x ∷ w) h = (
  IsOperation-job shop x (count_of x w) (let a = h x in let b = count_of-head x w in omega arith),
  jobs_below shop w (λ i. let a = h i in let b = count_of-cons i x w in omega arith),
)

pub word_jobs : (shop : Shop) (w : List ℕ) → IsWord shop w → All (λ j. j < length shop.jobs) w
word_jobs shop w h = All-from_recursion (λ j. j < length shop.jobs) w (jobs_below shop w h)

-- and what is above all entries doesn't stand in the word
count_of_above : (w : List ℕ) (n i : ℕ) → AllByRecursion (λ j. j < n) w → n ≤ i → count_of i w ≡ 0
count_of_above [] n i h le = refl
count_of_above (x ∷ w) n i h le = grind (arith, count_of_above w n i h.1 le, count_of-head_other)

pub word_from : (shop : Shop) (w : List ℕ) → All (λ j. j < length shop.jobs) w
    → ((i : ℕ) → i < length shop.jobs → count_of i w ≤ length (route_of shop i)) → IsWord shop w
word_from shop w below few i = elim (cases_lt i (length shop.jobs)) [
  | inl h ↦ few i h
  | inr h ↦ (let a = count_of_above w (length shop.jobs) i (recursion_from_All (λ j. j < length shop.jobs) w below) h
      in omega arith)
]

pub full_from : (shop : Shop) (w : List ℕ) → All (λ j. j < length shop.jobs) w
    → ((i : ℕ) → i < length shop.jobs → count_of i w ≡ length (route_of shop i)) → IsFull shop w
full_from shop w below each i = elim (cases_lt i (length shop.jobs)) [
  | inl h ↦ each i h
  | inr h ↦ count_of_above w (length shop.jobs) i (recursion_from_All (λ j. j < length shop.jobs) w below) h
      ∙ sym (ap (λ (x : ShopJob). length x.route) (get_or_past shop.jobs i no_job h))
]

pub full_is_word : (shop : Shop) (w : List ℕ) → IsFull shop w → IsWord shop w
full_is_word shop w full j = let a = full j in omega arith
