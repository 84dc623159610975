-- The greatest span over the thresholds that occur is the greatest over all sublists.
use Rattle.std.proofs.Common.{◌≡◌, ℕ, zero, suc, ◌+◌, ◌≤◌, ◌<◌, max, Bool, true, List, [], ◌∷◌, ◌++◌, length, get_or}
use Rattle.std.proofs.Common.{take, map, fold, unwrap_or, refl, sym, ◌∙◌, ap, subst, arith}
use Rattle.std.proofs.lemmas.Bool.{Decides.eqb_tells, cases_Bool, leb-true, le-leb, and_from, and_parts}
use Rattle.std.{proofs.lemmas.List.{take_more, Sums.sum_by-cons}, specs.List.{AllByRecursion, filter, reduce, sum_by}}
use Rattle.shop_bound.specs.declared.triples.Triple.{Triple}
use Rattle.shop_bound.specs.OneMachine.{sublists, greatest_of, least_of, span_of, one, extent}
use Rattle.shop_bound.specs.inner.Thresholds.{is_above, span_above, head_at, tail_at, no_triple, greatest_span_of}
use Rattle.shop_bound.proofs.Lists.{IsSublist, none, skip, keep, all_append, all_map, all_both, greatest_of-le}
use Rattle.shop_bound.proofs.Lists.{least_of-le, least_of-is, get_or-le-greatest_of, greatest_of-up_to}

module _ {A : Type 0} where
  pub greatest_of-append : (f : A → ℕ) (xs ys : List A)
      → greatest_of f (xs ++ ys) ≡ max (greatest_of f xs) (greatest_of f ys)
  greatest_of-append f [] ys = omega arith
  greatest_of-append f (x ∷ xs) ys = let a = greatest_of-append f xs ys in omega arith

  -- one element more
  pub greatest_of-more : (f : A → ℕ) (xs : List A) (n : ℕ) (d : A) → n < length xs
      → greatest_of f (take (n + 1) xs) ≡ max (greatest_of f (take n xs)) (f (get_or xs n d))
  greatest_of-more f xs n d here =
      grind (arith, take_more xs n d here, greatest_of-append f (take n xs) (get_or xs n d ∷ []))

  keep_all : (x : A) (xs : List A) (Xs : List (List A)) → AllByRecursion (λ ys. IsSublist ys xs) Xs
      → AllByRecursion (λ ys. IsSublist ys (x ∷ xs)) (map (λ ys. x ∷ ys) Xs)
  keep_all x xs [] h = tt
  keep_all x xs (X ∷ Xs) h = (keep x h.0, keep_all x xs Xs h.1)

  pub sublists-are : (xs : List A) → AllByRecursion (λ ys. IsSublist ys xs) (sublists xs)
  sublists-are [] = (none, tt)
  sublists-are (x ∷ xs) = grind (arith, all_append, all_map, skip, keep_all, sublists-are xs)

  pub sublist_filter : (test : A → Bool) (xs : List A) → IsSublist (filter test xs) xs
  sublist_filter test [] = none
  sublist_filter test (x ∷ xs) = grind (arith, cases_Bool, keep, skip, sublist_filter test xs)

  -- what passes of a sublist is a sublist of what passes
  pub sublist_of_filter : (test : A → Bool) {ys xs : List A} → IsSublist ys xs → AllByRecursion (λ y. test y ≡ true) ys
      → IsSublist ys (filter test xs)
  sublist_of_filter test none h = none
  sublist_of_filter test (skip x s) h = grind (arith, cases_Bool, skip, sublist_of_filter test s h)
  sublist_of_filter test (keep x s) h = rw h.0 (keep x (sublist_of_filter test s h.1))

  pub sublist_sum : (f : A → ℕ) {ys xs : List A} → IsSublist ys xs → sum_by f ys ≤ sum_by f xs
  sublist_sum f none = omega arith
  sublist_sum f (skip {ys = us} {xs = vs} x s) = let a = sublist_sum f s in let b = sum_by-cons f x vs in omega arith
  sublist_sum f (keep {ys = us} {xs = vs} x s) = grind (arith, sum_by-cons, sublist_sum f s)

  pub sublist_length : {ys xs : List A} → IsSublist ys xs → length ys ≤ length xs
  sublist_length none = omega arith
  sublist_length (skip x s) = let a = sublist_length s in omega arith
  sublist_length (keep x s) = let a = sublist_length s in omega arith

  all_pass : (test : A → Bool) (xs : List A) → AllByRecursion (λ x. test x ≡ true) (filter test xs)
  all_pass test [] = tt
  all_pass test (x ∷ xs) = grind (arith, cases_Bool, all_pass test xs)

  pub sublist_at : {ys xs : List A} → IsSublist ys xs → (i : ℕ) → i < length ys
      → (k : ℕ) × (k < length xs) × ((d : A) → get_or xs k d ≡ get_or ys i d)
  sublist_at none i h = absurd (omega arith)
  sublist_at (skip x s) i h = let r = sublist_at s i h in (suc r.0, (let a = r.1 in omega arith), r.2)
  sublist_at (keep x s) zero h = (0, omega arith, λ d. refl)
  sublist_at (keep x s) (suc i) h = let r = sublist_at s i (omega arith) in (suc r.0, (let a = r.1 in omega arith), r.2)

  pub le-least_of : (f : A → ℕ) (b : ℕ) (x : A) (xs : List A) → AllByRecursion (λ y. b ≤ f y) (x ∷ xs)
      → b ≤ least_of f (x ∷ xs)
  le-least_of f b x [] h = h.0
  le-least_of f b x (y ∷ ys) h = let a = le-least_of f b y ys h.1 in let c = h.0 in omega arith

-- as an iterator finds the greatest
pub greatest_of-fold : {A : Type 0} (f : A → ℕ) (xs : List A) (a : ℕ)
    → fold (λ b x. max b (f x)) a xs ≡ max a (greatest_of f xs)
greatest_of-fold f [] a = omega arith
greatest_of-fold f (x ∷ xs) a = greatest_of-fold f xs (max a (f x)) ∙ omega arith

pub greatest_of-reduce : (xs : List ℕ) → unwrap_or (reduce max xs) 0 ≡ greatest_of (λ n. n) xs
greatest_of-reduce [] = refl
greatest_of-reduce (x ∷ xs) = greatest_of-fold (λ n. n) xs x

pub greatest_of-map : {A B : Type 0} (g : A → B) (f : B → ℕ) (xs : List A)
    → greatest_of f (map g xs) ≡ greatest_of (λ x. f (g x)) xs
greatest_of-map g f [] = refl
greatest_of-map g f (x ∷ xs) = ap (max (f (g x))) (greatest_of-map g f xs)

-- the value at a sublist is at most the greatest
pub le-greatest_sublist : {A : Type 0} (f : List A → ℕ) {ys xs : List A} → IsSublist ys xs
    → f ys ≤ greatest_of f (sublists xs)
le-greatest_sublist f none = omega arith
le-greatest_sublist f (skip {ys = us} {xs = vs} x s) = grind (arith, greatest_of-append, le-greatest_sublist f s)
le-greatest_sublist f (keep {ys = us} {xs = vs} x s) =
    let a = le-greatest_sublist (λ zs. f (x ∷ zs)) s
    in let b = greatest_of-append f (sublists vs) (map (λ zs. x ∷ zs) (sublists vs))
    in let c = greatest_of-map (λ zs. x ∷ zs) f (sublists vs) in omega arith

-- where something is above the thresholds
pub span_above-some : (ts : List Triple) (head tail : ℕ) → 0 < length (filter (is_above head tail) ts)
    → span_above ts head tail ≡ head + sum_by (λ t. t.time) (filter (is_above head tail) ts) + tail
span_above-some ts head tail h = grind (arith, eqb_tells)

pub is_above-from : (head tail : ℕ) (t : Triple) → head ≤ t.head → tail ≤ t.tail → is_above head tail t ≡ true
is_above-from head tail t h k = grind (arith, and_from, le-leb)

pub is_above-true : (head tail : ℕ) (t : Triple) → is_above head tail t ≡ true → (head ≤ t.head) × (tail ≤ t.tail)
is_above-true head tail t e = grind (arith, and_parts, leb-true)

-- each span above thresholds is at most the bound
pub span_above-le : (ts : List Triple) (head tail : ℕ) → span_above ts head tail ≤ one ts
span_above-le ts head tail = of_list (filter (is_above head tail) ts) refl where
  of_list : (xs : List Triple) → filter (is_above head tail) ts ≡ xs → span_above ts head tail ≤ one ts
  of_list [] e = let z : span_above ts head tail ≡ 0 = rw e refl in omega arith
  of_list (x ∷ xs) e =
      let above : AllByRecursion (λ t. (head ≤ t.head) × (tail ≤ t.tail)) (x ∷ xs) =
      subst (λ (ys : List Triple). AllByRecursion (λ t. (head ≤ t.head) × (tail ≤ t.tail)) ys) e
      (all_map (λ t. is_above head tail t ≡ true) (λ t. (head ≤ t.head) × (tail ≤ t.tail))
      (λ t p. is_above-true head tail t p) (filter (is_above head tail) ts) (all_pass (is_above head tail) ts))
      in let sub : IsSublist (x ∷ xs) ts =
      subst (λ (ys : List Triple). IsSublist ys ts) e (sublist_filter (is_above head tail) ts)
      in let a = le-least_of (λ (t : Triple). t.head) head x xs (all_map (λ t. (head ≤ t.head) × (tail ≤ t.tail))
      (λ t. head ≤ t.head) (λ t h. h.0) (x ∷ xs) above)
      in let b = le-least_of (λ (t : Triple). t.tail) tail x xs (all_map (λ t. (head ≤ t.head) × (tail ≤ t.tail))
      (λ t. tail ≤ t.tail) (λ t h. h.1) (x ∷ xs) above)
      in let c = le-greatest_sublist span_of sub
      in let d = span_above-some ts head tail (subst (λ (ys : List Triple). 0 < length ys) (sym e) (omega arith))
      in let f : sum_by (λ (t : Triple). t.time) (filter (is_above head tail) ts)
      ≡ sum_by (λ (t : Triple). t.time) (x ∷ xs) = ap (λ (ys : List Triple). sum_by (λ t. t.time) ys) e
      in omega arith

-- each span of a sublist is at most one above thresholds
span_of-le : (ts ys : List Triple) → IsSublist ys ts
    → span_of ys ≤ greatest_span_of ts
span_of-le ts [] s = omega arith
span_of-le ts (y ∷ ys) s =
    let h = least_of-is (λ (t : Triple). t.head) y ys
    in let t = least_of-is (λ (t : Triple). t.tail) y ys
    in let i = sublist_at s h.0 h.1
    in let k = sublist_at s t.0 t.1
    in let head : head_at ts i.0 ≡ least_of (λ (t : Triple). t.head) (y ∷ ys) =
    ap (λ (t : Triple). t.head) (i.2 no_triple) ∙ h.2 no_triple
    in let tail : tail_at ts k.0 ≡ least_of (λ (t : Triple). t.tail) (y ∷ ys) =
    ap (λ (t : Triple). t.tail) (k.2 no_triple) ∙ t.2 no_triple
    in let passes : AllByRecursion (λ t. is_above (head_at ts i.0) (tail_at ts k.0) t ≡ true) (y ∷ ys) =
    all_map (λ u. (least_of (λ (t : Triple). t.head) (y ∷ ys) ≤ u.head)
    × (least_of (λ (t : Triple). t.tail) (y ∷ ys) ≤ u.tail))
    (λ t. is_above (head_at ts i.0) (tail_at ts k.0) t ≡ true)
    (λ u p. is_above-from (head_at ts i.0) (tail_at ts k.0) u (rw head p.0) (rw tail p.1)) (y ∷ ys)
    (all_both (λ u. least_of (λ (t : Triple). t.head) (y ∷ ys) ≤ u.head)
    (λ u. least_of (λ (t : Triple). t.tail) (y ∷ ys) ≤ u.tail) (y ∷ ys)
    (least_of-le (λ (t : Triple). t.head) (y ∷ ys)) (least_of-le (λ (t : Triple). t.tail) (y ∷ ys)))
    in let sub = sublist_of_filter (is_above (head_at ts i.0) (tail_at ts k.0)) s passes
    in let sum = sublist_sum (λ (t : Triple). t.time) sub
    in let most = get_or-le-greatest_of (λ (t : Triple). span_above ts (head_at ts i.0) t.tail) ts k.0 no_triple k.1
    in let most' = get_or-le-greatest_of (λ (s : Triple). greatest_of (λ t. span_above ts s.head t.tail) ts) ts i.0
    no_triple i.1
    in let longer = sublist_length sub
    in let above = span_above-some ts (head_at ts i.0) (tail_at ts k.0) (omega arith)
    in omega arith

-- what all spans above thresholds that occur are at most, their greatest is at most
spans-le : (ts : List Triple) (b : ℕ)
    → ((i k : ℕ) → i < length ts → k < length ts → span_above ts (head_at ts i) (tail_at ts k) ≤ b)
    → greatest_span_of ts ≤ b
spans-le ts b h =
    greatest_of-up_to (λ (s : Triple). greatest_of (λ t. span_above ts s.head t.tail) ts) b no_triple ts
    (λ i l. greatest_of-up_to (λ (t : Triple). span_above ts (head_at ts i) t.tail) b no_triple ts (λ k m. h i k l m))

pub thresholds : (ts : List Triple) → greatest_span_of ts ≡ one ts
thresholds ts = grind (arith, spans-le, span_above-le, greatest_of-le, all_map, span_of-le, sublists-are)

-- and so is the one-machine bound
pub one-le : (ts : List Triple) (b : ℕ)
    → ((i k : ℕ) → i < length ts → k < length ts → span_above ts (head_at ts i) (tail_at ts k) ≤ b) → one ts ≤ b
one-le ts b h = let a = spans-le ts b h in let e = thresholds ts in omega arith

-- no span exceeds the extent
pub sublist_greatest : {A : Type 0} (f : A → ℕ) {ys xs : List A} → IsSublist ys xs → greatest_of f ys ≤ greatest_of f xs
sublist_greatest f none = omega arith
sublist_greatest f (skip x s) = let a = sublist_greatest f s in omega arith
sublist_greatest f (keep x s) = let a = sublist_greatest f s in omega arith

pub least-le-greatest : {A : Type 0} (f : A → ℕ) (xs : List A) → least_of f xs ≤ greatest_of f xs
least-le-greatest f [] = omega arith
least-le-greatest f (x ∷ []) = omega arith
least-le-greatest f (x ∷ y ∷ ys) = let a = least-le-greatest f (y ∷ ys) in omega arith

pub one-le-extent : (ts : List Triple) → one ts ≤ extent ts
one-le-extent ts =
    grind (arith, greatest_of-le, all_map, least-le-greatest, sublist_greatest, sublist_sum, sublists-are)
