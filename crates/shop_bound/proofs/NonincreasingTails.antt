-- One-machine bounds of operations by nonincreasing tails.
use Rattle.std.proofs.Common.{◌≡◌, ℕ, ◌+◌, ◌^◌, ◌≤◌, ◌<◌, Bool, true, List, [], ◌∷◌, ◌++◌, length, length-append, refl}
use Rattle.std.proofs.{Common.{sym, ◌∙◌, ap, subst, arith, leb}, lemmas.Bool.{cases_Bool, leb-true, le-leb, and_parts}}
use Rattle.std.proofs.lemmas.List.{append-nil, Elements.filter-append, Sums.{sum_by-cons, sum_by_push, sum_by-append}}
use Rattle.std.specs.List.{AllByRecursion, filter, sum_by}
use Rattle.shop_bound.specs.{declared.triples.Triple.Triple, OneMachine.{sublists, least_of, span_of, one}}
use Rattle.shop_bound.specs.inner.Thresholds.{is_above, span_above, head_at, no_triple}
use Rattle.shop_bound.specs.inner.NonincreasingTails.{IsNonincreasing, begins_between, one_between}
use Rattle.shop_bound.proofs.Lists.{IsSublist, all_map, all_both, all_filter, greatest_of-le, least_of-is, least_of-le}
use Rattle.shop_bound.proofs.ThresholdLemmas.{sublists-are, sublist_of_filter, sublist_length, sublist_at, sublist_sum}
use Rattle.shop_bound.proofs.ThresholdLemmas.{span_above-some, span_above-le, is_above-from}

-- the head is at least this
abbrev pub begins_from : ℕ → Triple → Bool
begins_from head t = leb head t.head

-- the times of those
unfoldable pub times_from : ℕ → List Triple → ℕ
times_from head ts = sum_by (λ t. t.time) (filter (begins_from head) ts)

-- one more operation that begins from the threshold on
pub times_from-more : (head : ℕ) (us : List Triple) (x : Triple) → head ≤ x.head
    → times_from head (us ++ x ∷ []) ≡ times_from head us + x.time
unfolding times_from
times_from-more head us x h = grind (arith, filter-append, le-leb, sum_by_push)

pub times_from-less : (head : ℕ) (us : List Triple) (x : Triple) → x.head < head
    → times_from head (us ++ x ∷ []) ≡ times_from head us
unfolding times_from
times_from-less head us x h = grind (arith, leb-true, filter-append, append-nil)

module _ {A : Type 0} (f : A → ℕ) where
  -- in a nonincreasing list all before an element have at least its value
  pub falls_before : (us : List A) (x : A) (vs : List A) → IsNonincreasing f (us ++ x ∷ vs)
      → AllByRecursion (λ y. f x ≤ f y) us
  falls_before [] x vs h = tt
  falls_before (u ∷ us) x vs h = (all_middle us x vs h.0, falls_before us x vs h.1)
    where
      all_middle : (us : List A) (x : A) (vs : List A) → AllByRecursion (λ y. f y ≤ f u) (us ++ x ∷ vs) → f x ≤ f u
      all_middle [] x vs h = h.0
      all_middle (w ∷ us) x vs h = all_middle us x vs h.1

-- where all tails are at least this, only the heads matter
only_heads : (head tail : ℕ) (us : List Triple) → AllByRecursion (λ y. tail ≤ y.tail) us
    → sum_by (λ t. t.time) (filter (is_above head tail) us) ≡ times_from head us
unfolding times_from
only_heads head tail us h = ap (λ (ys : List Triple). sum_by (λ t. t.time) ys) (same us h) where
  same : (us : List Triple) → AllByRecursion (λ y. tail ≤ y.tail) us
      → filter (is_above head tail) us ≡ filter (begins_from head) us
  same [] h = refl
  same (u ∷ us) h = grind (arith, cases_Bool, le-leb, same us h.1)

-- what is done up to an operation, and its tail, follow no earlier than the bound says
pub within_in : (us : List Triple) (x : Triple) (vs : List Triple) (head : ℕ)
    → IsNonincreasing (λ t. t.tail) (us ++ x ∷ vs)
    → head ≤ x.head → head + (times_from head us + x.time + x.tail) ≤ one (us ++ x ∷ vs)
within_in us x vs head nonincreasing h =
    let test = is_above head x.tail
    in let here : test x ≡ true = is_above-from head x.tail x h (omega arith)
    in let f : filter test (us ++ x ∷ vs) ≡ filter test us ++ x ∷ filter test vs =
    filter-append test us (x ∷ vs) ∙ rw here refl
    in let some = span_above-some (us ++ x ∷ vs) head x.tail (subst (λ (ys : List Triple). 0 < length ys) (sym f)
    (omega (arith, length-append (filter test us) (x ∷ filter test vs))))
    in let le = span_above-le (us ++ x ∷ vs) head x.tail
    in let s : sum_by (λ (t : Triple). t.time) (filter test (us ++ x ∷ vs))
    ≡ sum_by (λ (t : Triple). t.time) (filter test us) + sum_by (λ (t : Triple). t.time) (x ∷ filter test vs) =
    ap (λ (ys : List Triple). sum_by (λ t. t.time) ys) f
    ∙ sum_by-append (λ (t : Triple). t.time) (filter test us) (x ∷ filter test vs)
    in let more = sum_by-cons (λ (t : Triple). t.time) x (filter test vs)
    in let front = only_heads head x.tail us (falls_before (λ (t : Triple). t.tail) us x vs nonincreasing)
    in omega arith

-- a sublist's span is at most that of all above its least head and tail
pub span_of-le-above : (ts : List Triple) (y : Triple) (ys : List Triple) → IsSublist (y ∷ ys) ts
    → span_of (y ∷ ys) ≤ span_above ts (least_of (λ t. t.head) (y ∷ ys)) (least_of (λ t. t.tail) (y ∷ ys))
span_of-le-above ts y ys s =
    let head = least_of (λ (t : Triple). t.head) (y ∷ ys)
    in let tail = least_of (λ (t : Triple). t.tail) (y ∷ ys)
    in let passes : AllByRecursion (λ t. is_above head tail t ≡ true) (y ∷ ys) =
    all_map (λ u. (head ≤ u.head) × (tail ≤ u.tail)) (λ t. is_above head tail t ≡ true)
    (λ u p. is_above-from head tail u p.0 p.1) (y ∷ ys)
    (all_both (λ u. head ≤ u.head) (λ u. tail ≤ u.tail) (y ∷ ys)
    (least_of-le (λ (t : Triple). t.head) (y ∷ ys)) (least_of-le (λ (t : Triple). t.tail) (y ∷ ys)))
    in let sub = sublist_of_filter (is_above head tail) s passes
    in let sum = sublist_sum (λ (t : Triple). t.time) sub
    in let longer = sublist_length sub
    in let above = span_above-some ts head tail (omega arith)
    in omega arith

-- what the walk over the thresholds knows after the first n: that `best` covers those between, and the last one tried
pub record IsTried (ts : List Triple) (from to n best last : ℕ) : Type 0 where
  pub covers : (i : ℕ) → i < n → from ≤ head_at ts i → head_at ts i ≤ to
      → (tail : ℕ) → span_above ts (head_at ts i) tail ≤ best
  pub within : best ≤ one ts
  pub again : last < 2 ^ 50 → (tail : ℕ) → span_above ts last tail ≤ best

-- all thresholds that occur cover all sublists that begin between
pub tried_all : (ts : List Triple) (from to n best last : ℕ) → IsTried ts from to n best last → length ts ≤ n
    → one_between from to ts ≤ best
tried_all ts from to n best last r all =
    greatest_of-le span_of best (filter (begins_between from to) (sublists ts))
    (all_filter (begins_between from to) (λ ys. IsSublist ys ts) (λ ys. span_of ys ≤ best) of_sublist (sublists ts)
    (sublists-are ts))
  where
    of_sublist : (ys : List Triple) → IsSublist ys ts → begins_between from to ys ≡ true → span_of ys ≤ best
    of_sublist [] s e = omega arith
    of_sublist (y ∷ ys) s e =
        let h = least_of-is (λ (t : Triple). t.head) y ys
        in let i = sublist_at s h.0 h.1
        in let head : head_at ts i.0 ≡ least_of (λ (t : Triple). t.head) (y ∷ ys) =
        ap (λ (t : Triple). t.head) (i.2 no_triple) ∙ h.2 no_triple
        in let both = and_parts (leb from (least_of (λ (t : Triple). t.head) (y ∷ ys)))
        (leb (least_of (λ (t : Triple). t.head) (y ∷ ys)) to) e
        in let low = leb-true from (least_of (λ (t : Triple). t.head) (y ∷ ys)) both.0
        in let high = leb-true (least_of (λ (t : Triple). t.head) (y ∷ ys)) to both.1
        in let c = r.covers i.0 (let k = i.1 in omega arith) (omega arith) (omega arith)
        (least_of (λ (t : Triple). t.tail) (y ∷ ys))
        in let same = ap (λ (k : ℕ). span_above ts k (least_of (λ (t : Triple). t.tail) (y ∷ ys))) head
        in let le = span_of-le-above ts y ys s in omega arith
