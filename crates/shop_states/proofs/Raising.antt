-- Operations of which some are taken out and some heads are raised: only what begins among these heads can bound more.
use Rattle.std.proofs.Common.{◌≡◌, ℕ, ◌+◌, ◌≤◌, ◌<◌, max, ◌⊎◌, inl, inr, Bool, true, false, List, [], ◌∷◌, length, cond}
use Rattle.std.proofs.{Common.{refl, arith}, lemmas.Bool.{cases_Bool, cases_lt, and_from, leb-true, le-leb, true≢false}}
use Rattle.std.{proofs.lemmas.List.Sums.sum_by-cons, specs.List.{AllByRecursion, filter, sum_by}}
use Rattle.shop_layout.specs.declared.slots.Slot.{Slot}
use Rattle.shop_bound.specs.{declared.triples.Triple.Triple, OneMachine.{sublists, greatest_of, least_of, span_of, one}}
use Rattle.shop_bound.specs.{Heads.head_of, inner.NonincreasingTails.{begins_between, one_between}}
use Rattle.shop_bound.proofs.Lists.{IsSublist, none, skip, keep, all_map, all_both, least_of-le, greatest_of-le}
use Rattle.shop_bound.proofs.ThresholdLemmas.{le-greatest_sublist, le-least_of, sublists-are}
use Rattle.shop_model.specs.{Shop.Shop, Word.Placing}
use Rattle.shop_states.proofs.LeftSlots.{is_left, triple_of, left_of}

-- y is x with the same head, or with one that is at most `to` where x has one that is at least `from` less 1
pub record IsRaisedTo (from to : ℕ) (x y : Triple) : Type 0 where
  pub time : x.time ≡ y.time
  pub tail : x.tail ≡ y.tail
  pub head : (x.head ≡ y.head) ⊎ ((from ≤ x.head + 1) × (y.head ≤ to))

-- the second list is the first with some taken out and the others raised so
pub data IsRaisedPart (from to : ℕ) : List Triple → List Triple → Type 0 where
  done : IsRaisedPart from to [] []
  less : {xs ys : List Triple} (x : Triple) → IsRaisedPart from to xs ys → IsRaisedPart from to (x ∷ xs) ys
  more : {xs ys : List Triple} (x y : Triple) → IsRaisedTo from to x y → IsRaisedPart from to xs ys
      → IsRaisedPart from to (x ∷ xs) (y ∷ ys)

module _ (from to : ℕ) where
  part_sublist : {vs ys : List Triple} → IsSublist vs ys → {xs : List Triple} → IsRaisedPart from to xs ys
      → IsRaisedPart from to xs vs
  part_sublist s done = part_none s
    where
      part_none : {vs : List Triple} → IsSublist vs [] → IsRaisedPart from to [] vs
      part_none none = done
  part_sublist s (less x p) = less x (part_sublist s p)
  part_sublist (skip z s) (more x y r p) = less x (part_sublist s p)
  part_sublist (keep z s) (more x y r p) = more x y r (part_sublist s p)

  -- a sublist of the first list that takes as long as vs, with heads and tails that are at least these
  record IsKept (head tail : ℕ) (xs vs : List Triple) : Type 0 where
    kept : List Triple
    sub : IsSublist kept xs
    all : AllByRecursion (λ u. (head ≤ u.head) × (tail ≤ u.tail)) kept
    times : sum_by (λ u. u.time) kept ≡ sum_by (λ v. v.time) vs
    long : length kept ≡ length vs

  -- what stands in a raised list, where all heads are at least one that isn't between
  kept_of : (head tail : ℕ) → (head < from) ⊎ (to < head) → {xs vs : List Triple} → IsRaisedPart from to xs vs
      → AllByRecursion (λ v. (head ≤ v.head) × (tail ≤ v.tail)) vs → IsKept head tail xs vs
  kept_of head tail out done a = record { kept = []; sub = none; all = tt; times = refl; long = refl }
  kept_of head tail out (less x p) a = grind (arith, skip, kept_of head tail out p a)
  kept_of head tail out (more {xs = xs} {ys = vs} x v e p) a =
      let r = kept_of head tail out p a.1
      in let same_time = e.time
      in let same_tail = e.tail
      in let here = a.0
      in let least : head ≤ x.head = elim e.head [
        | inl same ↦ omega arith
        | inr between ↦ elim out [ inl low ↦ omega arith | inr high ↦ absurd (omega arith) ]
      ]
      in let times = r.times
      in let c = sum_by-cons (λ (u : Triple). u.time) x r.kept
      in let d = sum_by-cons (λ (u : Triple). u.time) v vs
      in let long = r.long
      in record {
        kept = x ∷ r.kept;
        sub = keep x r.sub;
        all = ((least, omega arith), r.all);
        times = omega arith;
        long = omega arith;
      }

  kept_span : (head tail : ℕ) (xs : List Triple) (v : Triple) (vs : List Triple) → IsKept head tail xs (v ∷ vs)
      → head + sum_by (λ u. u.time) (v ∷ vs) + tail ≤ one xs
  kept_span head tail xs v vs r = of_kept r.kept r.sub r.all r.times r.long where
    of_kept : (us : List Triple) → IsSublist us xs → AllByRecursion (λ u. (head ≤ u.head) × (tail ≤ u.tail)) us
        → sum_by (λ u. u.time) us ≡ sum_by (λ v. v.time) (v ∷ vs) → length us ≡ length (v ∷ vs)
        → head + sum_by (λ u. u.time) (v ∷ vs) + tail ≤ one xs
    of_kept [] s a t l = absurd (omega arith)
    of_kept (u ∷ us) s a t l =
        let h = le-least_of (λ (t : Triple). t.head) head u us
        (all_map (λ t. (head ≤ t.head) × (tail ≤ t.tail)) (λ t. head ≤ t.head) (λ t h. h.0) (u ∷ us) a)
        in let q = le-least_of (λ (t : Triple). t.tail) tail u us
        (all_map (λ t. (head ≤ t.head) × (tail ≤ t.tail)) (λ t. tail ≤ t.tail) (λ t h. h.1) (u ∷ us) a)
        in let b = le-greatest_sublist span_of s in omega arith

  -- a sublist that doesn't begin between has a span that the list before had
  outside_span : (xs ys vs : List Triple) → IsRaisedPart from to xs ys → IsSublist vs ys
      → begins_between from to vs ≡ false → span_of vs ≤ one xs
  outside_span xs ys [] p s e = omega arith
  outside_span xs ys (v ∷ vs) p s e =
      let head = least_of (λ (t : Triple). t.head) (v ∷ vs)
      in let tail = least_of (λ (t : Triple). t.tail) (v ∷ vs)
      in let out : (head < from) ⊎ (to < head) = elim (cases_lt head from) [
        | inl low ↦ inl low
        | inr in_low ↦ elim (cases_lt to head) [
          | inl high ↦ inr high
          | inr in_high ↦ grind (arith, true≢false, and_from, le-leb)
        ]
      ]
      in kept_span head tail xs v vs (kept_of head tail out (part_sublist s p)
      (all_both (λ t. head ≤ t.head) (λ t. tail ≤ t.tail) (v ∷ vs)
      (least_of-le (λ (t : Triple). t.head) (v ∷ vs)) (least_of-le (λ (t : Triple). t.tail) (v ∷ vs))))

greatest_filter : {A : Type 0} (f : A → ℕ) (test : A → Bool) (b : ℕ) (xs : List A)
    → greatest_of f (filter test xs) ≤ b → AllByRecursion (λ x. test x ≡ true → f x ≤ b) xs
greatest_filter f test b [] h = tt
greatest_filter f test b (x ∷ xs) h =
    let either = λ (c : Bool). greatest_of f (cond c (x ∷ filter test xs) (filter test xs))
    in grind (arith, cases_Bool, true≢false, greatest_filter f test b xs)

-- raised heads bound no more than the list before or what begins between
pub one-raised_part : (from to : ℕ) (xs ys : List Triple) → IsRaisedPart from to xs ys
    → one ys ≤ max (one xs) (one_between from to ys)
one-raised_part from to xs ys p =
    greatest_of-le span_of (max (one xs) (one_between from to ys)) (sublists ys)
    (all_map (λ vs. (IsSublist vs ys)
    × (begins_between from to vs ≡ true → span_of vs ≤ one_between from to ys))
    (λ vs. span_of vs ≤ max (one xs) (one_between from to ys))
    (λ vs h. elim (cases_Bool (begins_between from to vs)) [
      | inl e ↦ (let a = h.1 e in omega arith)
      | inr e ↦ (let a = outside_span from to xs ys vs p h.0 e in omega arith)
    ]) (sublists ys)
    (all_both (λ vs. IsSublist vs ys) (λ vs. begins_between from to vs ≡ true → span_of vs ≤ one_between from to ys)
    (sublists ys) (sublists-are ys)
    (greatest_filter span_of (begins_between from to) (one_between from to ys) (sublists ys) (omega arith))))

-- nothing begins between where nothing is between
none_passes : {A : Type 0} (f : A → ℕ) (test : A → Bool) (xs : List A) → ((x : A) → test x ≡ false)
    → greatest_of f (filter test xs) ≡ 0
none_passes f test [] h = refl
none_passes f test (x ∷ xs) h = rw (h x) (none_passes f test xs h)

pub one_between-none : (from to : ℕ) (ts : List Triple) → to < from → one_between from to ts ≡ 0
one_between-none from to ts h = grind (arith, none_passes, cases_Bool, leb-true)

-- a slot before and after: what is left was left, with a head raised so
pub record IsSlotRaised (from to : ℕ) (shop : Shop) (p q : Placing) (s : Slot) : Type 0 where
  pub was_left : is_left q s ≡ true → is_left p s ≡ true
  pub head : is_left q s ≡ true → (head_of shop p s.job s.step ≡ head_of shop q s.job s.step)
      ⊎ ((from ≤ head_of shop p s.job s.step + 1) × (head_of shop q s.job s.step ≤ to))

pub left_raised : (from to : ℕ) (shop : Shop) (p q : Placing) (slots : List Slot)
    → AllByRecursion (IsSlotRaised from to shop p q) slots
    → IsRaisedPart from to (left_of shop p slots) (left_of shop q slots)
left_raised from to shop p q [] h = done
left_raised from to shop p q (s ∷ slots) h =
    let rest = left_raised from to shop p q slots h.1
    in elim (cases_Bool (is_left q s)) [
      | inl e ↦ rw (e, h.0.was_left e) (more (triple_of shop p s) (triple_of shop q s)
          (record { time = refl; tail = refl; head = h.0.head e }) rest)
      | inr e ↦ elim (cases_Bool (is_left p s)) [
        | inl f ↦ rw (e, f) (less (triple_of shop p s) rest)
        | inr f ↦ rw (e, f) rest
      ]
    ]
