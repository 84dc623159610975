-- Lists of operations whose heads are raised, and from which one is taken.
use Rattle.std.proofs.Common.{◌≡◌, ℕ, ◌+◌, ◌≤◌, ◌⊎◌, inl, inr, List, [], ◌∷◌, ◌++◌, refl, arith, rules}
use Rattle.std.{proofs.lemmas.{Bool.cases_Bool, List.Sums.sum_by-cons}, specs.List.{AllByRecursion, sum_by}}
use Rattle.shop_bound.specs.{declared.triples.Triple.Triple, Bound.{Waiting, triples_on}}
use Rattle.shop_bound.specs.OneMachine.{sublists, least_of, span_of, one}
use Rattle.shop_bound.proofs.Lists.{IsSublist, none, skip, keep, all_map, all_sublist, least_of-le, greatest_of-le}
use Rattle.shop_bound.proofs.ThresholdLemmas.{le-greatest_sublist, le-least_of, sublists-are}

-- triple by triple, the same with no head lower
abbrev pub AreRaised : List Triple → List Triple → Type 0
AreRaised [] [] = Unit {0}
AreRaised [] (y ∷ ys) = ⊥
AreRaised (x ∷ xs) [] = ⊥
AreRaised (x ∷ xs) (y ∷ ys) = (x.head ≤ y.head) × (x.time ≡ y.time) × (x.tail ≡ y.tail) × AreRaised xs ys

-- a sublist is raised with its list
raised_sublist : {us xs : List Triple} → IsSublist us xs → (ys : List Triple) → AreRaised xs ys
    → (vs : List Triple) × IsSublist vs ys × AreRaised us vs
raised_sublist none [] r = ([], none, tt)
raised_sublist none (y ∷ ys) r = absurd r
raised_sublist (skip x s) [] r = absurd r
raised_sublist (skip x s) (y ∷ ys) r = let t = raised_sublist s ys r.3 in (t.0, skip y t.1, t.2)
raised_sublist (keep x s) [] r = absurd r
raised_sublist (keep x s) (y ∷ ys) r = let t = raised_sublist s ys r.3 in (y ∷ t.0, keep y t.1, (r.0, r.1, r.2, t.2))

raised_heads : (xs ys : List Triple) → AreRaised xs ys → least_of (λ t. t.head) xs ≤ least_of (λ t. t.head) ys
raised_heads [] [] r = omega arith
raised_heads [] (y ∷ ys) r = absurd r
raised_heads (x ∷ xs) [] r = absurd r
raised_heads (x ∷ []) (y ∷ []) r = r.0
raised_heads (x ∷ []) (y ∷ z ∷ ys) r = absurd r.3
raised_heads (x ∷ u ∷ xs) (y ∷ []) r = absurd r.3
raised_heads (x ∷ u ∷ xs) (y ∷ v ∷ ys) r = let a = raised_heads (u ∷ xs) (v ∷ ys) r.3 in let b = r.0 in omega arith

raised_tails : (xs ys : List Triple) → AreRaised xs ys → least_of (λ t. t.tail) xs ≡ least_of (λ t. t.tail) ys
raised_tails [] [] r = refl
raised_tails [] (y ∷ ys) r = absurd r
raised_tails (x ∷ xs) [] r = absurd r
raised_tails (x ∷ []) (y ∷ []) r = r.2
raised_tails (x ∷ []) (y ∷ z ∷ ys) r = absurd r.3
raised_tails (x ∷ u ∷ xs) (y ∷ []) r = absurd r.3
raised_tails (x ∷ u ∷ xs) (y ∷ v ∷ ys) r = let a = raised_tails (u ∷ xs) (v ∷ ys) r.3 in let b = r.2 in omega arith

raised_times : (xs ys : List Triple) → AreRaised xs ys → sum_by (λ t. t.time) xs ≡ sum_by (λ t. t.time) ys
raised_times [] [] r = refl
raised_times [] (y ∷ ys) r = absurd r
raised_times (x ∷ xs) [] r = absurd r
raised_times (x ∷ xs) (y ∷ ys) r = search (rules, sum_by-cons, raised_times xs ys r.3)

-- so no span falls
span_raised : (xs ys : List Triple) → AreRaised xs ys → span_of xs ≤ span_of ys
span_raised xs ys r = grind (arith, raised_heads, raised_tails, raised_times)

pub sublist_raised-le : {us xs : List Triple} → IsSublist us xs → (ys : List Triple) → AreRaised xs ys
    → span_of us ≤ one ys
sublist_raised-le {us = us} s ys r = grind (arith, raised_sublist, span_raised, le-greatest_sublist)

pub one_raised : (xs ys : List Triple) → AreRaised xs ys → one xs ≤ one ys
one_raised xs ys r = grind (arith, greatest_of-le, all_map, sublist_raised-le, sublists-are)

-- us has z and a sublist of xs
record HasTaken {A : Type 0} (z : A) (us xs : List A) : Type 0 where
  others : List A
  sub : IsSublist others xs
  sums : (f : A → ℕ) → sum_by f us ≡ sum_by f others + f z
  all : (f : A → ℕ) (b : ℕ) → AllByRecursion (λ x. b ≤ f x) us → (b ≤ f z) × AllByRecursion (λ x. b ≤ f x) others

-- a sublist of a list with z is one without it, or has it
taken : {A : Type 0} (z : A) (fronts backs us : List A) → IsSublist us (fronts ++ z ∷ backs)
    → IsSublist us (fronts ++ backs) ⊎ HasTaken z us (fronts ++ backs)
taken z [] backs us (skip x s) = inl s
taken z [] backs us (keep {ys = vs} x s) = grind (arith, sum_by-cons)
taken z (a ∷ fronts) backs us (skip x s) = grind (arith, skip, taken z fronts backs us s)
taken z (a ∷ fronts) backs us (keep {ys = vs} x s) = elim (taken z fronts backs vs s) [
  | inl t ↦ inl (keep a t)
  | inr t ↦ inr (record {
    others = a ∷ t.others;
    sub = keep a t.sub;
    sums = λ f. (let e = t.sums f in let b = sum_by-cons f a vs in let c = sum_by-cons f a t.others in omega arith);
    all = λ f b h. (let r = t.all f b h.1 in (r.0, (h.0, r.1)));
  })
]

module _ (z : Triple) (us : List Triple) where
  -- what is known of a sublist of which z is taken and these are left
  record IsLeft (os : List Triple) : Type 0 where
    times : sum_by (λ t. t.time) us ≡ sum_by (λ t. t.time) os + z.time
    head : least_of (λ t. t.head) us ≤ z.head
    tail : least_of (λ t. t.tail) us ≤ z.tail
    tails : AllByRecursion (λ x. least_of (λ t. t.tail) us ≤ x.tail) os

  is_left : (xs : List Triple) (t : HasTaken z us xs) → IsLeft t.others
  is_left xs t =
      let heads = t.all (λ x. x.head) (least_of (λ (x : Triple). x.head) us) (least_of-le (λ (x : Triple). x.head) us)
      in let tails =
      t.all (λ x. x.tail) (least_of (λ (x : Triple). x.tail) us) (least_of-le (λ (x : Triple). x.tail) us)
      in record { times = t.sums (λ x. x.time); head = heads.0; tail = tails.0; tails = tails.1 }

  -- where the others are raised, and begin no earlier than z ends
  left_span : (os vs : List Triple) (b : ℕ) → IsLeft os → AreRaised os vs
      → AllByRecursion (λ y. z.head + z.time ≤ y.head) vs
      → z.head + z.time + z.tail ≤ b → span_of vs ≤ b → span_of us ≤ b
  left_span [] [] b l r late alone le = let c = l.times in let h = l.head in let d = l.tail in omega arith
  left_span [] (v ∷ vs) b l r late alone le = absurd r
  left_span (o ∷ os) [] b l r late alone le = absurd r
  left_span (o ∷ os) (v ∷ vs) b l r late alone le =
      let heads = le-least_of (λ (x : Triple). x.head) (z.head + z.time) v vs late
      in let tails = le-least_of (λ (x : Triple). x.tail) (least_of (λ (x : Triple). x.tail) us) o os l.tails
      in let same = raised_tails (o ∷ os) (v ∷ vs) r
      in let times = raised_times (o ∷ os) (v ∷ vs) r
      in let c = l.times in let h = l.head in omega arith

-- One operation is taken out, all heads are then at least its head and time, and its own head, time and tail are at
-- most b.
pub one_taken : (z : Triple) (fronts backs ys : List Triple) (b : ℕ) → AreRaised (fronts ++ backs) ys
    → AllByRecursion (λ y. z.head + z.time ≤ y.head) ys → z.head + z.time + z.tail ≤ b → one ys ≤ b
    → one (fronts ++ z ∷ backs) ≤ b
one_taken z fronts backs ys b raised late alone rest =
    greatest_of-le span_of b (sublists (fronts ++ z ∷ backs))
    (all_map (λ us. IsSublist us (fronts ++ z ∷ backs)) (λ us. span_of us ≤ b)
    (λ us s. elim (taken z fronts backs us s) [
      | inl t ↦ (let a = sublist_raised-le t ys raised in omega arith)
      | inr t ↦ (let up = raised_sublist t.sub ys raised in let a = le-greatest_sublist span_of up.1
          in left_span z us t.others up.0 b (is_left z us (fronts ++ backs) t) up.2
          (all_sublist (λ y. z.head + z.time ≤ y.head) up.1 late) alone (omega arith))
    ])
    (sublists (fronts ++ z ∷ backs)) (sublists-are (fronts ++ z ∷ backs)))

-- the same of operations that wait
abbrev pub WaitRaised : List Waiting → List Waiting → Type 0
WaitRaised [] [] = Unit {0}
WaitRaised [] (y ∷ ys) = ⊥
WaitRaised (x ∷ xs) [] = ⊥
WaitRaised (x ∷ xs) (y ∷ ys) =
    (x.machine ≡ y.machine) × (x.triple.head ≤ y.triple.head) × (x.triple.time ≡ y.triple.time)
    × (x.triple.tail ≡ y.triple.tail)
    × WaitRaised xs ys

pub wait_append : (xs ys us vs : List Waiting) → WaitRaised xs ys → WaitRaised us vs → WaitRaised (xs ++ us) (ys ++ vs)
wait_append [] [] us vs r s = s
wait_append [] (y ∷ ys) us vs r s = absurd r
wait_append (x ∷ xs) [] us vs r s = absurd r
wait_append (x ∷ xs) (y ∷ ys) us vs r s = (r.0, r.1, r.2, r.3, wait_append xs ys us vs r.4 s)

pub raised_on : (m : ℕ) (xs ys : List Waiting) → WaitRaised xs ys → AreRaised (triples_on m xs) (triples_on m ys)
raised_on m [] [] r = tt
raised_on m [] (y ∷ ys) r = absurd r
raised_on m (x ∷ xs) [] r = absurd r
raised_on m (x ∷ xs) (y ∷ ys) r = grind (arith, cases_Bool, raised_on m xs ys r.4)
