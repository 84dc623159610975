-- No table under a word ends before the word's lower bound.
use Rattle.std.proofs.Common.{◌≡◌, ℕ, zero, suc, ◌+◌, ◌-◌, ◌≤◌, ◌<◌, max, ◌⊎◌, inl, inr, List, [], ◌∷◌, length, rules}
use Rattle.std.proofs.{Common.{map, drop, get_or, refl, sym, ◌∙◌, ap, arith, eqb}, lemmas.Bool.{cases_lt, eqb-true}}
use Rattle.std.proofs.{lemmas.List.{drop_more, drop_all}, lemmas.List.Sums.sum_by-cons}
use Rattle.std.specs.List.{AllByRecursion, filter, flat_map, sum_by, range_with_len}
use Rattle.shop_model.specs.{declared.ops.Op.Op, Shop.{finish_of, end_of, greatest_below, Shop, Starts, no_op}}
use Rattle.shop_model.specs.{Shop.{route_of, machine_of, time_of, IsOperation, IsFeasible}, Word.{Placing, placing}}
use Rattle.shop_model.{specs.Word.{IsWord, IsFull, IsUnder}, proofs.Greatest.{greatest_below-le, greatest_below-equal}}
use Rattle.shop_model.proofs.{WordLemmas.full_is_word, PlacedTables.{full_under, under_beginning}, Ends.le-end_of}
use Rattle.shop_model.proofs.{Placings.Follows, Unders.{follows_word, after_word}}
use Rattle.shop_bound.specs.{declared.triples.Triple.Triple, OneMachine.{one, span_of, least_of}, Laws.EndsAtItsBound}
use Rattle.shop_bound.specs.Bound.{Waiting, waiting_from, waiting_of, waiting, triples_on, lb}
use Rattle.shop_bound.proofs.Lists.{Pairwise, all_map, all_both, all_append, all_filter, pairwise_filter}
use Rattle.shop_bound.proofs.Lists.{pairwise_append, all_sublist, pairwise_sublist, least_of-le, packed}
use Rattle.shop_bound.proofs.{SameSums.mapped, Spans.greatest_sublist-le}

all_unmap : {A B : Type 0} (g : A → B) (P : B → Type 0) → (xs : List A) → AllByRecursion P (map g xs)
    → AllByRecursion (λ x. P (g x)) xs
all_unmap g P [] h = tt
all_unmap g P (x ∷ xs) h = (h.0, all_unmap g P xs h.1)

-- what stands at the front of the rest of a list
pub front_of : (xs : List Op) (k : ℕ) (o : Op) (os : List Op) → drop k xs ≡ o ∷ os
    → (k < length xs) × (get_or xs k no_op ≡ o) × (drop (k + 1) xs ≡ os)
front_of xs k o os e = elim (cases_lt k (length xs)) [
  | inl h ↦ (let d = drop_more xs k no_op h in (h, cc, cc))
  | inr h ↦ (let d = drop_all k xs h in absurd (cc))
]

-- an operation that waits is one of the instance, begins in the table no earlier than its head, and leaves time for
-- its tail
pub record Fits (shop : Shop) (starts : Starts) (x : Waiting) : Type 0 where
  pub operation : IsOperation shop x.job x.step
  pub machine : x.machine ≡ machine_of shop x.job x.step
  pub time : x.triple.time ≡ time_of shop x.job x.step
  pub head : x.triple.head ≤ starts x.job x.step
  pub tail : starts x.job x.step + x.triple.time + x.triple.tail ≤ end_of shop starts

module _ (shop : Shop) (starts : Starts) (feasible : IsFeasible shop starts) where
  -- the rest of a route fits between a start and the end
  rest_fits : (j k : ℕ) (o : Op) (os : List Op) → drop k (route_of shop j) ≡ o ∷ os
      → starts j k + o.time + sum_by (λ p. p.time) os ≤ end_of shop starts
  rest_fits j k o [] e = grind (arith, front_of, le-end_of)
  rest_fits j k o (p ∷ os) e =
      let f = front_of (route_of shop j) k o (p ∷ os) e
      in let g = front_of (route_of shop j) (k + 1) p os f.2
      in let t : time_of shop j k ≡ o.time = ap (λ (p : Op). p.time) f.1
      in let a = feasible.in_order j k g.0
      in let b = rest_fits j (k + 1) p os f.2
      in let c = sum_by-cons (λ (p : Op). p.time) p os in omega arith

  waiting_from-fits : (free : ℕ → ℕ) (j k ready : ℕ) (os : List Op) → drop k (route_of shop j) ≡ os
      → (IsOperation shop j k → ready ≤ starts j k)
      → ((l : ℕ) → k ≤ l → IsOperation shop j l → free (machine_of shop j l) ≤ starts j l)
      → AllByRecursion (Fits shop starts) (waiting_from free j k ready os)
  waiting_from-fits free j k ready [] e r f = tt
  waiting_from-fits free j k ready (o ∷ os) e r f =
      let x = front_of (route_of shop j) k o os e
      in let m : machine_of shop j k ≡ o.machine = ap (λ (p : Op). p.machine) x.1
      in let t : time_of shop j k ≡ o.time = ap (λ (p : Op). p.time) x.1
      in let fm : free (machine_of shop j k) ≡ free o.machine = ap free m
      in let a = r x.0
      in let b = f k (omega arith) x.0
      in grind (arith, rest_fits, waiting_from-fits free j (k + 1) (max ready (free o.machine) + o.time) os x.2)

  pub waiting-fits : (p : Placing) → Follows shop p starts → (js : List ℕ)
      → AllByRecursion (Fits shop starts) (flat_map (λ j. waiting_of shop p j) js)
  waiting-fits p f [] = tt
  waiting-fits p f (j ∷ js) =
      all_append (Fits shop starts) (waiting_of shop p j) (flat_map (λ j. waiting_of shop p j) js)
      (waiting_from-fits p.free j (p.steps j) (p.ready j) (drop (p.steps j) (route_of shop j)) refl (f.ready j)
      (λ l h op. f.free j l op h))
      (waiting-fits p f js)

-- one waits before the other: by job, then by step
pub Earlier : Waiting → Waiting → Type 0
Earlier x y = (x.job < y.job) ⊎ ((x.job ≡ y.job) × (x.step < y.step))

pub from_step : (free : ℕ → ℕ) (j k ready : ℕ) (os : List Op)
    → AllByRecursion (λ x. (x.job ≡ j) × (k ≤ x.step)) (waiting_from free j k ready os)
from_step free j k ready [] = tt
from_step free j k ready (o ∷ os) =
    grind (arith, all_map, from_step free j (k + 1) (max ready (free o.machine) + o.time) os)

waiting_from-rises : (free : ℕ → ℕ) (j k ready : ℕ) (os : List Op) → Pairwise Earlier (waiting_from free j k ready os)
unfolding Earlier
waiting_from-rises free j k ready [] = tt
waiting_from-rises free j k ready (o ∷ os) =
    grind (arith, all_map, from_step, waiting_from-rises free j (k + 1) (max ready (free o.machine) + o.time) os)

from_job : (shop : Shop) (p : Placing) (a n : ℕ)
    → AllByRecursion (λ x. a ≤ x.job) (flat_map (λ j. waiting_of shop p j) (range_with_len a n))
from_job shop p a zero = tt
from_job shop p a (suc n) = grind (arith, all_append, all_map, from_step, from_job shop p (a + 1) n)

waiting-rises : (shop : Shop) (p : Placing) (a n : ℕ)
    → Pairwise Earlier (flat_map (λ j. waiting_of shop p j) (range_with_len a n))
unfolding Earlier
waiting-rises shop p a zero = tt
waiting-rises shop p a (suc n) =
    grind (arith, pairwise_append, waiting_from-rises, all_map, from_job, from_step, waiting-rises shop p (a + 1) n)

module _ (shop : Shop) (starts : Starts) (feasible : IsFeasible shop starts) where
  start_of : Waiting → ℕ
  start_of x = starts x.job x.step

  -- operations that wait for one machine are apart
  apart_on : (m : ℕ) (x y : Waiting) → Fits shop starts x × (x.machine ≡ m) → Fits shop starts y × (y.machine ≡ m)
      → Earlier x y
      → (start_of x + x.triple.time ≤ start_of y) ⊎ (start_of y + y.triple.time ≤ start_of x)
  unfolding Earlier start_of
  apart_on m x y f g e = grind arith

  pairwise_on : (m : ℕ) (xs : List Waiting) → AllByRecursion (λ x. Fits shop starts x × (x.machine ≡ m)) xs
      → Pairwise Earlier xs
      → Pairwise (λ x y. (start_of x + x.triple.time ≤ start_of y) ⊎ (start_of y + y.triple.time ≤ start_of x)) xs
  pairwise_on m [] f e = tt
  pairwise_on m (x ∷ xs) f e = (
    all_map (λ y. (Fits shop starts y × (y.machine ≡ m)) × Earlier x y)
        (λ y. (start_of x + x.triple.time ≤ start_of y) ⊎ (start_of y + y.triple.time ≤ start_of x))
        (λ y h. apart_on m x y f.0 h.0 h.1) xs (all_both (λ y. Fits shop starts y × (y.machine ≡ m)) (Earlier x) xs f.1
        e.0),
    pairwise_on m xs f.1 e.1,
  )

  span_first : (m : ℕ) (x : Waiting) (xs : List Waiting)
      → AllByRecursion (λ x. Fits shop starts x × (x.machine ≡ m)) (x ∷ xs)
      → Pairwise (λ x y. (start_of x + x.triple.time ≤ start_of y) ⊎ (start_of y + y.triple.time ≤ start_of x))
      (x ∷ xs)
      → span_of (map (λ x. x.triple) (x ∷ xs)) ≤ end_of shop starts
  unfolding start_of
  span_first m x xs f apart =
      let ts = map (λ (y : Waiting). y.triple) (x ∷ xs)
      in let h = least_of (λ (t : Triple). t.head) ts
      in let t = least_of (λ (t : Triple). t.tail) ts
      in let heads =
      all_unmap (λ (y : Waiting). y.triple) (λ u. h ≤ u.head) (x ∷ xs) (least_of-le (λ (u : Triple). u.head) ts)
      in let tails =
      all_unmap (λ (y : Waiting). y.triple) (λ u. t ≤ u.tail) (x ∷ xs) (least_of-le (λ (u : Triple). u.tail) ts)
      in let first = f.0.0
      in let a = first.head in let b = first.tail in let c = heads.0 in let d = tails.0
      in let fits = packed start_of (λ (y : Waiting). y.triple.time) (length (x ∷ xs)) (x ∷ xs) (omega arith) h
      (end_of shop starts - t) (omega arith)
      (all_map (λ y. ((h ≤ y.triple.head) × (t ≤ y.triple.tail)) × (Fits shop starts y × (y.machine ≡ m)))
      (λ y. (h ≤ start_of y) × (start_of y + y.triple.time ≤ end_of shop starts - t))
      (λ y k. let k0 = k.0.0 in let k1 = k.0.1 in let k2 = k.1.0.head in let k3 = k.1.0.tail
      in (omega arith, omega arith)) (x ∷ xs)
      (all_both (λ y. (h ≤ y.triple.head) × (t ≤ y.triple.tail)) (λ y. Fits shop starts y × (y.machine ≡ m)) (x ∷ xs)
      (all_both (λ y. h ≤ y.triple.head) (λ y. t ≤ y.triple.tail) (x ∷ xs) heads tails) f))
      apart
      in let sums = mapped (λ (y : Waiting). y.triple) (λ (u : Triple). u.time) (x ∷ xs)
      in omega arith

  -- the span of operations of one machine is at most the end
  span-le : (m : ℕ) (xs : List Waiting) → AllByRecursion (λ x. Fits shop starts x × (x.machine ≡ m)) xs
      → Pairwise Earlier xs → span_of (map (λ x. x.triple) xs) ≤ end_of shop starts
  span-le m [] f e = omega arith
  span-le m (x ∷ xs) f e = span_first m x xs f (pairwise_on m (x ∷ xs) f e)

  -- all operations of an instance that wait for a machine
  on_machine : (p : Placing) → Follows shop p starts → (m : ℕ)
      → AllByRecursion (λ x. Fits shop starts x × (x.machine ≡ m)) (filter (λ x. eqb x.machine m) (waiting shop p))
  on_machine p f m =
      all_filter (λ x. eqb x.machine m) (Fits shop starts) (λ x. Fits shop starts x × (x.machine ≡ m))
      (λ x h e. (h, eqb-true x.machine m e)) (waiting shop p)
      (waiting-fits shop starts feasible p f (range_with_len 0 (length shop.jobs)))

  one-le : (p : Placing) → Follows shop p starts → (m : ℕ) → one (triples_on m (waiting shop p)) ≤ end_of shop starts
  one-le p f m =
      greatest_sublist-le (λ (x : Waiting). x.triple) span_of (end_of shop starts)
      (filter (λ x. eqb x.machine m) (waiting shop p))
      (λ ys sub. span-le m ys (all_sublist (λ x. Fits shop starts x × (x.machine ≡ m)) sub (on_machine p f m))
      (pairwise_sublist Earlier sub (pairwise_filter (λ x. eqb x.machine m) Earlier (waiting shop p)
      (waiting-rises shop p 0 (length shop.jobs)))))

-- the lower bound of a word is at most the end of each table under it
pub lb-le-end : (shop : Shop) (w : List ℕ) (starts : Starts) → IsWord shop w → IsUnder shop w starts
    → lb shop w ≤ end_of shop starts
lb-le-end shop w starts word u =
    let p = placing shop w
    in let f = follows_word shop starts w word u
    in let sound = (after_word shop w word).sound
    in let a = greatest_below-le (λ j. greatest_below (p.steps j) (λ k. finish_of shop p.begins j k))
    (length shop.jobs) (end_of shop starts)
    (λ j _. greatest_below-le (λ k. finish_of shop p.begins j k) (p.steps j) (end_of shop starts)
    (λ k h. let b = f.begins j k h in let c = le-end_of shop starts j k (sound.operations j k h) in omega arith))
    in let b = greatest_below-le (λ m. one (triples_on m (waiting shop p))) shop.machines (end_of shop starts)
    (λ m _. one-le shop starts u.feasible p f m)
    in omega arith

-- the table that a full word places lies under each of its beginnings, and ends at the word's lower bound
pub full_word : (shop : Shop) (w : List ℕ) → IsFull shop w → EndsAtItsBound shop w
full_word shop w full =
    let word = full_is_word shop w full
    in let p = placing shop w
    in let a = after_word shop w word
    in let whole = full_under shop w full
    in let bound = lb-le-end shop w p.begins word whole
    in let same = greatest_below-equal (λ j. greatest_below (length (route_of shop j))
    (λ k. finish_of shop p.begins j k)) (λ j. greatest_below (p.steps j) (λ k. finish_of shop p.begins j k))
    (length shop.jobs)
    (λ j _. ap (λ n. greatest_below n (λ k. finish_of shop p.begins j k)) (sym (full j) ∙ sym (a.steps j)))
    in search (rules, under_beginning)
