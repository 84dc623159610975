-- The bound of a word is at most the bound of the word with one more entry.
use Rattle.std.proofs.Common.{◌≡◌, ℕ, zero, suc, ◌+◌, ◌-◌, ◌≤◌, ◌<◌, max, inl, inr, List, [], ◌∷◌, ◌++◌, length, map}
use Rattle.std.proofs.Common.{drop, get_or, eqb, refl, sym, ◌∙◌, ap, subst, arith, append_assoc, zero-add, eq-eqb}
use Rattle.std.proofs.{lemmas.Bool.{cases_eq, eqb-true, ne_eqb}, lemmas.Grind.flat_map-append}
use Rattle.std.proofs.{lemmas.List.{append-nil, drop_more}, lemmas.List.Sums.sum_by-cons}
use Rattle.std.specs.List.{AllByRecursion, filter, flat_map, range_with_len, sum_by}
use Rattle.shop_model.specs.{declared.ops.Op.Op, Limits.IsWithinLimits, Word.{Placing, IsWord, placing, place_next}}
use Rattle.shop_model.specs.Shop.{Shop, no_op, route_of, machine_of, IsOperation, greatest_below}
use Rattle.shop_model.proofs.{Ends.IsOperation-job, Greatest.{le-greatest_below, greatest_below-le}}
use Rattle.shop_model.proofs.{Placings.{IsNext, place_next-is, free_grows}, WordLemmas.IsWord-init}
use Rattle.shop_model.proofs.Unders.{after_word, next_operation, placing-snoc}
use Rattle.shop_bound.specs.{declared.triples.Triple.Triple, OneMachine.{one, span_of}}
use Rattle.shop_bound.specs.Bound.{Waiting, waiting_from, waiting_of, waiting, triples_on, placed_end, lb}
use Rattle.shop_bound.proofs.{BoundLaw.front_of, Entries.IsWord-front, UnplacedTurns.triples_on-append}
use Rattle.shop_bound.proofs.Lists.{IsSublist, skip, keep, sublist_none, all_append, all_filter}
use Rattle.shop_bound.proofs.{PlacedEnds.{le-placed_end, placed_end-grows}, ThresholdLemmas.le-greatest_sublist}
use Rattle.shop_bound.proofs.Raised.{AreRaised, WaitRaised, wait_append, raised_on, one_raised, one_taken}

-- a range is cut at one of its numbers
range_cut : (a i n : ℕ) → range_with_len a (i + suc n) ≡ range_with_len a i ++ (a + i) ∷ range_with_len (a + i + 1) n
range_cut a zero n = let e : a + 0 ≡ a = omega arith in let f : 0 + suc n ≡ suc n = omega arith in rw (f, e) refl
range_cut a (suc i) n =
    let e : a + 1 + i ≡ a + suc i = omega arith
    in let f : suc i + suc n ≡ suc (i + suc n) = omega arith
    in rw (f, ← e) (ap (λ (xs : List ℕ). a ∷ xs) (range_cut (a + 1) i n))

-- the rest of a route, with machines free and the job ready no earlier
walk_raised : (f g : ℕ → ℕ) → ((m : ℕ) → f m ≤ g m) → (j k r s : ℕ) → r ≤ s → (os : List Op)
    → WaitRaised (waiting_from f j k r os) (waiting_from g j k s os)
walk_raised f g h j k r s le [] = tt
walk_raised f g h j k r s le (o ∷ os) =
    let a = h o.machine
    in (
      refl,
      omega arith,
      refl,
      refl,
      walk_raised f g h j (k + 1) (max r (f o.machine) + o.time)
          (max s (g o.machine) + o.time) (omega arith) os,
    )

-- no head is below the end on its machine
late_walk : (f : ℕ → ℕ) (j k r : ℕ) (os : List Op)
    → AllByRecursion (λ x. f x.machine ≤ x.triple.head) (waiting_from f j k r os)
late_walk f j k r [] = tt
late_walk f j k r (o ∷ os) = (omega arith, late_walk f j (k + 1) (max r (f o.machine) + o.time) os)

late_jobs : (shop : Shop) (p : Placing) (js : List ℕ)
    → AllByRecursion (λ x. p.free x.machine ≤ x.triple.head) (flat_map (λ j. waiting_of shop p j) js)
late_jobs shop p [] = tt
late_jobs shop p (j ∷ js) = grind (arith, all_append, late_walk, late_jobs shop p js)

triples_next : (m : ℕ) (x : Waiting) (xs : List Waiting) → x.machine ≡ m
    → triples_on m (x ∷ xs) ≡ x.triple ∷ triples_on m xs
triples_next m x xs e = rw (eq-eqb x.machine m e) refl

triples_other : (m : ℕ) (x : Waiting) (xs : List Waiting) → (x.machine ≡ m → ⊥)
    → triples_on m (x ∷ xs) ≡ triples_on m xs
triples_other m x xs ne = rw (ne_eqb x.machine m ne) refl

-- one operation is a sublist of each list that has it
single : {A : Type 0} (xs : List A) (y : A) (ys : List A) → IsSublist (y ∷ []) (xs ++ y ∷ ys)
single [] y ys = keep y (sublist_none ys)
single (x ∷ xs) y ys = skip x (single xs y ys)

alone-le : (xs : List Triple) (y : Triple) (ys : List Triple) → y.head + y.time + y.tail ≤ one (xs ++ y ∷ ys)
alone-le xs y ys = let a = le-greatest_sublist span_of (single xs y ys) in omega arith

module _ (shop : Shop) (limits : IsWithinLimits shop) (p : Placing) (j : ℕ) (q : Placing) (n : IsNext shop p j q)
    (op : IsOperation shop j (p.steps j)) where
  -- the other jobs
  others_raised : (a k : ℕ) → ((i : ℕ) → a ≤ i → i < a + k → i ≡ j → ⊥)
      → WaitRaised (flat_map (λ i. waiting_of shop p i) (range_with_len a k))
      (flat_map (λ i. waiting_of shop q i) (range_with_len a k))
  others_raised a zero h = tt
  others_raised a (suc k) h =
      let ne = h a (omega arith) (omega arith)
      in wait_append (waiting_of shop p a) (waiting_of shop q a) _ _
      (rw (n.steps_other a ne, n.ready_other a ne)
      (walk_raised p.free q.free (free_grows shop p j q n) a (p.steps a) (p.ready a) (p.ready a) (omega arith)
      (drop (p.steps a) (route_of shop a))))
      (others_raised (a + 1) k (λ i l u. h i (omega arith) (omega arith)))

  -- the operation that is placed, as it waited, and what follows it in its route
  placed_op : Op
  placed_op = get_or (route_of shop j) (p.steps j) no_op

  later_ops : List Op
  later_ops = drop (p.steps j + 1) (route_of shop j)

  was : Waiting
  unfolding placed_op later_ops
  was = record {
    job = j;
    step = p.steps j;
    machine = placed_op.machine;
    triple = record {
      head = max (p.ready j) (p.free placed_op.machine);
      time = placed_op.time;
      tail = sum_by (λ o. o.time) later_ops;
    };
  }

  -- when it ends
  ends_at : was.triple.head + was.triple.time ≡ q.ready j
  unfolding was placed_op later_ops
  ends_at = let a = n.ready_here in let b = n.begins_here in omega arith

  ends_free : (m : ℕ) → was.machine ≡ m → q.free m ≡ was.triple.head + was.triple.time
  unfolding was placed_op later_ops
  ends_free m e = let a = n.free_here m (sym e) in let b = n.begins_here in omega arith

  -- what waits of the job, before and after
  rest_before : List Waiting
  rest_before = waiting_from p.free j (p.steps j + 1) (was.triple.head + was.triple.time) later_ops

  rest_after : List Waiting
  rest_after = waiting_from q.free j (p.steps j + 1) (q.ready j) later_ops

  job_before : waiting_of shop p j ≡ was ∷ rest_before
  unfolding was rest_before placed_op later_ops
  job_before = ap (waiting_from p.free j (p.steps j) (p.ready j)) (drop_more (route_of shop j) (p.steps j) no_op op)

  job_after : waiting_of shop q j ≡ rest_after
  unfolding rest_after later_ops
  job_after = ap (λ (k : ℕ). waiting_from q.free j k (q.ready j) (drop k (route_of shop j))) n.steps_here

  rest_raised : WaitRaised rest_before rest_after
  unfolding rest_before rest_after
  rest_raised = walk_raised p.free q.free (free_grows shop p j q n) j (p.steps j + 1)
      (was.triple.head + was.triple.time) (q.ready j)
      (let a = ends_at in omega arith) later_ops

  -- the jobs before it and after it
  fronts : Placing → List Waiting
  fronts r = flat_map (λ i. waiting_of shop r i) (range_with_len 0 j)

  backs : Placing → List Waiting
  backs r = flat_map (λ i. waiting_of shop r i) (range_with_len (j + 1) (length shop.jobs - (j + 1)))

  cut_at : (r : Placing) → waiting shop r ≡ fronts r ++ (waiting_of shop r j ++ backs r)
  unfolding fronts backs
  cut_at r =
      let job = IsOperation-job shop j (p.steps j) op
      in let long : j + suc (length shop.jobs - (j + 1)) ≡ length shop.jobs = omega arith
      in let range : range_with_len 0 (length shop.jobs)
      ≡ range_with_len 0 j ++ j ∷ range_with_len (j + 1) (length shop.jobs - (j + 1)) =
      ap (range_with_len 0) (sym long) ∙ (range_cut 0 j (length shop.jobs - (j + 1))
      ∙ ap (λ (i : ℕ). range_with_len 0 j ++ i ∷ range_with_len (i + 1) (length shop.jobs - (j + 1))) (zero-add j))
      in grind (arith, job, long, range, flat_map-append)

  before : waiting shop p ≡ fronts p ++ was ∷ (rest_before ++ backs p)
  before = cut_at p ∙ ap (λ (xs : List Waiting). fronts p ++ (xs ++ backs p)) job_before

  after : waiting shop q ≡ fronts q ++ (rest_after ++ backs q)
  after = cut_at q ∙ ap (λ (xs : List Waiting). fronts q ++ (xs ++ backs q)) job_after

  all_raised : WaitRaised (fronts p ++ (rest_before ++ backs p)) (fronts q ++ (rest_after ++ backs q))
  unfolding fronts backs
  all_raised =
      wait_append (fronts p) (fronts q) (rest_before ++ backs p) (rest_after ++ backs q)
      (others_raised 0 j (λ i l u e. absurd (omega arith)))
      (wait_append rest_before rest_after (backs p) (backs q) rest_raised
      (others_raised (j + 1) (length shop.jobs - (j + 1)) (λ i l u e. absurd (omega arith))))

  raised_for : (m : ℕ) → AreRaised (triples_on m (fronts p) ++ triples_on m (rest_before ++ backs p))
      (triples_on m (waiting shop q))
  raised_for m =
      let a = raised_on m (fronts p ++ (rest_before ++ backs p)) (fronts q ++ (rest_after ++ backs q)) all_raised
      in grind (arith, a, triples_on-append, fronts, rest_before, backs, after)

  -- after it no head on its machine is below its end
  late_for : (m : ℕ) → was.machine ≡ m
      → AllByRecursion (λ y. was.triple.head + was.triple.time ≤ y.head) (triples_on m (waiting shop q))
  late_for m e = late (filter (λ (x : Waiting). eqb x.machine m) (waiting shop q))
      (all_filter (λ x. eqb x.machine m) (λ x. q.free x.machine ≤ x.triple.head)
      (λ x. was.triple.head + was.triple.time ≤ x.triple.head)
      (λ x h t. let a =
      ends_free m e in let b : q.free x.machine ≡ q.free m = ap q.free (eqb-true x.machine m t) in omega arith)
      (waiting shop q) (late_jobs shop q (range_with_len 0 (length shop.jobs))))
    where
      late : (ws : List Waiting) → AllByRecursion (λ x. was.triple.head + was.triple.time ≤ x.triple.head) ws
          → AllByRecursion (λ y. was.triple.head + was.triple.time ≤ y.head) (map (λ x. x.triple) ws)
      late [] h = tt
      late (w ∷ ws) h = (h.0, late ws h.1)

  -- before it is placed it is among what waits for its machine, so it ends by the bound of that
  waits_on : (m : ℕ) → was.machine ≡ m → triples_on m (waiting shop p)
      ≡ triples_on m (fronts p) ++ was.triple ∷ triples_on m (rest_before ++ backs p)
  waits_on m e = grind (arith, before, triples_on-append, fronts, was, rest_before, backs, triples_next)

  pub end-le-left : (m : ℕ) → machine_of shop j (p.steps j) ≡ m → q.free m ≤ one (triples_on m (waiting shop p))
  unfolding was placed_op
  end-le-left m e = grind (arith, alone-le, fronts, rest_before, backs, waits_on, ends_free)

  module _ (b : ℕ) (ends : placed_end shop q ≤ b) (each : (m : ℕ) → m < shop.machines
      → one (triples_on m (waiting shop q)) ≤ b) where
    -- its own head, time and tail: it is the last of its route and ends by b, or the next one waits for as much
    alone : was.triple.head + was.triple.time + was.triple.tail ≤ b
    unfolding was later_ops rest_after
    alone = of_rest later_ops refl where
      of_rest : (os : List Op) → later_ops ≡ os → was.triple.head + was.triple.time + was.triple.tail ≤ b
      of_rest [] e =
          let tail : was.triple.tail ≡ 0 = ap (λ (xs : List Op). sum_by (λ o. o.time) xs) e
          in let a = ends_at in let c = n.ready_here
          in let d = le-placed_end shop q j (p.steps j) (IsOperation-job shop j (p.steps j) op)
          (let h = n.steps_here in omega arith)
          in omega arith
      of_rest (o ∷ os) e =
          let tail : was.triple.tail ≡ sum_by (λ o. o.time) (o ∷ os) = ap (λ (xs : List Op). sum_by (λ o. o.time) xs) e
          in let sums = sum_by-cons (λ (o : Op). o.time) o os
          in let front = front_of (route_of shop j) (p.steps j + 1) o os e
          in let known : o.machine < shop.machines =
          (let m : machine_of shop j (p.steps j + 1) ≡ o.machine = ap (λ (x : Op). x.machine) front.1
          in let l = limits.on_machines j (p.steps j + 1) in omega arith)
          in let next : Waiting = record {
            job = j;
            step = p.steps j + 1;
            machine = o.machine;
            triple = record {
              head = max (q.ready j) (q.free o.machine);
              time = o.time;
              tail = sum_by (λ o. o.time) os;
            };
          }
          in let rest = waiting_from q.free j (p.steps j + 1 + 1) (max (q.ready j) (q.free o.machine) + o.time) os
          in let first : rest_after ≡ next ∷ rest = ap (waiting_from q.free j (p.steps j + 1) (q.ready j)) e
          in let here : waiting shop q ≡ fronts q ++ next ∷ (rest ++ backs q) =
          after ∙ ap (λ (xs : List Waiting). fronts q ++ (xs ++ backs q)) first
          in let split : triples_on o.machine (waiting shop q)
          ≡ triples_on o.machine (fronts q) ++ next.triple ∷ triples_on o.machine (rest ++ backs q) =
          ap (triples_on o.machine) here ∙ (triples_on-append o.machine (fronts q) (next ∷ (rest ++ backs q))
          ∙ ap (λ (xs : List Triple). triples_on o.machine (fronts q) ++ xs)
          (triples_next o.machine next (rest ++ backs q) refl))
          in let c = alone-le (triples_on o.machine (fronts q)) next.triple (triples_on o.machine (rest ++ backs q))
          in let d : one (triples_on o.machine (fronts q) ++ next.triple
          ∷ triples_on o.machine (rest ++ backs q)) ≤ b =
          subst (λ (xs : List Triple). one xs ≤ b) split (each o.machine known)
          in let a = ends_at in omega arith

    machine_rises : (m : ℕ) → m < shop.machines → one (triples_on m (waiting shop p)) ≤ b
    machine_rises m known = elim (cases_eq was.machine m) [
      | inl e ↦ (let split = waits_on m e
          in rw split (one_taken was.triple (triples_on m (fronts p)) (triples_on m (rest_before ++ backs p))
          (triples_on m (waiting shop q)) b
          (raised_for m) (late_for m e) alone (each m known)))
      | inr ne ↦ (let split : triples_on m (waiting shop p)
          ≡ triples_on m (fronts p) ++ triples_on m (rest_before ++ backs p) =
          ap (triples_on m) before ∙ (triples_on-append m (fronts p) (was ∷ (rest_before ++ backs p))
          ∙ ap (λ (xs : List Triple). triples_on m (fronts p) ++ xs)
          (triples_other m was (rest_before ++ backs p) ne))
          in let a = each m known
          in rw split (let c = one_raised (triples_on m (fronts p) ++ triples_on m (rest_before ++ backs p))
          (triples_on m (waiting shop q)) (raised_for m) in omega arith))
    ]

-- the bound, by what is placed
bound_of : Shop → Placing → ℕ
bound_of shop p = max (placed_end shop p) (greatest_below shop.machines (λ m. one (triples_on m (waiting shop p))))

next_rises : (shop : Shop) → IsWithinLimits shop → (p : Placing) (j : ℕ) (q : Placing) → IsNext shop p j q
    → IsOperation shop j (p.steps j)
    → bound_of shop p ≤ bound_of shop q
unfolding bound_of
next_rises shop limits p j q n op =
    let grows = placed_end-grows shop p j q n
    in let rises = greatest_below-le (λ m. one (triples_on m (waiting shop p))) shop.machines (bound_of shop q)
    (machine_rises shop limits p j q n op (bound_of shop q) (omega arith)
    (λ m known. let a =
    le-greatest_below (λ i. one (triples_on i (waiting shop q))) shop.machines m known in omega arith))
    in omega arith

-- one more entry, and so many more
bound_rises : (shop : Shop) (w : List ℕ) (j : ℕ) → IsWithinLimits shop → IsWord shop (w ++ j ∷ [])
    → lb shop w ≤ lb shop (w ++ j ∷ [])
unfolding bound_of
bound_rises shop w j limits word =
    let p = placing shop w
    in let op : IsOperation shop j (p.steps j) =
    rw ((after_word shop w (IsWord-init shop w j word)).steps j) (next_operation shop w j word)
    in let a : bound_of shop p ≤ bound_of shop (place_next shop p j) =
    next_rises shop limits p j (place_next shop p j) (place_next-is shop p j) op
    in let e : bound_of shop (placing shop (w ++ j ∷ [])) ≡ bound_of shop (place_next shop p j) =
    ap (bound_of shop) (placing-snoc shop w j)
    in omega arith

pub bounds_rise : (shop : Shop) (v later : List ℕ) → IsWithinLimits shop → IsWord shop (v ++ later)
    → lb shop v ≤ lb shop (v ++ later)
bounds_rise shop v [] limits word = rw append-nil (omega arith)
bounds_rise shop v (j ∷ later) limits word =
    let whole : IsWord shop ((v ++ j ∷ []) ++ later) = subst (IsWord shop) (sym (append_assoc v (j ∷ []) later)) word
    in let first = bound_rises shop v j limits (IsWord-front shop (v ++ j ∷ []) later whole)
    in let rest = bounds_rise shop (v ++ j ∷ []) later limits whole
    in subst (λ (w : List ℕ). lb shop v ≤ lb shop w) (append_assoc v (j ∷ []) later) (omega arith)
