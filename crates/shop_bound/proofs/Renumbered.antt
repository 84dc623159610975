-- Instances that differ in the numbers of their machines alone have the same words, with the same bounds and conflict
-- sets.
use Rattle.std.proofs.Common.{◌≡◌, ℕ, suc, ◌+◌, ◌≤◌, ◌<◌, max, Bool, List, [], ◌∷◌, length, rules, drop, get_or, eqb}
use Rattle.std.proofs.{Common.{refl, sym, ◌∙◌, ap, arith, eq-eqb, ◌↔◌}, lemmas.Bool.{Decides.eqb_tells, cases_eq}}
use Rattle.std.proofs.lemmas.{Bool.{eqb-true, ltb-true, ne_eqb}, List.{get_or-drop, length-drop, Elements.filter_agree}}
use Rattle.std.proofs.lemmas.List.{Elements.{filter_passes, recursion_from_All}, Sums.sum_by-cons}
use Rattle.std.specs.List.{AllByRecursion, AllZip, filter, flat_map, range_with_len, sum_by}
use Rattle.shop_model.specs.{declared.ops.Op.Op, Limits.IsWithinLimits, Word.{Placing, IsWord, placing, place_next}}
use Rattle.shop_model.specs.Shop.{Shop, IsOperation, no_op, route_of, machine_of, greatest_below}
use Rattle.shop_model.proofs.{Greatest.{le-greatest_below, greatest_below-le}, WordLemmas.{snoc_induct, IsWord-init}}
use Rattle.shop_model.proofs.Placings.{IsNext, place_next-is, each_placed}
use Rattle.shop_model.proofs.Unders.{after_word, next_operation, placing-snoc}
use Rattle.shop_bound.specs.Bound.{Waiting, waiting_from, waiting_of, waiting, triples_on, placed_end, lb}
use Rattle.shop_bound.specs.Conflicts.{open_jobs, next_head, chosen_of, conflicts_with, conflict_among, conflict}
use Rattle.shop_bound.{specs.{OneMachine.one, Renumbered.{IsRenumbered, NumbersDontMatter}}, proofs.BoundLaw.front_of}
use Rattle.shop_bound.proofs.{Lists.{all_append, all_filter, all_map}, PlacedEnds.{le-placed_end, placed_end-le}}
use Rattle.shop_bound.proofs.UnplacedTurns.{first_on, first_off, triples_on-append}

-- lists that agree at each index
zip_from : {A : Type 0} (R : A → A → Type 0) (d : A) (xs ys : List A) → length ys ≡ length xs
    → ((i : ℕ) → i < length xs → R (get_or xs i d) (get_or ys i d)) → AllZip R xs ys
zip_from R d [] [] e h = tt
zip_from R d [] (y ∷ ys) e h = absurd (omega arith)
zip_from R d (x ∷ xs) [] e h = absurd (omega arith)
zip_from R d (x ∷ xs) (y ∷ ys) e h =
    (h 0 (omega arith), zip_from R d xs ys (omega arith) (λ i below. h (suc i) (omega arith)))

-- tests that agree on each element of a list keep the same ones
filter_same : {A : Type 0} (f g : A → Bool) (xs : List A) → AllByRecursion (λ x. f x ≡ g x) xs
    → filter f xs ≡ filter g xs
filter_same f g [] h = refl
filter_same f g (x ∷ xs) h = rw (h.0, filter_same f g xs h.1) refl

-- Two operations that take as long, whose machines are free at the same times, and either both on these machines or
-- both not.
abbrev AreOne : (ℕ → ℕ) → (ℕ → ℕ) → ℕ → ℕ → Op → Op → Type 0
AreOne f g m n o p = (p.time ≡ o.time) × (g p.machine ≡ f o.machine) × ((p.machine ≡ n) ↔ (o.machine ≡ m))

module _ (f g : ℕ → ℕ) (m n : ℕ) where
  times_same : (os ps : List Op) → AllZip (AreOne f g m n) os ps → sum_by (λ p. p.time) ps ≡ sum_by (λ p. p.time) os
  times_same [] [] h = refl
  times_same [] (p ∷ ps) h = absurd h
  times_same (o ∷ os) [] h = absurd h
  times_same (o ∷ os) (p ∷ ps) h = search (rules, sum_by-cons, times_same os ps h.1)

  -- what waits of two such routes on the two machines has the same triples
  walk_same : (j k r : ℕ) (os ps : List Op) → AllZip (AreOne f g m n) os ps
      → triples_on n (waiting_from g j k r ps) ≡ triples_on m (waiting_from f j k r os)
  walk_same j k r [] [] h = refl
  walk_same j k r [] (p ∷ ps) h = absurd h
  walk_same j k r (o ∷ os) [] h = absurd h
  walk_same j k r (o ∷ os) (p ∷ ps) h =
      let head = max r (f o.machine)
      in let time : p.time ≡ o.time = h.0.0
      in let tail = times_same os ps h.1
      in let here : head ≡ max r (g p.machine) = ap (max r) (sym h.0.1)
      in let rest = walk_same j (k + 1) (head + o.time) os ps h.1
      in grind (arith, cases_eq, first_on, first_off)

-- An operation that waits is one of the instance, on its machine.
abbrev IsKnown : Shop → Waiting → Type 0
IsKnown shop x = IsOperation shop x.job x.step × (x.machine ≡ machine_of shop x.job x.step)

known_walk : (shop : Shop) (free : ℕ → ℕ) (j k r : ℕ) (os : List Op) → drop k (route_of shop j) ≡ os
    → AllByRecursion (IsKnown shop) (waiting_from free j k r os)
known_walk shop free j k r [] e = tt
known_walk shop free j k r (o ∷ os) e =
    grind (arith, front_of, known_walk shop free j (k + 1) (max r (free o.machine) + o.time) os)

known_jobs : (shop : Shop) (p : Placing) (js : List ℕ)
    → AllByRecursion (IsKnown shop) (flat_map (λ j. waiting_of shop p j) js)
known_jobs shop p [] = tt
known_jobs shop p (j ∷ js) = grind (arith, all_append, known_walk, known_jobs shop p js)

-- Placings of two instances that agree on the jobs, on what is placed, and on when the machine of each operation is
-- free.
record Agree (shop other : Shop) (p q : Placing) : Type 0 where
  steps : (j : ℕ) → q.steps j ≡ p.steps j
  ready : (j : ℕ) → q.ready j ≡ p.ready j
  begins : (j k : ℕ) → k < p.steps j → q.begins j k ≡ p.begins j k
  free : (j k : ℕ) → IsOperation shop j k → q.free (machine_of other j k) ≡ p.free (machine_of shop j k)

module _ (shop other : Shop) (same : IsRenumbered shop other) where
  operation_back : (j k : ℕ) → IsOperation other j k → IsOperation shop j k
  operation_back j k op = let a = same.steps j in omega arith

  pub renumbered_back : IsRenumbered other shop
  renumbered_back = grind (arith, operation_back)

  -- one more step of job i
  module _ (p q : Placing) (agree : Agree shop other p q) (i : ℕ) (op : IsOperation shop i (p.steps i))
      (r s : Placing) (n : IsNext shop p i r) (o : IsNext other q i s) where
    its_machine : machine_of other i (q.steps i) ≡ machine_of other i (p.steps i)
    its_machine = ap (machine_of other i) (agree.steps i)

    agree_next : Agree shop other r s
    agree_next = grind (arith, cases_eq, each_placed, its_machine)

  -- the placings of a word agree
  agree_word : (w : List ℕ) → IsWord shop w → Agree shop other (placing shop w) (placing other w)
  agree_word = snoc_induct (λ w. IsWord shop w → Agree shop other (placing shop w) (placing other w))
      (λ _. record {
        steps = λ j. refl;
        ready = same.releases;
        begins = λ j k h. refl;
        free = λ j k is. refl;
      })
      (λ w j before word.
      let first = IsWord-init shop w j word
      in let p = placing shop w
      in let q = placing other w
      in let op : IsOperation shop j (p.steps j) =
      rw ((after_word shop w first).steps j) (next_operation shop w j word)
      in rw (placing-snoc shop w j, placing-snoc other w j)
      (agree_next p q (before first) j op (place_next shop p j) (place_next other q j) (place_next-is shop p j)
      (place_next-is other q j)))

  module _ (p q : Placing) (agree : Agree shop other p q) where
    ends_same : placed_end other q ≤ placed_end shop p
    ends_same = grind (arith, placed_end-le, le-placed_end)

    -- what waits for the machine of an operation
    module _ (a b : ℕ) (op : IsOperation shop a b) where
      waiting_of_same : (j : ℕ) → triples_on (machine_of other a b) (waiting_of other q j)
          ≡ triples_on (machine_of shop a b) (waiting_of shop p j)
      waiting_of_same j =
          let n = p.steps j
          in let long = same.steps j
          in let shorter = length-drop n (route_of shop j)
          in let other_shorter = length-drop n (route_of other j)
          in rw (agree.steps j, agree.ready j)
          (walk_same p.free q.free (machine_of shop a b) (machine_of other a b) j n (p.ready j)
          (drop n (route_of shop j)) (drop n (route_of other j))
          (zip_from (AreOne p.free q.free (machine_of shop a b) (machine_of other a b)) no_op (drop n (route_of shop j))
          (drop n (route_of other j)) (omega arith)
          (λ i below.
          let is : IsOperation shop j (n + i) = omega arith
          in rw (get_or-drop n (route_of shop j) i no_op, get_or-drop n (route_of other j) i no_op)
          (same.times j (n + i), agree.free j (n + i) is, same.together j (n + i) a b is op))))

      waiting_for_same : (js : List ℕ)
          → triples_on (machine_of other a b) (flat_map (λ j. waiting_of other q j) js)
          ≡ triples_on (machine_of shop a b) (flat_map (λ j. waiting_of shop p j) js)
      waiting_for_same [] = refl
      waiting_for_same (j ∷ js) = grind (arith, triples_on-append, waiting_of_same, waiting_for_same js)

      triples_same : triples_on (machine_of other a b) (waiting other q)
          ≡ triples_on (machine_of shop a b) (waiting shop p)
      triples_same = rw same.jobs (waiting_for_same (range_with_len 0 (length shop.jobs)))

    -- a machine for which something waits has a machine of the first instance with the same triples
    machine_within : (b : ℕ) → ((m : ℕ) → m < shop.machines → one (triples_on m (waiting shop p)) ≤ b)
        → IsWithinLimits shop → (m : ℕ) → one (triples_on m (waiting other q)) ≤ b
    machine_within b each limits m =
        of_list (filter (λ (x : Waiting). eqb x.machine m) (waiting other q)) refl
        (all_filter (λ x. eqb x.machine m) (IsKnown other)
        (λ x. IsOperation other x.job x.step × (machine_of other x.job x.step ≡ m))
        (λ x h t. (h.0, sym h.1 ∙ eqb-true x.machine m t)) (waiting other q)
        (known_jobs other q (range_with_len 0 (length other.jobs))))
      where
        of_list : (ws : List Waiting) → filter (λ (x : Waiting). eqb x.machine m) (waiting other q) ≡ ws
            → AllByRecursion (λ x. IsOperation other x.job x.step × (machine_of other x.job x.step ≡ m)) ws
            → one (triples_on m (waiting other q)) ≤ b
        of_list [] e h = rw e (omega arith)
        of_list (x ∷ ws) e h = grind (arith, operation_back, triples_same)

    bound_within : IsWithinLimits shop
        → max (placed_end other q) (greatest_below other.machines (λ m. one (triples_on m (waiting other q))))
        ≤ max (placed_end shop p) (greatest_below shop.machines (λ m. one (triples_on m (waiting shop p))))
    bound_within limits =
        let most = greatest_below shop.machines (λ m. one (triples_on m (waiting shop p)))
        in let a = ends_same
        in let b = greatest_below-le (λ m. one (triples_on m (waiting other q))) other.machines most
        (λ m _. machine_within most
        (λ i known. le-greatest_below (λ i. one (triples_on i (waiting shop p))) shop.machines i known) limits m)
        in omega arith

    -- the next operation of a job with steps left
    abbrev IsOpen : ℕ → Type 0
    IsOpen j = IsOperation shop j (p.steps j)

    all_open : AllByRecursion IsOpen (open_jobs shop p)
    all_open = grind (arith, all_map, ltb-true, recursion_from_All, filter_passes)

    head_same : (j : ℕ) → IsOpen j → next_head other q j ≡ next_head shop p j
    head_same j left = rw (agree.steps j, agree.ready j, agree.free j (p.steps j) left) refl

    -- the job that is chosen
    chosen_same : (j : ℕ) (js : List ℕ) → IsOpen j → AllByRecursion IsOpen js
        → (chosen_of other q j js ≡ chosen_of shop p j js) × IsOpen (chosen_of shop p j js)
    chosen_same j [] left h = (refl, left)
    chosen_same j (i ∷ js) left h = grind (arith, chosen_same i js h.0 h.1, chosen_same j js left h.1)

    conflicts_same : (c i : ℕ) → IsOpen c → IsOpen i → conflicts_with other q c i ≡ conflicts_with shop p c i
    conflicts_same c i left is = grind (arith, head_same, eqb_tells, eq-eqb, ne_eqb)

    conflict_same : (js : List ℕ) → AllByRecursion IsOpen js → conflict_among other q js ≡ conflict_among shop p js
    conflict_same [] h = refl
    conflict_same (j ∷ js) h =
        let c = chosen_same j js h.0 h.1
        in ap (λ (x : ℕ). filter (conflicts_with other q x) (j ∷ js)) c.0
        ∙ filter_same (conflicts_with other q (chosen_of shop p j js)) (conflicts_with shop p (chosen_of shop p j js))
        (j ∷ js)
        (all_map IsOpen
        (λ i. conflicts_with other q (chosen_of shop p j js) i ≡ conflicts_with shop p (chosen_of shop p j js) i)
        (λ i left. conflicts_same (chosen_of shop p j js) i c.1 left) (j ∷ js) h)

  word_back : (w : List ℕ) → IsWord other w → IsWord shop w
  word_back w word j = let a = word j in let b = same.steps j in omega arith

  pub bound-le : (w : List ℕ) → IsWithinLimits shop → IsWord shop w → lb other w ≤ lb shop w
  bound-le w limits word = bound_within (placing shop w) (placing other w) (agree_word w word) limits

  pub conflicts_alike : (w : List ℕ) → IsWord shop w → conflict other w ≡ conflict shop w
  conflicts_alike w word = grind (arith, agree_word, conflict_same, all_open, filter_agree)

pub numbers_alike : NumbersDontMatter
numbers_alike shop other limits other_limits same =
    let back = renumbered_back shop other same
    in record {
      words = λ w. (word_back other shop back w, word_back shop other same w);
      bounds = λ w word. grind (arith, bound-le, word_back);
      conflicts = conflicts_alike shop other same;
    }
