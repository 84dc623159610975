-- The operations that a word leaves, as a walk along the routes lists them.
use Rattle.std.proofs.Common.{◌≡◌, ◌≢◌, ℕ, zero, suc, ◌+◌, ◌-◌, ◌≤◌, ◌<◌, max, List, [], ◌∷◌, ◌++◌, length, take, drop}
use Rattle.std.proofs.Common.{get_or, refl, sym, ◌∙◌, ap, arith, append_assoc, add-one, add-zero, zero-add, eq-eqb}
use Rattle.std.proofs.{lemmas.Bool.{cases_eq, ne_eqb}, lemmas.List.Elements.filter-append, lemmas.Grind.flat_map-append}
use Rattle.std.proofs.lemmas.List.{append-nil, take_all, drop_more, get_or-drop, length-drop, map-append}
use Rattle.std.specs.List.{flat_map, range_with_len, sum_by}
use Rattle.shop_model.specs.{declared.ops.Op.Op, Limits.IsWithinLimits, Shop.{Shop, no_op, route_of}, Word.Placing}
use Rattle.shop_model.{specs.Placements.{PlacementState, IsPlacement}, proofs.Unders.after_word}
use Rattle.shop_bound.specs.{declared.triples.Triple.Triple, Bound.{Waiting, waiting_from, waiting_of, triples_on}}
use Rattle.shop_bound.specs.{Heads.{tail_in, AreTimesSmall}, inner.{PlacedWords.IsOfWord, Unplaced.unplaced_from}}
use Rattle.shop_bound.{specs.inner.Unplaced.CanGoOn, proofs.{HeadTurns.ends_of_word, TimeSums.sum_by-le-each}}

-- the first of a route, where it is on the machine and where it isn't
pub first_on : (m : ℕ) (free : ℕ → ℕ) (j k ready : ℕ) (o : Op) (os : List Op) (head : ℕ)
    → head ≡ max ready (free o.machine) → o.machine ≡ m
    → triples_on m (waiting_from free j k ready (o ∷ os))
    ≡ (record { head = head; time = o.time; tail = sum_by (λ p. p.time) os })
    ∷ triples_on m (waiting_from free j (k + 1) (head + o.time) os)
first_on m free j k ready o os head is on = grind (arith, eq-eqb)

pub first_off : (m : ℕ) (free : ℕ → ℕ) (j k ready : ℕ) (o : Op) (os : List Op) (head : ℕ)
    → head ≡ max ready (free o.machine) → o.machine ≢ m
    → triples_on m (waiting_from free j k ready (o ∷ os))
    ≡ triples_on m (waiting_from free j (k + 1) (head + o.time) os)
first_off m free j k ready o os head is off = grind (arith, ne_eqb)

-- only the machines of the rest of the route matter, and not where it stands
pub unplaced-same : (m : ℕ) (f g : ℕ → ℕ) (i j k l ready : ℕ) (os : List Op)
    → ((n : ℕ) → n < length os → f (get_or os n no_op).machine ≡ g (get_or os n no_op).machine)
    → triples_on m (waiting_from f i k ready os) ≡ triples_on m (waiting_from g j l ready os)
unplaced-same m f g i j k l ready [] h = refl
unplaced-same m f g i j k l ready (o ∷ os) h =
    let head = max ready (f o.machine)
    in let here : head ≡ max ready (g o.machine) = ap (max ready) (h 0 (omega arith))
    in let rest = unplaced-same m f g i j (k + 1) (l + 1) (head + o.time) os (λ n below. h (suc n) (omega arith))
    in grind (arith, here, rest, cases_eq o.machine m, first_on, first_off)

range_last : (a j : ℕ) → range_with_len a (suc j) ≡ range_with_len a j ++ (a + j) ∷ []
range_last a zero = ap (λ (x : ℕ). x ∷ []) (sym (add-zero a))
range_last a (suc j) = grind (arith, range_last (a + 1) j)

pub range_more : (j : ℕ) → range_with_len 0 (j + 1) ≡ range_with_len 0 j ++ j ∷ []
range_more j = rw add-one (range_last 0 j ∙ ap (λ (x : ℕ). range_with_len 0 j ++ x ∷ []) (zero-add j))

-- one operation more is passed, and added where it is on the machine
module _ (m : ℕ) (free : List ℕ) (ready : ℕ) (rest : List Op) (k : ℕ) (below : k < length rest)
    (xs ys whole : List Triple) (head : ℕ) (is_head : head ≡ max ready (get_or free (get_or rest k no_op).machine 0))
    (before : xs ++ unplaced_from m free ready (drop k rest) ≡ whole) where
  front : drop k rest ≡ get_or rest k no_op ∷ drop (k + 1) rest
  front = drop_more rest k no_op below

  later : triples_on m (waiting_from (λ i. get_or free i 0) 0 1 (head + (get_or rest k no_op).time) (drop (k + 1) rest))
      ≡ unplaced_from m free (head + (get_or rest k no_op).time) (drop (k + 1) rest)
  later = grind (arith, unplaced-same)

  pub added_on : (get_or rest k no_op).machine ≡ m → (tail : ℕ) → tail ≡ tail_in rest k
      → ys ≡ xs ++ (record { head = head; time = (get_or rest k no_op).time; tail = tail }) ∷ []
      → ys ++ unplaced_from m free (head + (get_or rest k no_op).time) (drop (k + 1) rest) ≡ whole
  added_on on tail is_tail pushed = grind (arith, front, first_on, later, append_assoc)

  pub added_off : (get_or rest k no_op).machine ≢ m → ys ≡ xs
      → ys ++ unplaced_from m free (head + (get_or rest k no_op).time) (drop (k + 1) rest) ≡ whole
  added_off off same = grind (arith, front, first_off, later)

-- as many steps are placed as the route has, or fewer
pub steps_within : (shop : Shop) (s : PlacementState) → IsOfWord shop s → (j : ℕ) → j < length shop.jobs
    → (n : ℕ) → n ≡ get_or s.steps j 0 → (route : List Op) → route ≡ route_of shop j → n ≤ length route
steps_within shop s of j job n is route e = grind (arith, after_word shop of.word of.fits)

pub can_go_on : (shop : Shop) → IsWithinLimits shop → (s : PlacementState) → IsOfWord shop s → (j : ℕ)
    → j < length shop.jobs
    → (free : List ℕ) → free ≡ s.free → (ready : ℕ) → ready ≡ get_or s.ready j 0
    → (rest : List Op) → rest ≡ drop (get_or s.steps j 0) (route_of shop j) → CanGoOn free ready rest
can_go_on shop limits s of j job free is_free ready is_ready rest e =
    grind (arith, ends_of_word shop limits s of, get_or-drop, length-drop)

-- what is added of a job is what waits of it
pub unplaced_of_job : (m : ℕ) (shop : Shop) → IsWithinLimits shop → (s : PlacementState) → (j : ℕ)
    → j < length shop.jobs
    → (free : List ℕ) → free ≡ s.free → (ready : ℕ) → ready ≡ get_or s.ready j 0
    → (rest : List Op) → rest ≡ drop (get_or s.steps j 0) (route_of shop j) → (p : Placing) → IsPlacement shop p s
    → unplaced_from m free ready rest ≡ triples_on m (waiting_of shop p j)
unplaced_of_job m shop limits s j job free is_free ready is_ready rest e p is =
    grind (arith, unplaced-same, get_or-drop)

-- what waits of one job more
waiting_more : (shop : Shop) (p : Placing) (j : ℕ)
    → flat_map (λ i. waiting_of shop p i) (range_with_len 0 (j + 1))
    ≡ flat_map (λ i. waiting_of shop p i) (range_with_len 0 j) ++ waiting_of shop p j
waiting_more shop p j = grind (arith, range_more, flat_map-append, append-nil)

pub length-waiting_from : (free : ℕ → ℕ) (j k ready : ℕ) (os : List Op)
    → length (waiting_from free j k ready os) ≡ length os
length-waiting_from free j k ready [] = refl
length-waiting_from free j k ready (o ∷ os) =
    ap suc (length-waiting_from free j (k + 1) (max ready (free o.machine) + o.time) os)

pub triples_on-append : (m : ℕ) (xs ys : List Waiting) → triples_on m (xs ++ ys) ≡ triples_on m xs ++ triples_on m ys
triples_on-append m xs ys = grind (arith, filter-append, map-append)

-- one job more is listed
pub job_listed : (m : ℕ) (shop : Shop) (p : Placing) (j : ℕ) (xs ys more : List Triple)
    → xs ≡ triples_on m (flat_map (λ i. waiting_of shop p i) (range_with_len 0 j))
    → more ≡ triples_on m (waiting_of shop p j)
    → ys ≡ xs ++ more → ys ≡ triples_on m (flat_map (λ i. waiting_of shop p i) (range_with_len 0 (j + 1)))
job_listed m shop p j xs ys more before here added = grind (arith, triples_on-append, waiting_more)

pub rest_small : (free : List ℕ) (ready : ℕ) (rest : List Op) → CanGoOn free ready rest → AreTimesSmall rest
rest_small free ready rest can =
    let a = sum_by-le-each (λ (o : Op). o.time) no_op 1000000000 rest can.times in let b = can.short in omega arith

-- the slice of a route from step n on
pub rest_is : (route whole : List Op) (n m : ℕ) → route ≡ whole → n ≡ m
    → take (length route - n) (drop n route) ≡ drop m whole
rest_is route whole n m e f = grind (arith, take_all, length-drop)
