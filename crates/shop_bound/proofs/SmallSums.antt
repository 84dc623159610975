-- Within the limits no sum of what a word leaves is large.
use Rattle.std.proofs.Common.{ℕ, zero, suc, ◌+◌, ◌*◌, ◌^◌, ◌≤◌, ◌<◌, max, List, [], ◌∷◌, length, rules, length-append}
use Rattle.std.proofs.{Common.{map, drop, get_or, eqb, arith}, lemmas.List.{get_or-drop, length-drop, length-map}}
use Rattle.std.proofs.lemmas.List.Sums.{sum_by-cons, sum_by-take-drop, length-filter, count_by-le-length}
use Rattle.std.specs.List.{AllByRecursion, filter, flat_map, range_with_len, sum_by}
use Rattle.shop_model.specs.{declared.ops.Op.Op, Limits.IsWithinLimits, Shop.{Shop, no_op, route_of, machine_of}}
use Rattle.shop_model.specs.Word.{IsWord, placing}
use Rattle.shop_model.proofs.{Greatest.greatest_below-le, Unders.after_word, WordLengths.{word_length, ready_word}}
use Rattle.shop_bound.specs.{declared.triples.Triple.Triple, Laws.AreSumsSmall, OneMachine.{one, extent}}
use Rattle.shop_bound.specs.Bound.{Waiting, waiting_from, waiting_of, waiting, triples_on, placed_end}
use Rattle.shop_bound.proofs.{Lists.{all_map, all_append, all_filter, greatest_of-le}, PlacedEnds.placed_end-le}
use Rattle.shop_bound.proofs.{ThresholdLemmas.one-le-extent, TimeSums.route_times, UnplacedTurns.length-waiting_from}

-- a head, a time and a tail of at most these
record IsSmallTriple (h t : ℕ) (x : Triple) : Type 0 where
  head : x.head ≤ h
  time : x.time ≤ 1000000000
  tail : x.tail ≤ t

AreSmall : ℕ → ℕ → List Waiting → Type 0
AreSmall h t ws = AllByRecursion (λ x. IsSmallTriple h t x.triple) ws

waiting_from-small : (free : ℕ → ℕ) (h t j k ready : ℕ) (os : List Op)
    → ((n : ℕ) → (get_or os n no_op).time ≤ 1000000000)
    → ready + sum_by (λ o. o.time) os ≤ h → ((m : ℕ) → free m + sum_by (λ o. o.time) os ≤ h)
    → sum_by (λ o. o.time) os ≤ t
    → AreSmall h t (waiting_from free j k ready os)
unfolding AreSmall
waiting_from-small free h t j k ready [] times r f s = tt
waiting_from-small free h t j k ready (o ∷ os) times r f s =
    let sums = sum_by-cons (λ (p : Op). p.time) o os
    in let a = times 0
    in let b = f o.machine
    in (
      record { head = omega arith; time = omega arith; tail = omega arith },
      waiting_from-small free h t j (k + 1) (max ready (free o.machine) + o.time) os (λ n. times (suc n)) (omega arith)
          (λ m. let c = f m in omega arith) (omega arith),
    )

module _ (shop : Shop) (limits : IsWithinLimits shop) (w : List ℕ) (word : IsWord shop w) where
  -- the greatest head is at most 10 ^ 14 + 10 ^ 11 + 10 ^ 9, and the greatest tail 10 ^ 11
  job_small : (j : ℕ) → AreSmall 100101000000000 100000000000 (waiting_of shop (placing shop w) j)
  job_small j =
      let p = placing shop w
      in let ends = ready_word shop limits w
      in let few = word_length shop w limits word
      in let whole = route_times shop limits j
      in let part = sum_by-take-drop (λ (o : Op). o.time) (route_of shop j) (p.steps j)
      in let ready = ends.ready j
      in waiting_from-small p.free 100101000000000 100000000000 j (p.steps j) (p.ready j)
      (drop (p.steps j) (route_of shop j))
      (λ n. rw get_or-drop (limits.times j (p.steps j + n))) (omega arith)
      (λ m. let free = ends.free m in omega arith) (omega arith)

  jobs_small : (js : List ℕ) → AreSmall 100101000000000 100000000000
      (flat_map (λ j. waiting_of shop (placing shop w) j) js)
  unfolding AreSmall
  jobs_small [] = tt
  jobs_small (j ∷ js) = grind (arith, all_append, job_small, jobs_small js)

  jobs_few : (a n : ℕ) → length (flat_map (λ j. waiting_of shop (placing shop w) j) (range_with_len a n)) ≤ n * 100
  jobs_few a zero = omega arith
  jobs_few a (suc n) = grind (arith, jobs_few (a + 1) n, length-waiting_from, length-drop, length-append)

  -- the extent of small triples
  extent-le : (h t n : ℕ) (ts : List Triple) → AllByRecursion (IsSmallTriple h t) ts → length ts ≤ n
      → extent ts ≤ h + n * 1000000000 + t
  extent-le h t n ts small few =
      let a = greatest_of-le (λ (x : Triple). x.head) h ts (all_map (IsSmallTriple h t) (λ x. x.head ≤ h)
      (λ x s. s.head) ts small)
      in let b = greatest_of-le (λ (x : Triple). x.tail) t ts (all_map (IsSmallTriple h t) (λ x. x.tail ≤ t)
      (λ x s. s.tail) ts small)
      in let c = times-le ts (all_map (IsSmallTriple h t) (λ x. x.time ≤ 1000000000) (λ x s. s.time) ts small)
      in omega arith
    where
      times-le : (ts : List Triple) → AllByRecursion (λ x. x.time ≤ 1000000000) ts
          → sum_by (λ x. x.time) ts ≤ length ts * 1000000000
      times-le [] h = omega arith
      times-le (x ∷ xs) h = search (rules, sum_by-cons, times-le xs h.1)

  all_triples : (P : Triple → Type 0) (ws : List Waiting) → AllByRecursion (λ x. P x.triple) ws
      → AllByRecursion P (map (λ x. x.triple) ws)
  all_triples P [] h = tt
  all_triples P (x ∷ xs) h = (h.0, all_triples P xs h.1)

  pub triples_small : (m : ℕ) → extent (triples_on m (waiting shop (placing shop w))) < 2 ^ 48
  unfolding AreSmall
  triples_small m =
      let h : ℕ = 100101000000000
      in let t : ℕ = 100000000000
      in let ws = waiting shop (placing shop w)
      in let on = filter (λ (x : Waiting). eqb x.machine m) ws
      in let small = all_filter (λ x. eqb x.machine m) (λ x. IsSmallTriple h t x.triple)
      (λ x. IsSmallTriple h t x.triple) (λ x s _. s) ws
      (jobs_small (range_with_len 0 (length shop.jobs)))
      in let few = jobs_few 0 (length shop.jobs)
      in let jobs = limits.jobs
      in let filtered = length-filter (λ (x : Waiting). eqb x.machine m) ws
      in let fewer = count_by-le-length (λ (x : Waiting). eqb x.machine m) ws
      in let mapped = length-map on (λ (x : Waiting). x.triple)
      in let a = extent-le h t 100000 (triples_on m ws) (all_triples (IsSmallTriple h t) on small) (omega arith)
      in omega arith

  pub placed_end_small : placed_end shop (placing shop w) < 2 ^ 48
  placed_end_small =
      let p = placing shop w
      in let ends = ready_word shop limits w
      in let few = word_length shop w limits word
      in let a = placed_end-le shop p 100001000000000
      (λ j k job step. let b =
      (after_word shop w word).sound.free j k step in let c = ends.free (machine_of shop j k) in omega arith)
      in omega arith

  pub sums_small : AreSumsSmall shop w
  sums_small = record {
    triples = λ m. let a = triples_small m in omega arith;
    ends = omega (arith, placed_end_small);
    bound = (let a = placed_end_small
        in let b = greatest_below-le (λ m. one (triples_on m (waiting shop (placing shop w)))) shop.machines (2 ^ 48)
        (λ m _. let c =
        triples_small m in let d = one-le-extent (triples_on m (waiting shop (placing shop w))) in omega arith)
        in omega arith);
  }
