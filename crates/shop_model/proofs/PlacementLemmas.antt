-- Placements kept as lists.
use Rattle.std.proofs.Common.{◌≡◌, ℕ, ◌<◌, ◌≤◌, ◌+◌, ◌^◌, max, List, [], ◌∷◌, ◌++◌, length, map, rules, take}
use Rattle.std.proofs.{Common.{replicate, get_or, set, ◌∙◌, ap, arith, cond, eqb}, lemmas.Bool.cases_eq}
use Rattle.std.proofs.lemmas.{Grind.{get_or_default_zero, get_or-set_at}, List.{get_or-replicate, length-replicate}}
use Rattle.std.proofs.lemmas.List.{take_more, get_or-set_other, length-set, FromFn.get_or-map-range_with_len}
use Rattle.std.{proofs.lemmas.List.{FromFn.length-map-range_with_len, Sums.sum_by-take-le}, specs.List.range_with_len}
use Rattle.shop_model.specs.{Limits.IsWithinLimits, declared.ops.Op.Op, Shop.{Shop, no_op, release_of, route_of, op_of}}
use Rattle.shop_model.specs.{Shop.{machine_of, IsOperation}, Word.{Placing, IsWord, place_next, placing}}
use Rattle.shop_model.specs.Placements.{HasEntries, HasLast, IsPlacement, PlacementState}
use Rattle.shop_model.specs.Word.{count_of, none_placed}
use Rattle.shop_model.{specs.Placements.HasNext, proofs.{Placings.place_next-is, Ends.IsOperation-job}}
use Rattle.shop_model.proofs.{Unders.{after_word, next_operation, placing-snoc}, WordLemmas.IsWord-init}
use Rattle.shop_model.proofs.WordLengths.{word_length, ready_word}

-- a beginning of a word is a word
pub IsWord-take : (shop : Shop) (w : List ℕ) (k : ℕ) → IsWord shop w → IsWord shop (take k w)
IsWord-take shop w k word i = let a = sum_by-take-le (λ x. cond (eqb x i) 1 0) w k in let b = word i in omega arith

-- one more entry is placed
pub placing-take : (shop : Shop) (w : List ℕ) (i : ℕ) → i < length w
    → placing shop (take (i + 1) w) ≡ place_next shop (placing shop (take i w)) (get_or w i 0)
placing-take shop w i below = ap (placing shop) (take_more w i 0 below) ∙ placing-snoc shop (take i w) (get_or w i 0)

-- what nothing placed looks like
pub none_is : (shop : Shop) (s : PlacementState) → s.steps ≡ replicate (length shop.jobs) 0
    → s.ready ≡ map (λ j. release_of shop j) (range_with_len 0 (length shop.jobs)) → s.free ≡ replicate shop.machines 0
    → IsPlacement shop (none_placed shop) s
none_is shop s steps ready free =
    grind (arith, length-replicate, length-map-range_with_len, get_or-replicate, get_or-map-range_with_len)

-- what is known where a word can go on with j
pub record IsAboutToPlace (shop : Shop) (j : ℕ) (s : PlacementState) : Type 0 where
  pub job : j < length shop.jobs
  pub entries : HasEntries shop s
  pub operation : IsOperation shop j (get_or s.steps j 0)
  pub ready : get_or s.ready j 0 ≤ 1000000000000000
  pub free : (m : ℕ) → m < shop.machines → get_or s.free m 0 ≤ 1000000000000000

pub about_to_place : (shop : Shop) (j : ℕ) (s : PlacementState) → IsWithinLimits shop → HasNext shop j s
    → IsAboutToPlace shop j s
about_to_place shop j s limits next =
    let w = next.word
    in let word = IsWord-init shop w j next.fits
    in let operation = next_operation shop w j next.fits
    in let job = IsOperation-job shop j (count_of j w) operation
    in let steps = next.placed.steps j job
    in let counts = (after_word shop w word).steps j
    in let few = word_length shop w limits word
    in let small = ready_word shop limits w
    in record {
      job = job;
      entries = next.placed.entries;
      operation = rw (steps, counts) operation;
      ready = (let a = small.ready j in let b = next.placed.ready j job in omega arith);
      free = λ m h. (let a = small.free m in let b = next.placed.free m h in omega arith);
    }

pub job_of_next : (shop : Shop) (j : ℕ) (s : PlacementState) → HasNext shop j s → j < length shop.jobs
job_of_next shop j s next = IsOperation-job shop j (count_of j next.word) (next_operation shop next.word j next.fits)

-- the entry that comes next can be placed
pub next_of_word : (shop : Shop) (w : List ℕ) → IsWord shop w → (i : ℕ) → i < length w → (s : PlacementState)
    → IsPlacement shop (placing shop (take i w)) s → HasNext shop (get_or w i 0) s
next_of_word shop w word i below s is = grind (arith, take_more, IsWord-take)

-- the same of a job that was read
pub placing-job : (shop : Shop) (w : List ℕ) (i n j : ℕ) → i < n → n ≡ length w → j ≡ get_or w i 0
    → placing shop (take (i + 1) w) ≡ place_next shop (placing shop (take i w)) j
placing-job shop w i n j below e read = rw read (placing-take shop w i (omega arith))

pub next_of_job : (shop : Shop) (w : List ℕ) → IsWord shop w → (i n j : ℕ) → i < n → n ≡ length w → j ≡ get_or w i 0
    → (s : PlacementState) → IsPlacement shop (placing shop (take i w)) s → HasNext shop j s
next_of_job shop w word i n j below e read s is = rw read (next_of_word shop w word i (omega arith) s is)

-- what was read, for one more step to be placed: its number, the operation, and when its job and its machine are ready
pub record AreReads (shop : Shop) (j : ℕ) (s : PlacementState) (k : ℕ) (o : Op) (r f : ℕ) : Type 0 where
  pub step : k ≡ get_or s.steps j 0
  pub operation : o ≡ op_of shop j k
  pub machine : o.machine < shop.machines
  pub ready : r ≡ get_or s.ready j 0
  pub free : f ≡ get_or s.free o.machine 0

pub read_is : (xs : List ℕ) (i x : ℕ) → i < length xs → x ≡ get_or xs i x → x ≡ get_or xs i 0
read_is xs i x below read = read ∙ get_or_default_zero xs i x below

pub reads : (shop : Shop) (j : ℕ) (s : PlacementState) → IsWithinLimits shop → IsAboutToPlace shop j s
    → (route : List Op) → route ≡ route_of shop j → (k r f : ℕ) → k ≡ get_or s.steps j k → r ≡ get_or s.ready j r
    → f ≡ get_or s.free (get_or route k no_op).machine f → AreReads shop j s k (get_or route k no_op) r f
reads shop j s limits next route e k r f read_k read_r read_f = grind (arith, read_is)

-- the step is one of the route, which is short
pub step_read : (shop : Shop) (j : ℕ) (s : PlacementState) → IsWithinLimits shop → IsAboutToPlace shop j s
    → (route : List Op) → route ≡ route_of shop j → (k : ℕ) → k ≡ get_or s.steps j k → (k < length route) × (k < 100)
step_read shop j s limits next route e k read = grind (arith, read_is)

-- the sum fits
pub finish_small : (shop : Shop) (j : ℕ) (s : PlacementState) → IsWithinLimits shop → IsAboutToPlace shop j s
    → (k : ℕ) (o : Op) (r f : ℕ) → AreReads shop j s k o r f → max r f + o.time < 2 ^ 64
finish_small shop j s limits next k o r f reads = grind arith

-- the lists after the next step of j was written into them
pub placed_by_reads : (shop : Shop) (j : ℕ) (s : PlacementState) → j < length shop.jobs → (k : ℕ) (o : Op) (r f : ℕ)
    → AreReads shop j s k o r f
    → (begin : ℕ) → begin ≡ max r f → (p : Placing) → IsPlacement shop p s
    → IsPlacement shop (place_next shop p j) (record {
      steps = set s.steps j (k + 1);
      ready = set s.ready j (begin + o.time);
      free = set s.free o.machine (begin + o.time);
    })
placed_by_reads shop j s job k o r f reads begin e p is = search rules

-- when the next step of j begins
pub start_by_reads : (shop : Shop) (j : ℕ) (s : PlacementState) → j < length shop.jobs → (k : ℕ) (o : Op) (r f : ℕ)
    → AreReads shop j s k o r f → (begin : ℕ) → begin ≡ max r f → (p : Placing) → IsPlacement shop p s
    → begin ≡ (place_next shop p j).begins j (p.steps j)
start_by_reads shop j s job k o r f reads begin e p is = grind (arith, place_next-is, job)

-- what is known where the last step of j can be taken back
pub record HasStepPlaced (shop : Shop) (j : ℕ) (s : PlacementState) : Type 0 where
  pub job : j < length shop.jobs
  pub entries : HasEntries shop s
  pub some : 0 < get_or s.steps j 0
  pub operation : get_or s.steps j 0 ≤ length (route_of shop j)

pub step_placed : (shop : Shop) (j : ℕ) (s : PlacementState) → HasLast shop j s → HasStepPlaced shop j s
step_placed shop j s last =
    let w = last.word
    in let operation = next_operation shop w j last.fits
    in let job = IsOperation-job shop j (count_of j w) operation
    in let before = (after_word shop w (IsWord-init shop w j last.fits)).steps j
    in let steps = last.placed.steps j job
    in let here = (place_next-is shop (placing shop w) j).steps_here
    in let same : (placing shop (w ++ j ∷ [])).steps j ≡ (place_next shop (placing shop w) j).steps j =
    ap (λ (p : Placing). p.steps j) (placing-snoc shop w j)
    in record {
      job = job;
      entries = last.placed.entries;
      some = omega arith;
      operation = omega arith;
    }

-- the step is one of the route, and its operation is on a machine
pub last_read : (shop : Shop) (j : ℕ) (s : PlacementState) → HasStepPlaced shop j s → (route : List Op)
    → route ≡ route_of shop j → (n : ℕ) → n ≡ get_or s.steps j n
    → (n ≡ get_or s.steps j 0) × (0 < n) × (n ≤ length route)
last_read shop j s has route e n read = grind (arith, read_is)

-- the lists after it was taken back
pub taken_back : (shop : Shop) (j : ℕ) (s : PlacementState) → HasStepPlaced shop j s → (k m ready free : ℕ)
    → k + 1 ≡ get_or s.steps j 0 → m ≡ machine_of shop j k → m < shop.machines → (p : Placing)
    → IsPlacement shop (place_next shop p j) s → ready ≡ p.ready j → free ≡ p.free (machine_of shop j (p.steps j))
    → IsPlacement shop p (record {
      steps = set s.steps j k;
      ready = set s.ready j ready;
      free = set s.free m free;
    })
taken_back shop j s has k m ready free step on_machine known p is is_ready is_free =
    grind (arith, place_next-is, length-set, cases_eq, get_or-set_at, get_or-set_other)
