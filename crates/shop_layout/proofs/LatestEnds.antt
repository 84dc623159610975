-- No operation ends later than the latest release and all times together.
use Rattle.std.proofs.Common.{◌≡◌, ℕ, zero, suc, ◌+◌, ◌-◌, ◌≤◌, ◌<◌, List, length, take, ap, refl, arith}
use Rattle.std.{proofs.lemmas.{Bool.cases_eq, List.{take_more, Sums.{sum_by_push, sum_by-take-le}}}, specs.List.sum_by}
use Rattle.shop_model.specs.{declared.ops.Op.Op, Word.{Placing, IsWord, placing, place_next}}
use Rattle.shop_model.specs.Shop.{Shop, no_op, route_of, release_of, machine_of, time_of, IsOperation}
use Rattle.shop_model.proofs.{Ends.IsOperation-job, Greatest.le-greatest_below, Placings.{IsNext, place_next-is}}
use Rattle.shop_model.proofs.{Unders.{placing-snoc, next_operation, after_word}, WordLemmas.{snoc_induct, IsWord-init}}
use Rattle.shop_bound.{specs.Heads.{head_of, ready_after}, proofs.HeadTurns.{ready_first, ready_more}}
use Rattle.shop_layout.specs.HeadLimits.{total_before, latest_release, latest_end}

-- the times of the first k steps of job i
abbrev begun : Shop → ℕ → ℕ → ℕ
begun shop i k = sum_by (λ o. o.time) (take k (route_of shop i))

begun_more : (shop : Shop) (i k : ℕ) → IsOperation shop i k → begun shop i (k + 1) ≡ begun shop i k + time_of shop i k
begun_more shop i k op = grind (arith, take_more (route_of shop i) k no_op op, sum_by_push)

begun-le : (shop : Shop) (i k : ℕ) → begun shop i k ≤ sum_by (λ o. o.time) (route_of shop i)
begun-le shop i k = sum_by-take-le (λ (o : Op). o.time) (route_of shop i) k

-- the times of all placed steps of the first n jobs
placed_before : Shop → Placing → ℕ → ℕ
placed_before shop p zero = 0
placed_before shop p (suc n) = placed_before shop p n + begun shop n (p.steps n)

module _ (shop : Shop) (p : Placing) (j : ℕ) (q : Placing) (n : IsNext shop p j q) (op : IsOperation shop j (p.steps j))
  where
    placed_below : (i : ℕ) → i ≤ j → placed_before shop q i ≡ placed_before shop p i
    unfolding placed_before
    placed_below zero h = refl
    placed_below (suc i) h = grind (arith, placed_below i (omega arith))

    placed_past : (i : ℕ) → j < i → placed_before shop q i ≡ placed_before shop p i + time_of shop j (p.steps j)
    unfolding placed_before
    placed_past zero h = absurd (omega arith)
    placed_past (suc i) h = grind (arith, cases_eq, placed_below, begun_more, placed_past i)

-- what is placed of the first jobs, and the times of further steps of one of them, are no more than all
placed-le : (shop : Shop) (p : Placing) (n : ℕ) → placed_before shop p n ≤ total_before shop n
unfolding placed_before
placed-le shop p zero = omega arith
placed-le shop p (suc n) = let a = placed-le shop p n in let b = begun-le shop n (p.steps n) in omega arith

placed_and_more : (shop : Shop) (p : Placing) (j k n : ℕ) → j < n
    → placed_before shop p n + begun shop j k ≤ total_before shop n + begun shop j (p.steps j)
unfolding placed_before
placed_and_more shop p j k zero h = absurd (omega arith)
placed_and_more shop p j k (suc n) h = grind (arith, cases_eq, placed-le, begun-le, placed_and_more shop p j k n)

-- no job and no machine is ready later than the latest release and the times of what is placed
record AreInTime (shop : Shop) (p : Placing) : Type 0 where
  ready : (j : ℕ) → j < length shop.jobs → p.ready j ≤ latest_release shop + placed_before shop p (length shop.jobs)
  free : (m : ℕ) → p.free m ≤ latest_release shop + placed_before shop p (length shop.jobs)

in_time_next : (shop : Shop) (p : Placing) (j : ℕ) (q : Placing) → IsNext shop p j q → IsOperation shop j (p.steps j)
    → AreInTime shop p → AreInTime shop q
in_time_next shop p j q n op t = grind (arith, IsOperation-job, placed_past, cases_eq)

in_time : (shop : Shop) (w : List ℕ) → IsWord shop w → AreInTime shop (placing shop w)
in_time shop = snoc_induct (λ w. IsWord shop w → AreInTime shop (placing shop w))
    (λ _. record {
      ready = λ j known. (let a = le-greatest_below (release_of shop) (length shop.jobs) j known in omega arith);
      free = λ m. omega arith;
    })
    (λ w j before word. rw placing-snoc
    (in_time_next shop (placing shop w) j (place_next shop (placing shop w) j) (place_next-is shop (placing shop w) j)
    (rw (after_word shop w (IsWord-init shop w j word)).steps (next_operation shop w j word))
    (before (IsWord-init shop w j word))))

begun_rises : (shop : Shop) (i a d k : ℕ) → a + d ≡ k → k ≤ length (route_of shop i) → begun shop i a ≤ begun shop i k
begun_rises shop i a zero k e within = grind arith
begun_rises shop i a (suc d) k e within =
    let l = a + d
    in let before = begun_rises shop i a d l refl (omega arith)
    in let more = begun_more shop i l (omega arith)
    in let f : begun shop i k ≡ begun shop i (l + 1) = ap (begun shop i) (omega arith) in omega arith

module _ (shop : Shop) (p : Placing) (t : AreInTime shop p) (j : ℕ) (job : j < length shop.jobs) where
  -- a job is ready for a step no later than that and the times of its steps before it
  ready_in_time : (d k : ℕ) → p.steps j + d ≡ k → k ≤ length (route_of shop j)
      → ready_after shop p j (k - p.steps j) + begun shop j (p.steps j)
      ≤ latest_release shop + placed_before shop p (length shop.jobs) + begun shop j k
  ready_in_time zero k e within = grind (arith, ready_first)
  ready_in_time (suc d) k e within =
      let l = p.steps j + d
      in let f : k ≡ l + 1 = omega arith
      in let before = ready_in_time d l refl (omega arith)
      in let more = ready_more shop p j l (omega arith)
      in let g : ready_after shop p j (k - p.steps j) ≡ ready_after shop p j (l + 1 - p.steps j) =
      ap (λ (x : ℕ). ready_after shop p j (x - p.steps j)) f
      in let h : begun shop j k ≡ begun shop j (l + 1) = ap (begun shop j) f
      in let times = begun_more shop j l (omega arith)
      in let free = t.free (machine_of shop j l)
      in let grow = begun_rises shop j (p.steps j) d l refl (omega arith)
      in omega arith

pub latest_end_is : (shop : Shop) (w : List ℕ) → IsWord shop w → (j k : ℕ) → IsOperation shop j k
    → (placing shop w).steps j ≤ k → head_of shop (placing shop w) j k + time_of shop j k ≤ latest_end shop
latest_end_is shop w word j k op opened =
    let p = placing shop w
    in let job = IsOperation-job shop j k op
    in let t = in_time shop w word
    in let a = ready_in_time shop p t j job (k - p.steps j) k (omega arith) (omega arith)
    in let b = begun_more shop j k op
    in let d = placed_and_more shop p j (k + 1) (length shop.jobs) job
    in let f = t.free (machine_of shop j k)
    in let g = begun_rises shop j (p.steps j) (k - p.steps j) k (omega arith) (omega arith)
    in omega arith
