-- Each step of a job has one slot, and the slots of a machine are at most its operations.
use Rattle.std.proofs.Common.{◌≡◌, ℕ, zero, suc, ◌+◌, ◌*◌, ◌≤◌, ◌<◌, List, [], ◌∷◌, length, map, rules, get_or, sym}
use Rattle.std.proofs.{Common.{arith, eqb}, lemmas.List.{length-map, length-append, Elements.All-from_recursion}}
use Rattle.std.proofs.lemmas.List.{Sums.{length-filter, count_by-le-length}, Sorted.length_permutation}
use Rattle.std.{proofs.lemmas.List.{Sorted.IsPermutation-sym, FromFn.length-range_with_len}, specs.List.AllByRecursion}
use Rattle.std.specs.List.{filter, flat_map, range_with_len}
use Rattle.shop_model.specs.{Limits.IsWithinLimits, Shop.{Shop, no_op, route_of}}
use Rattle.shop_model.proofs.SwappedPairs.{AllPairs-permutation}
use Rattle.shop_layout.specs.{declared.slots.Slot.Slot, Slots.{AreSlotsOf, operations_in, operations_on, slot_at}}
use Rattle.shop_layout.{specs.inner.Layings.AreApart, proofs.FlatLists.{all_flat, all_mapped, range_within}}
use Rattle.shop_bound.proofs.Lists.{Pairwise, all_map, pairwise_append, pairwise_filter}

-- not the same step of a job
pub record AreOther (s t : Slot) : Type 0 where
  pub other : s.job ≡ t.job → s.step ≡ t.step → ⊥

pairs_from : {A : Type 0} (R : A → A → Type 0) (xs : List A) → Pairwise R xs → (p q : ℕ) (d : A) → p < q
    → q < length xs → R (get_or xs p d) (get_or xs q d)
pairs_from R [] h p q d l b = absurd (omega arith)
pairs_from R (x ∷ xs) h p zero d l b = absurd (omega arith)
pairs_from R (x ∷ xs) h zero (suc q) d l b = All-from_recursion (R x) xs h.0 q d (omega arith)
pairs_from R (x ∷ xs) h (suc p) (suc q) d l b = pairs_from R xs h.1 p q d (omega arith) (omega arith)

-- numbers that rise
range_rises : (a n : ℕ) → Pairwise (λ x y. x < y) (range_with_len a n)
range_rises a zero = tt
range_rises a (suc n) = grind (arith, all_map, range_within, range_rises (a + 1) n)

pairs_mapped : {A B : Type 0} (R : A → A → Type 0) (S : B → B → Type 0) (g : A → B)
    → ((x y : A) → R x y → S (g x) (g y)) → (xs : List A) → Pairwise R xs → Pairwise S (map g xs)
pairs_mapped R S g f [] h = tt
pairs_mapped R S g f (x ∷ xs) h = grind (arith, all_mapped, all_map, pairs_mapped R S g f xs h.1)

all_of : {A B : Type 0} (Q : B → Type 0) (g : A → B) → ((x : A) → Q (g x)) → (xs : List A)
    → AllByRecursion Q (map g xs)
all_of Q g f [] = tt
all_of Q g f (x ∷ xs) = (f x, all_of Q g f xs)

module _ (shop : Shop) (m : ℕ) where
  of_job : (j : ℕ) → Pairwise AreOther (operations_in (route_of shop j) m j)
  of_job j = pairs_mapped (λ x y. x < y) AreOther (slot_at (route_of shop j) j)
      (λ x y l. record { other = λ e f. absurd (omega arith) })
      (filter (λ k. eqb (get_or (route_of shop j) k no_op).machine m) (range_with_len 0 (length (route_of shop j))))
      (pairwise_filter (λ k. eqb (get_or (route_of shop j) k no_op).machine m) (λ x y. x < y)
      (range_with_len 0 (length (route_of shop j))) (range_rises 0 (length (route_of shop j))))

  job_is : (j : ℕ) → AllByRecursion (λ s. s.job ≡ j) (operations_in (route_of shop j) m j)
  job_is j = search (rules, all_of)

  of_jobs : (a n : ℕ)
      → Pairwise AreOther (flat_map (λ j. operations_in (route_of shop j) m j) (range_with_len a n))
  of_jobs a zero = tt
  of_jobs a (suc n) =
      let f = λ (j : ℕ). operations_in (route_of shop j) m j
      in pairwise_append AreOther (f a) (flat_map f (range_with_len (a + 1) n)) (of_job a) (of_jobs (a + 1) n)
      (all_map (λ s. s.job ≡ a) (λ s. AllByRecursion (AreOther s) (flat_map f (range_with_len (a + 1) n)))
      (λ s e. all_flat (AreOther s) f (range_with_len (a + 1) n)
      (all_map (λ j. (a + 1 ≤ j) × (j < a + 1 + n)) (λ j. AllByRecursion (AreOther s) (f j))
      (λ j h. all_map (λ t. t.job ≡ j) (AreOther s)
      (λ t g. record { other = λ same _. (let b = h.0 in absurd (omega arith)) }) (f j) (job_is j))
      (range_with_len (a + 1) n) (range_within (a + 1) n)))
      (f a) (job_is a))

pub slots_apart : (shop : Shop) (m : ℕ) (slots : List Slot) → AreSlotsOf shop m slots → AreApart slots
slots_apart shop m slots are =
    let all = AllPairs-permutation AreOther (λ x y o. record { other = λ e f. o.other (sym e) (sym f) })
    slots (operations_on shop m) (IsPermutation-sym (operations_on shop m) slots are.same)
    (pairs_from AreOther (operations_on shop m) (of_jobs shop m 0 (length shop.jobs)))
    in λ p q d l b e f. (all p q d l b).other e f

-- a machine has a hundred operations of each job at most
operations_few : (shop : Shop) (m : ℕ) → ((j : ℕ) → length (route_of shop j) ≤ 100) → (a n : ℕ)
    → length (flat_map (λ j. operations_in (route_of shop j) m j) (range_with_len a n)) ≤ n * 100
operations_few shop m routes a zero = omega arith
operations_few shop m routes a (suc n) =
    grind (
      arith,
      length-append,
      length-map,
      length-filter,
      count_by-le-length,
      length-range_with_len,
      operations_few
          shop m routes (a + 1) n,
    )

pub slots_few : (shop : Shop) → IsWithinLimits shop → (m : ℕ) (slots : List Slot) → AreSlotsOf shop m slots
    → length slots ≤ 100000
slots_few shop limits m slots are = grind (arith, length_permutation, operations_few)
