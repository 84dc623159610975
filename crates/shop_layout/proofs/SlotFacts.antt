-- The slots of a machine are its operations, each of them once at least.
use Rattle.std.proofs.Common.{◌≡◌, ℕ, zero, suc, ◌+◌, ◌≤◌, ◌<◌, inl, inr, Bool, true, List, [], ◌∷◌, rules, length, map}
use Rattle.std.proofs.{Common.{get_or, refl, arith, eqb}, lemmas.Bool.{cases_Bool, eq-eqb, eqb-true}}
use Rattle.std.proofs.{lemmas.List.{length-map, get_or-map}, lemmas.List.Sorted.{All-permutation, Contains-permutation}}
use Rattle.std.proofs.lemmas.List.FromFn.{get_or-range_with_len, length-range_with_len}
use Rattle.std.proofs.lemmas.List.Elements.{All-from_recursion, Contains-append_left, Contains-append_right}
use Rattle.std.specs.List.{AllByRecursion, All, Contains, filter, flat_map, range_with_len}
use Rattle.shop_model.specs.Shop.{Shop, route_of, machine_of, IsOperation}
use Rattle.shop_layout.specs.{declared.slots.Slot.Slot, Slots.{slot_at, operations_in, operations_on, AreSlotsOf}}
use Rattle.shop_bound.proofs.Lists.{all_map, all_filter}
use Rattle.shop_layout.proofs.FlatLists.{all_flat, all_mapped, range_within}

-- an operation of machine m
pub record IsOperationOn (shop : Shop) (m : ℕ) (s : Slot) : Type 0 where
  pub job : s.job < length shop.jobs
  pub step : s.step < length (route_of shop s.job)
  pub machine : machine_of shop s.job s.step ≡ m
  pub is : s ≡ slot_at (route_of shop s.job) s.job s.step

operations_are : (shop : Shop) (m : ℕ) → AllByRecursion (IsOperationOn shop m) (operations_on shop m)
operations_are shop m =
    all_flat (IsOperationOn shop m) (λ j. operations_in (route_of shop j) m j) (range_with_len 0 (length shop.jobs))
    (all_map (λ j. (0 ≤ j) × (j < 0 + length shop.jobs))
    (λ j. AllByRecursion (IsOperationOn shop m) (operations_in (route_of shop j) m j))
    (λ j h. (let b = h.1 in of_job j (omega arith)))
    (range_with_len 0 (length shop.jobs)) (range_within 0 (length shop.jobs)))
  where
    of_job : (j : ℕ) → j < length shop.jobs
        → AllByRecursion (IsOperationOn shop m) (operations_in (route_of shop j) m j)
    of_job j job =
        let on : ℕ → Bool = λ k. eqb (machine_of shop j k) m
        in all_mapped (IsOperationOn shop m) (slot_at (route_of shop j) j)
        (filter on (range_with_len 0 (length (route_of shop j))))
        (all_filter on (λ k. (0 ≤ k) × (k < 0 + length (route_of shop j)))
        (λ k. IsOperationOn shop m (slot_at (route_of shop j) j k))
        (λ k h e. (let b = h.1 in record {
          job = job;
          step = omega arith;
          machine = eqb-true (machine_of shop j k) m e;
          is = refl;
        }))
        (range_with_len 0 (length (route_of shop j))) (range_within 0 (length (route_of shop j))))

pub slots_are_operations : (shop : Shop) (m : ℕ) (slots : List Slot) → AreSlotsOf shop m slots
    → All (IsOperationOn shop m) slots
slots_are_operations shop m slots are = search (rules, All-permutation, All-from_recursion, operations_are)

-- an element of a list stands in what is made of the list
module _ {A : Type 0} where
  contains_later : (y : A) (xs : List A) (x : A) → Contains xs x → Contains (y ∷ xs) x
  contains_later y xs x c = (suc c.0, (let b = c.1 in omega arith), c.2)

  filtered_at : (test : A → Bool) (xs : List A) (x : A) → test x ≡ true → (k : ℕ) → k < length xs
      → get_or xs k x ≡ x → Contains (filter test xs) x
  filtered_at test [] x e k l is = absurd (omega arith)
  filtered_at test (y ∷ ys) x e zero l is = grind arith
  filtered_at test (y ∷ ys) x e (suc k) l is =
      let rest = filtered_at test ys x e k (omega arith) is
      in elim (cases_Bool (test y)) [
        | inl f ↦ rw f (contains_later y (filter test ys) x rest)
        | inr f ↦ rw f rest
      ]

  flat_at : (f : ℕ → List A) (x : A) (j : ℕ) → Contains (f j) x → (js : List ℕ) → (k : ℕ) → k < length js
      → get_or js k j ≡ j → Contains (flat_map f js) x
  flat_at f x j c [] k l is = absurd (omega arith)
  flat_at f x j c (i ∷ js) zero l is = grind (arith, Contains-append_left)
  flat_at f x j c (i ∷ js) (suc k) l is = grind (arith, Contains-append_right, flat_at f x j c js k)

mapped_at : {A B : Type 0} (g : A → B) (xs : List A) (x : A) → Contains xs x → Contains (map g xs) (g x)
mapped_at g xs x c = grind (arith, length-map, get_or-map)

range_at : (n k : ℕ) → k < n → Contains (range_with_len 0 n) k
range_at n k h = grind (arith, length-range_with_len 0 n, get_or-range_with_len 0 n k k h)

pub slots_are_all : (shop : Shop) (m : ℕ) (slots : List Slot) → AreSlotsOf shop m slots → (j k : ℕ)
    → j < length shop.jobs → IsOperation shop j k → machine_of shop j k ≡ m
    → Contains slots (slot_at (route_of shop j) j k)
slots_are_all shop m slots are j k job op here =
    let on : ℕ → Bool = λ k. eqb (machine_of shop j k) m
    in let steps = range_with_len 0 (length (route_of shop j))
    in let step = range_at (length (route_of shop j)) k op
    in let jobs = range_at (length shop.jobs) j job
    in let of_job : Contains (operations_in (route_of shop j) m j) (slot_at (route_of shop j) j k) =
    mapped_at (slot_at (route_of shop j) j) (filter on steps) k
    (filtered_at on steps k (eq-eqb (machine_of shop j k) m here) step.0 step.1 step.2)
    in Contains-permutation (operations_on shop m) slots (slot_at (route_of shop j) j k) are.same
    (flat_at (λ j. operations_in (route_of shop j) m j) (slot_at (route_of shop j) j k) j of_job
    (range_with_len 0 (length shop.jobs)) jobs.0 jobs.1 jobs.2)
