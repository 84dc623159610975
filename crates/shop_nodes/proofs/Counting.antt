-- How many operations a word holds: it is full exactly where it lacks none, and no word is long.
use Rattle.std.proofs.Common.{◌≡◌, ℕ, zero, suc, ◌+◌, ◌≤◌, ◌<◌, inl, inr, cond, List, [], ◌∷◌, length, get_or, refl, ap}
use Rattle.std.proofs.{Common.{arith, eqb}, lemmas.{Bool.{cases_eq, cases_lt, Decides.eqb_tells}, List.get_or_past}}
use Rattle.std.{proofs.lemmas.List.Sums.sum_by-cons, specs.List.sum_by}
use Rattle.shop_model.specs.{Shop.{Shop, ShopJob, no_job, route_of}, Word.{count_of, IsWord, IsFull}}
use Rattle.shop_model.proofs.Ends.{IsOperation-job}
use Rattle.shop_nodes.specs.Walking.{operations_left}

-- f 0 + .. + f (n - 1)
sum_below : (ℕ → ℕ) → ℕ → ℕ
sum_below f zero = 0
sum_below f (suc n) = sum_below f n + f n

module _ where
  sum_below-le : (f g : ℕ → ℕ) (n : ℕ) → ((i : ℕ) → f i ≤ g i) → sum_below f n ≤ sum_below g n
  unfolding sum_below
  sum_below-le f g zero h = omega arith
  sum_below-le f g (suc n) h = let a = sum_below-le f g n h in let b = h n in omega arith

  -- where no value is above and the sums are equal, so are the values
  sum_below-same : (f g : ℕ → ℕ) (n : ℕ) → ((i : ℕ) → f i ≤ g i) → sum_below g n ≤ sum_below f n → (i : ℕ) → i < n → f i
      ≡ g i
  unfolding sum_below
  sum_below-same f g zero h e i b = absurd (omega arith)
  sum_below-same f g (suc n) h e i b = elim (cases_eq i n) [
    | inl s ↦ (let a = sum_below-le f g n h in let c = h n in rw s (omega arith))
    | inr ne ↦ (let c = h n in sum_below-same f g n h (let d = h n in omega arith) i (omega arith))
  ]

  sum_below-shift : (f : ℕ → ℕ) (n : ℕ) → sum_below f (suc n) ≡ f 0 + sum_below (λ i. f (suc i)) n
  unfolding sum_below
  sum_below-shift f zero = omega arith
  sum_below-shift f (suc n) = let a = sum_below-shift f n in omega arith

  sum_below-plus : (f g : ℕ → ℕ) (n : ℕ) → sum_below (λ i. f i + g i) n ≡ sum_below f n + sum_below g n
  unfolding sum_below
  sum_below-plus f g zero = omega arith
  sum_below-plus f g (suc n) = let a = sum_below-plus f g n in omega arith

  sum_below-zero : (n : ℕ) → sum_below (λ i. 0) n ≡ 0
  unfolding sum_below
  sum_below-zero zero = refl
  sum_below-zero (suc n) = let a = sum_below-zero n in omega arith

  sum_below-eq : (f g : ℕ → ℕ) (n : ℕ) → ((i : ℕ) → f i ≡ g i) → sum_below f n ≡ sum_below g n
  unfolding sum_below
  sum_below-eq f g zero h = refl
  sum_below-eq f g (suc n) h = let a = sum_below-eq f g n h in let b = h n in omega arith

  -- one at x alone
  one_at-below : (x n : ℕ) → n ≤ x → sum_below (λ i. cond (eqb x i) 1 0) n ≡ 0
  unfolding sum_below
  one_at-below x zero h = refl
  one_at-below x (suc n) h = grind (arith, eqb_tells, one_at-below x n (omega arith))

  one_at : (x n : ℕ) → x < n → sum_below (λ i. cond (eqb x i) 1 0) n ≡ 1
  unfolding sum_below
  one_at x zero h = absurd (omega arith)
  one_at x (suc n) h = elim (eqb_tells x n) [
    | inl e ↦ rw e.0 (let a = one_at-below x n (let b = e.1 in omega arith) in omega arith)
    | inr e ↦ rw e.0 (let ne = e.1 in let a = one_at x n (omega arith) in omega arith)
  ]

-- the entries of all jobs are the word's
count_sum : (shop : Shop) (w : List ℕ) → IsWord shop w → sum_below (λ j. count_of j w) (length shop.jobs) ≡ length w
count_sum shop [] word = sum_below-zero (length shop.jobs)
count_sum shop (x ∷ w) word =
    let n = length shop.jobs
    in let cons : (j : ℕ) → count_of j (x ∷ w) ≡ cond (eqb x j) 1 0 + count_of j
    w = (λ j. sum_by-cons (λ i. cond (eqb i j) 1 0) x w)
    in let word' : IsWord shop w = (λ j. let a = cons j in let b = word j in omega arith)
    in let first : 0 < length (route_of shop x) = (let a = cons x in let b = word x
    in elim (eqb_tells x x) [
      | inl e ↦ grind arith
      | inr e ↦ absurd (e.1 refl)
    ])
    in let below = IsOperation-job shop x 0 first
    in let a = sum_below-eq (λ j. count_of j (x ∷ w)) (λ j. cond (eqb x j) 1 0 + count_of j w) n cons
    in let b = sum_below-plus (λ j. cond (eqb x j) 1 0) (λ j. count_of j w) n
    in let c = one_at x n below
    in let d = count_sum shop w word' in omega arith

route_sum : (jobs : List ShopJob) → sum_below (λ j. length (get_or jobs j no_job).route) (length jobs)
    ≡ sum_by (λ job. length job.route) jobs
unfolding sum_below
route_sum [] = refl
route_sum (x ∷ xs) =
    let a = sum_below-shift (λ j. length (get_or (x ∷ xs) j no_job).route) (length xs)
    in let b = route_sum xs in let c = sum_by-cons (λ (job : ShopJob). length job.route) x xs in omega arith

-- a word is full exactly where it lacks no step
pub full_from : (shop : Shop) (w : List ℕ) → IsWord shop w → operations_left shop w ≡ 0 → IsFull shop w
full_from shop w word e j =
    let a = count_sum shop w word in let b = route_sum shop.jobs
    in elim (cases_lt j (length shop.jobs)) [
      | inl h ↦ sum_below-same (λ j. count_of j w) (λ j. length (route_of shop j)) (length shop.jobs) word (omega arith)
          j h
      | inr h ↦ (let c : length (route_of shop j) ≡ 0 = ap (λ (job : ShopJob). length job.route)
          (get_or_past shop.jobs j no_job h) in let d = word j in omega arith)
    ]

pub open_from : (shop : Shop) (w : List ℕ) (n : ℕ) → IsWord shop w → operations_left shop w ≡ suc n → IsFull shop w → ⊥
open_from shop w n word e full =
    let a = count_sum shop w word in let b = route_sum shop.jobs
    in let c = sum_below-eq (λ j. count_of j w) (λ j. length (route_of shop j)) (length shop.jobs) full in omega arith
