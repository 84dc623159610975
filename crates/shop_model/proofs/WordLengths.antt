-- How long a word of an instance may be, and how late what it places may end.
use Rattle.std.proofs.Common.{◌≡◌, ℕ, zero, suc, ◌+◌, ◌*◌, ◌≤◌, ◌<◌, List, [], ◌∷◌, length, refl, sym, arith}
use Rattle.std.{proofs.lemmas.{Bool.cases_eq, List.length_push}, specs.List.AllByRecursion}
use Rattle.shop_model.specs.{Shop.Shop, Limits.IsWithinLimits, Word.{Placing, place_next, placing, count_of, IsWord}}
use Rattle.shop_model.{specs.SharedWords.CanBeShared, proofs.WordLemmas.{snoc_induct, jobs_below, word_jobs}}
use Rattle.shop_model.proofs.{WordLemmas.{count_of-head, count_of-head_other}, Placings.{IsNext, place_next-is}}
use Rattle.shop_model.proofs.Unders.{placing-snoc}

-- the sum of f 0, .. f (n - 1)
abbrev sum_below : ℕ → (ℕ → ℕ) → ℕ
sum_below zero f = 0
sum_below (suc n) f = sum_below n f + f n

sum_below-le : (f : ℕ → ℕ) (n : ℕ) → ((i : ℕ) → f i ≤ 100) → sum_below n f ≤ n * 100
sum_below-le f zero h = omega arith
sum_below-le f (suc n) h = let a = sum_below-le f n h in let b = h n in omega arith

sum_below_none : (f : ℕ → ℕ) (n : ℕ) → ((i : ℕ) → f i ≡ 0) → sum_below n f ≡ 0
sum_below_none f zero h = refl
sum_below_none f (suc n) h = let a = sum_below_none f n h in let b = h n in omega arith

sum_below_same : (f g : ℕ → ℕ) (n : ℕ) → ((i : ℕ) → i < n → g i ≡ f i) → sum_below n g ≡ sum_below n f
sum_below_same f g zero h = refl
sum_below_same f g (suc n) h = grind (arith, sum_below_same f g n (λ i below. h i (omega arith)), h n (omega arith))

sum_below_one_more : (f g : ℕ → ℕ) (x n : ℕ) → x < n → g x ≡ f x + 1 → ((i : ℕ) → (x ≡ i → ⊥) → g i ≡ f i)
    → sum_below n g ≡ sum_below n f + 1
sum_below_one_more f g x zero h here other = absurd (omega arith)
sum_below_one_more f g x (suc n) h here other = grind (arith, cases_eq, sum_below_same, sum_below_one_more f g x n)

-- a word's length is the sum of its counts
length-counts : (w : List ℕ) (n : ℕ) → AllByRecursion (λ j. j < n) w → length w ≡ sum_below n (λ i. count_of i w)
length-counts [] n h = sym (sum_below_none (λ i. count_of i []) n (λ i. refl))
length-counts (x ∷ w) n h =
    let a = length-counts w n h.1
    in let b = sum_below_one_more (λ i. count_of i w) (λ i. count_of i (x ∷ w)) x n h.0 (count_of-head x w)
    (λ i ne. count_of-head_other i x w ne)
    in omega arith

pub word_length : (shop : Shop) (w : List ℕ) → IsWithinLimits shop → IsWord shop w → length w ≤ 100000
word_length shop w limits word =
    let a = length-counts w (length shop.jobs) (jobs_below shop w word)
    in let b = sum_below-le (λ i. count_of i w) (length shop.jobs)
    (λ i. let x = word i in let y = limits.routes i in omega arith)
    in let c = limits.jobs in omega arith

-- a word of an instance can share its jobs
pub word_shared : (shop : Shop) (w : List ℕ) → IsWithinLimits shop → IsWord shop w → CanBeShared w
word_shared shop w limits word = grind (arith, word_jobs, word_length)

-- no job and no machine is ready later than b
pub record IsReadyBy (p : Placing) (b : ℕ) : Type 0 where
  pub ready : (i : ℕ) → p.ready i ≤ b
  pub free : (m : ℕ) → p.free m ≤ b

ready_next : (shop : Shop) (p q : Placing) (j b : ℕ) → IsWithinLimits shop → IsNext shop p j q → IsReadyBy p b
    → IsReadyBy q (b + 1000000000)
ready_next shop p q j b limits n r = grind arith

-- each operation takes 10 ^ 9 at most
pub ready_word : (shop : Shop) → IsWithinLimits shop → (w : List ℕ)
    → IsReadyBy (placing shop w) ((length w + 1) * 1000000000)
ready_word shop limits = snoc_induct (λ w. IsReadyBy (placing shop w) ((length w + 1) * 1000000000))
    (record { ready = λ i. let a = limits.releases i in omega arith; free = λ m. omega arith })
    (λ w j before. let p = placing shop w
    in let n = place_next-is shop p j
    in let more = ready_next shop p (place_next shop p j) j ((length w + 1) * 1000000000) limits n before
    in let longer = length_push w j
    in rw placing-snoc record {
      ready = λ i. let a = more.ready i in omega arith;
      free = λ m. let a = more.free m in omega arith;
    })
