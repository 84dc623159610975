-- A word has no more entries than the instance has operations.
use Rattle.std.proofs.Common.{◌≡◌, ℕ, zero, suc, ◌+◌, ◌≤◌, ◌<◌, List, [], ◌∷◌, ◌++◌, length, refl, arith, eqb, ltb}
use Rattle.std.proofs.{Common.{cond, add-one}, lemmas.{Bool.Decides.nat_tests, List.{length_push, Sums.sum_by-cons}}}
use Rattle.shop_model.{specs.{Shop.{Shop, operation_count}, Word.{count_of, IsWord}}, proofs.Ends.IsOperation-job}
use Rattle.shop_bound.proofs.Routes.{operations_before, before_more, before_at_most}

-- how many entries are below n
below : ℕ → List ℕ → ℕ
below n [] = 0
below n (x ∷ xs) = cond (ltb x n) 1 0 + below n xs

not_below_0 : (x : ℕ) → cond {A = ℕ} (ltb x 0) 1 0 ≡ 0
not_below_0 x = grind (arith, nat_tests)

same : (x : ℕ) → cond {A = ℕ} (eqb x x) 1 0 ≡ 1
same x = grind (arith, nat_tests)

is_below : (x n : ℕ) → x < n → cond {A = ℕ} (ltb x n) 1 0 ≡ 1
is_below x n h = grind (arith, nat_tests)

below-next : (n : ℕ) (w : List ℕ) → below (n + 1) w ≡ below n w + count_of n w
unfolding below
below-next n [] = refl
below-next n (x ∷ xs) = grind (arith, below-next n xs, sum_by-cons (λ y. cond (eqb y n) 1 0) x xs, nat_tests)

below-all : (n : ℕ) (w : List ℕ) → ((x : ℕ) → 0 < count_of x w → x < n) → below n w ≡ length w
unfolding below
below-all n [] h = refl
below-all n (x ∷ xs) h =
    let a = below-all n xs (λ y some. h y (let c = sum_by-cons (λ z. cond (eqb z y) 1 0) x xs in omega arith))
    in let here : x < n = h x (let c = sum_by-cons (λ z. cond (eqb z x) 1 0) x xs in let d = same x in omega arith)
    in let b = is_below x n here in omega arith

-- how many entries are below n: no more than the operations of these jobs
below-before : (shop : Shop) (w : List ℕ) → IsWord shop w → (n : ℕ) → n ≤ length shop.jobs
    → below n w ≤ operations_before shop n
unfolding below
below-before shop w word zero h = none w where
  none : (w : List ℕ) → below 0 w ≤ 0
  none [] = omega arith
  none (x ∷ xs) = let a = none xs in let b = not_below_0 x in omega arith
below-before shop w word (suc n) h =
    grind (arith, add-one, below-before shop w word n (omega arith), below-next n w, before_more shop n (omega arith))

pub word_within : (shop : Shop) (w : List ℕ) → IsWord shop w → length w ≤ operation_count shop
word_within shop w word =
    let all = below-all (length shop.jobs) w (λ x some. IsOperation-job shop x 0 (let a = word x in omega arith))
    in let le = below-before shop w word (length shop.jobs) (omega arith)
    in let a = before_at_most shop (length shop.jobs) in omega arith

-- there is room for one more entry
pub room_left : (shop : Shop) (w : List ℕ) (j : ℕ) → IsWord shop (w ++ j ∷ []) → length w < operation_count shop
room_left shop w j fits = let a = word_within shop (w ++ j ∷ []) fits in let b = length_push w j in omega arith
