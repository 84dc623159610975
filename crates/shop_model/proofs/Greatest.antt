-- The greatest of the first values of a function.
use Rattle.std.proofs.{Common.{◌≡◌, ℕ, zero, suc, ◌+◌, ◌≤◌, ◌<◌, max, arith, add-one, refl}, lemmas.Bool.cases_eq}
use Rattle.shop_model.specs.Shop.{greatest_below}

-- one more value
pub greatest_below-next : (f : ℕ → ℕ) (n end x r : ℕ) → end ≡ greatest_below n f → x ≡ f n → r ≡ max end x
    → r ≡ greatest_below (n + 1) f
greatest_below-next f n end x r e p q = rw add-one (cc)

-- each value is at most the greatest
pub le-greatest_below : (f : ℕ → ℕ) (n i : ℕ) → i < n → f i ≤ greatest_below n f
le-greatest_below f zero i h = absurd (omega arith)
le-greatest_below f (suc n) i h = grind (arith, cases_eq, le-greatest_below f n i)

-- a bound on each value is a bound on the greatest
pub greatest_below-le : (f : ℕ → ℕ) (n b : ℕ) → ((i : ℕ) → i < n → f i ≤ b) → greatest_below n f ≤ b
greatest_below-le f zero b h = omega arith
greatest_below-le f (suc n) b h = omega (arith, h n (omega arith), greatest_below-le f n b (λ i k. h i (omega arith)))

-- functions that agree on them have one greatest
pub greatest_below-equal : (f g : ℕ → ℕ) (n : ℕ) → ((i : ℕ) → i < n → f i ≡ g i)
    → greatest_below n f ≡ greatest_below n g
greatest_below-equal f g zero h = refl
greatest_below-equal f g (suc n) h = grind (arith, greatest_below-equal f g n (λ i below. h i (omega arith)))

-- the greatest of the greater values is the greater of the greatest
pub greatest_below-both : (f g : ℕ → ℕ) (n : ℕ)
    → greatest_below n (λ i. max (f i) (g i)) ≡ max (greatest_below n f) (greatest_below n g)
greatest_below-both f g zero = omega arith
greatest_below-both f g (suc n) = let a = greatest_below-both f g n in omega arith
