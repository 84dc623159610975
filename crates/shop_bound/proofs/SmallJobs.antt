-- Jobs of words are small.
use Rattle.std.{proofs.Common.{ℕ, ◌<◌, List, [], ◌∷◌, ◌++◌, length, arith}, specs.List.AllByRecursion}
use Rattle.shop_model.{specs.{Limits.IsWithinLimits, Shop.Shop, Word.IsWord}, proofs.WordLemmas.jobs_below}

last_of : (P : ℕ → Type 0) (w : List ℕ) (j : ℕ) → AllByRecursion P (w ++ j ∷ []) → P j
last_of P [] j all = all.0
last_of P (i ∷ w) j all = last_of P w j all.1

pub small_last : (shop : Shop) (w : List ℕ) (j : ℕ) → IsWithinLimits shop → IsWord shop (w ++ j ∷ []) → j < 65536
small_last shop w j limits word =
    grind (arith, limits.jobs, last_of (λ i. i < length shop.jobs) w j (jobs_below shop (w ++ j ∷ []) word))
