-- A word that is that of no order in the list of all.
use Rattle.std.{proofs.Common.{arith, ◌≡◌, ℕ, ◌<◌, List, [], ◌∷◌, false, true, get_or}, specs.Str.bytes_eq}
use Rattle.shop_runs.specs.{Orders.{order_word, IsNoOrderWord}, declared.plans.Order.TheVariants.{Kept, Bound}}

not_the_same : (word other : List ℕ) → bytes_eq word word ≡ true → bytes_eq word other ≡ false → word ≡ other → ⊥
not_the_same word other same differ e = grind arith

pub no_word : (word : List ℕ)
    → ((k : ℕ) → k < 2 → bytes_eq (order_word (get_or (Kept ∷ Bound ∷ []) k Kept)) word ≡ false)
    → IsNoOrderWord word
no_word word h x e = grind (arith, not_the_same)
