-- The words of orders.
use Rattle.std.specs.Prelude.{◌≢◌, List, ℕ, codes}
use Rattle.shop_runs.specs.{declared.plans.Order.Order, declared.plans.Order.TheVariants.{Kept, Bound}}

-- the word for an order on the command line
abbrev pub order_word : Order → List ℕ
order_word Kept = codes "kept"
order_word Bound = codes "bound"

-- no order has this word
abbrev pub IsNoOrderWord : List ℕ → Type 0
IsNoOrderWord word = (order : Order) → order_word order ≢ word
