use Rattle.std.{proofs.Common.{◌≡◌, ℕ, ◌<◌, false, get_or}, specs.Str.bytes_eq}
use Rattle.shop_runs.specs.{Orders.order_word, declared.plans.Order.TheVariants.Kept}
use Rattle.shop_runs.proofs.plans.Order.of_word.Given as goal

-- the orders before this one have other words
abbrev pub invariant-loop-order : goal.invariant-loop-order
invariant-loop-order l =
    (k : ℕ) → k < l.order-index → bytes_eq (order_word (get_or l.order-items k Kept)) l.word ≡ false
