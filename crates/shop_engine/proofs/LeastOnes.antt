-- The search ends, so there is a least makespan; and no other.
use Rattle.std.proofs.{lemmas.Grind.common_steps, Common.{◌≡◌, ℕ, arith}}
use Rattle.shop_model.specs.Shop.{Shop, IsLeast}
use Rattle.shop_runs.specs.{Round.{Planned, makespan_of}, Answers.answer, Exact.with_rounds}
use Rattle.shop_runs.{specs.declared.plans.Order.TheVariants.Kept, proofs.Ending.searches_end}
use Rattle.shop_engine.specs.Easier.{EachHasOneLeast}

abbrev plan : Planned
plan = record { rounds = 0; budget = 1; piece = 1; order = Kept }

one : (shop : Shop) (c d : ℕ) → IsLeast shop c → IsLeast shop d → c ≡ d
one shop c d first second =
    grind (
      arith,
      common_steps,
      first.least,
      second.table,
      second.feasible,
      second.least,
      first.table,
      first.feasible,
      first.ends,
      second.ends,
    )

pub each_has_one_least : EachHasOneLeast
each_has_one_least shop = record {
  some = (let enough = searches_end shop plan (omega arith) (omega arith)
      in let n = enough.0
      in (makespan_of shop (answer shop (with_rounds plan n)), (enough.1 n (omega arith)).1));
  one = one shop;
}
