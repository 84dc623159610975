-- Instances of which one can end whenever the other can.
use Rattle.std.proofs.{lemmas.Grind.common_steps, Common.{ℕ, ◌≤◌, arith}}
use Rattle.shop_model.specs.Shop.{Shop, end_of, IsLeast}
use Rattle.shop_engine.specs.{Headline.IsBound, Easier.{EndsBy, AsksNoMore, AskTheSame, EasierInstancesEndNoLater}}

by_least : (shop : Shop) (c : ℕ) → IsLeast shop c → EndsBy shop c
by_least shop c least = grind (arith, common_steps, least, least.table, least.feasible, least.ends)

bounds : (easy hard : Shop) → AsksNoMore easy hard → (b : ℕ) → IsBound easy b → IsBound hard b
bounds easy hard less b bound starts f =
    let there = less (end_of hard starts) (record { table = starts; feasible = f; ends = omega arith })
    in let a = bound there.table there.feasible
    in let e = there.ends
    in omega arith

least : (easy hard : Shop) → AsksNoMore easy hard → (c d : ℕ) → IsLeast easy c → IsLeast hard d → c ≤ d
least easy hard less c d first second =
    let a = bounds easy hard less c first.least second.table second.feasible in let e = second.ends in omega arith

same_least : (one other : Shop) → AskTheSame one other → (c : ℕ) → IsLeast one c → IsLeast other c
same_least one other same c is =
    let there = same.1 c (by_least one c is)
    in let below = bounds one other same.0 c is.least
    in record {
      table = there.table;
      feasible = there.feasible;
      ends = (let a = there.ends in let b = below there.table there.feasible in omega arith);
      least = below;
    }

pub easier_instances_end_no_later : EasierInstancesEndNoLater
easier_instances_end_no_later = record {
  bounds = bounds;
  least = least;
  same_least = λ one other same c. (same_least one other same c, same_least other one (same.1, same.0) c);
}
