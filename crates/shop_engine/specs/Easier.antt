-- Instances compared by how early their schedules may end.
use Rattle.std.specs.Prelude.{◌≡◌, ℕ, ◌≤◌, ◌↔◌}
use Rattle.shop_model.specs.Shop.{Shop, Starts, IsFeasible, end_of, IsLeast}
use Rattle.shop_engine.specs.Headline.{IsBound}

-- some feasible table ends by c
pub record EndsBy (shop : Shop) (c : ℕ) : Type 0 where
  pub table : Starts
  pub feasible : IsFeasible shop table
  pub ends : end_of shop table ≤ c

-- whenever the hard instance can end, the easy one can
abbrev pub AsksNoMore : Shop → Shop → Type 0
AsksNoMore easy hard = (c : ℕ) → EndsBy hard c → EndsBy easy c

abbrev pub AskTheSame : Shop → Shop → Type 0
AskTheSame one other = AsksNoMore one other × AsksNoMore other one

pub record EasierInstancesEndNoLater : Type 0 where
  pub bounds : (easy hard : Shop) → AsksNoMore easy hard → (b : ℕ) → IsBound easy b → IsBound hard b
  pub least : (easy hard : Shop) → AsksNoMore easy hard → (c d : ℕ) → IsLeast easy c → IsLeast hard d → c ≤ d
  -- what asks for the same has the same bounds (by `bounds`) and the same least makespan
  pub same_least : (one other : Shop) → AskTheSame one other → (c : ℕ) → IsLeast one c ↔ IsLeast other c

-- there is a least makespan, and only one
pub record HasOneLeast (shop : Shop) : Type 0 where
  pub some : (c : ℕ) × IsLeast shop c
  pub one : (c d : ℕ) → IsLeast shop c → IsLeast shop d → c ≡ d

abbrev pub EachHasOneLeast : Type 0
EachHasOneLeast = (shop : Shop) → HasOneLeast shop
