-- A plan as its numbers and its order.
use Rattle.std.specs.Prelude.{◌≡◌, ℕ}
use Rattle.shop_runs.specs.{declared.plans.Order.Order, declared.plans.Plan.Plan}

pub record Planned : Type 0 where
  pub rounds : ℕ
  pub budget : ℕ
  pub piece : ℕ
  pub order : Order

-- the plan as definitions speak of it
abbrev pub planned : Plan → Planned
planned p = record { rounds = p.rounds; budget = p.budget; piece = p.piece; order = p.order }

-- the plan of these
abbrev pub IsPlanMadeOf : ℕ → ℕ → ℕ → Order → Plan → Type 0
IsPlanMadeOf rounds budget piece order p =
    planned p ≡ record { rounds = rounds; budget = budget; piece = piece; order = order }
