-- Slots and positions of an instance whose machines are called by their ranks.
use Rattle.std.{proofs.Common.{◌≡◌, ℕ, ◌+◌, ◌<◌, List, [], ◌∷◌, ◌++◌, length, map, get_or, set, arith}, specs.List.All}
use Rattle.shop_model.specs.{declared.ops.Op.Op, Shop.{Shop, no_op}}
use Rattle.shop_bound.specs.Heads.{tail_in}
use Rattle.shop_layout.specs.{Ranks.{ranked, ranked_op}, Slots.AreSlotsOf, declared.slots.Slot.Slot}
use Rattle.shop_layout.specs.inner.Layings.{AreStepPositions, HasRoutes, IsInRows}
use Rattle.shop_layout.proofs.SlotLists.{IsAddedTo, added_set}
use Rattle.shop_layout.proofs.{LaidLists.rows_in, RankedShops.{jobs_ranked, op_ranked, steps_ranked, tail_ranked}}

-- step k goes to the list of its machine's rank
pub added_by_rank : (ranks : List ℕ) (route : List Op) (j k tail i : ℕ) (old lists : List (List Slot)) (row : List Slot)
    → IsAddedTo (map (ranked_op ranks) route) j k old lists → k < length route
    → i ≡ get_or ranks (get_or route k no_op).machine 0 → i < length lists → tail ≡ tail_in route k
    → row ≡ get_or lists i [] ++ record { job = j; step = k; time = (get_or route k no_op).time; tail = tail } ∷ []
    → IsAddedTo (map (ranked_op ranks) route) j (k + 1) old (set lists i row)
added_by_rank ranks route j k tail i old lists row before op on here is pushed =
    grind (arith, op_ranked, added_set, tail_ranked)

module _ (ranks : List ℕ) (shop : Shop) where
  pub routes_ranked : (rows : List (List ℕ)) → HasRoutes shop rows → HasRoutes (ranked ranks shop) rows
  routes_ranked rows has = grind (arith, jobs_ranked, steps_ranked)

  pub positions_ranked : (lists : List (List Slot)) (blocks : List ℕ) (n : ℕ) (rows : List (List ℕ))
      → AreStepPositions shop lists blocks n rows → AreStepPositions (ranked ranks shop) lists blocks n rows
  positions_ranked lists blocks n rows are = record { shape = routes_ranked rows are.shape; each = are.each }

  -- and back
  pub positions_asked : (lists : List (List Slot)) (blocks : List ℕ) (n : ℕ) (rows : List (List ℕ))
      → AreStepPositions (ranked ranks shop) lists blocks n rows → AreStepPositions shop lists blocks n rows
  positions_asked lists blocks n rows are = grind (arith, jobs_ranked, steps_ranked)

  pub rows_by_rank : (rows : List (List ℕ)) → HasRoutes shop rows → (m : ℕ) (slots : List Slot)
      → AreSlotsOf (ranked ranks shop) m slots → All (IsInRows rows) slots
  rows_by_rank rows has m slots are = rows_in (ranked ranks shop) rows (routes_ranked rows has) m slots are
