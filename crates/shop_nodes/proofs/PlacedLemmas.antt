-- The next operation of a job, as a placement gives it.
use Rattle.std.proofs.Common.{◌≡◌, ℕ, ◌^◌, ◌<◌, max, List, length, get_or, slice_index, arith}
use Rattle.shop_model.specs.{Placements.{PlacementState, IsPlacement}, Limits.IsWithinLimits, Shop.{Shop, no_op}}
use Rattle.shop_model.specs.{Shop.{route_of, time_of}, Word.{Placing, placing, IsWord}, declared.ops.Op.Op}
use Rattle.shop_model.proofs.WordLengths.{word_length, ready_word}
use Rattle.shop_nodes.specs.Branching.{next_machine, next_head, next_end}

-- every next operation can end soon
pub next_end-small : (shop : Shop) (w : List ℕ) (j : ℕ) → IsWithinLimits shop → IsWord shop w
    → next_end shop (placing shop w) j < 2 ^ 50
next_end-small shop w j limits word =
    let e = ready_word shop limits w
    in let a = e.ready j
    in let b = e.free (next_machine shop (placing shop w) j)
    in let c = limits.times j ((placing shop w).steps j)
    in let d = word_length shop w limits word in omega arith

-- the machine, the head and the time of the next operation
pub record IsRead (shop : Shop) (p : Placing) (j : ℕ) (operation : Op) (s : PlacementState) : Type 0 where
  pub machine : operation.machine ≡ next_machine shop p j
  pub on_machine : next_machine shop p j < shop.machines
  pub head : max (slice_index s.ready j) (slice_index s.free operation.machine) ≡ next_head shop p j
  pub time : operation.time ≡ time_of shop j (p.steps j)

pub is_read : (shop : Shop) (p : Placing) (j : ℕ) (route : List Op) (step : ℕ) (s : PlacementState)
    → IsWithinLimits shop → IsPlacement shop p s → j < length shop.jobs → route ≡ route_of shop j
    → step ≡ slice_index s.steps j
    → IsRead shop p j (get_or route step no_op) s
is_read shop p j route step s limits placed job e es = grind arith
