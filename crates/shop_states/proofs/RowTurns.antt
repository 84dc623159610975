-- What one step of a walk along a route finds.
use Rattle.std.proofs.Common.{◌≡◌, ℕ, ◌+◌, ◌-◌, ◌≤◌, ◌<◌, max, length, get_or, arith}
use Rattle.shop_model.specs.{Limits.IsWithinLimits, Shop.{Shop, machine_of, time_of}, Word.Placing}
use Rattle.shop_model.specs.Placements.{PlacementState, IsPlacement}
use Rattle.shop_bound.{specs.Heads.{ready_after, head_of}, proofs.HeadTurns.ready_more}

-- what one step of the walk along what is left of a route finds
pub open_turn : (shop : Shop) → IsWithinLimits shop → (s : PlacementState) (j : ℕ) → j < length shop.jobs
    → (k ready head : ℕ) {m t : ℕ} → m ≡ machine_of shop j k → t ≡ time_of shop j k
    → ((p : Placing) → IsPlacement shop p s → ready ≡ ready_after shop p j (k - p.steps j))
    → get_or s.steps j 0 ≤ k
    → head ≡ max ready (get_or s.free m 0)
    → (p : Placing) → IsPlacement shop p s → (head ≡ head_of shop p j k)
    × (head + t ≡ ready_after shop p j (k + 1 - p.steps j))
open_turn shop limits s j job k ready head {m} {t} on for known opened is_head p is = grind (arith, ready_more)
