-- The bound after one more operation, by the bound before and the raises.
use Rattle.std.proofs.Common.{◌≡◌, ℕ, ◌≤◌, ◌<◌, max, List, [], ◌∷◌, ◌++◌, ap, arith}
use Rattle.shop_model.specs.{Shop.{Shop, machine_of}, Word.{Placing, placing, place_next, IsWord}}
use Rattle.shop_model.{specs.Limits.IsWithinLimits, proofs.{Greatest.le-greatest_below, Unders.placing-snoc}}
use Rattle.shop_bound.{proofs.{PlacedEnds.placed_end-free, BoundsRise.bounds_rise}, specs.Bound.lb}

-- no machine is free later than the bound
free_at_most : (shop : Shop) (w : List ℕ) → IsWithinLimits shop → IsWord shop w → (m : ℕ) → m < shop.machines
    → (placing shop w).free m ≤ lb shop w
free_at_most shop w limits word m known =
    let a = placed_end-free shop w limits word in let b = le-greatest_below (placing shop w).free shop.machines m known
    in omega arith

-- the bound before and the end of the operation are at most the bound after
pub least_at_most : (shop : Shop) (w : List ℕ) (j : ℕ) → IsWithinLimits shop → IsWord shop (w ++ j ∷ [])
    → (parent end least : ℕ) → parent ≡ lb shop w
    → end ≡ (place_next shop (placing shop w) j).free (machine_of shop j ((placing shop w).steps j))
    → least ≡ max parent end → least ≤ lb shop (w ++ j ∷ [])
least_at_most shop w j limits word parent end least is_parent ends is_least =
    let m = machine_of shop j ((placing shop w).steps j)
    in let a = free_at_most shop (w ++ j ∷ []) limits word m (limits.on_machines j ((placing shop w).steps j))
    in let b : (placing shop (w ++ j ∷ [])).free m ≡ (place_next shop (placing shop w) j).free m =
    ap (λ (q : Placing). q.free m) (placing-snoc shop w j)
    in let rises = bounds_rise shop w (j ∷ []) limits word in omega arith
