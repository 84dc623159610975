-- The candidates of a word, and what is foreseen of the bound after one.
use Rattle.std.proofs.Common.{rules, ◌≡◌, ℕ, ◌+◌, ◌-◌, ◌<◌, ◌^◌, max, min, List, [], ◌∷◌, ◌++◌, length, get_or, ap}
use Rattle.std.{proofs.Common.arith, specs.Prelude.{Option, Some, None}}
use Rattle.shop_lanes.specs.Rows.{Rows}
use Rattle.shop_model.specs.{Limits.IsWithinLimits, Shop.{Shop, IsOperation, machine_of}, Word.{Placing, IsWord}}
use Rattle.shop_model.{specs.Word.{place_next, placing}, proofs.Unders.after_word}
use Rattle.shop_bound.specs.{Bound.lb, Conflicts.{conflict, conflict_among, open_jobs}}
use Rattle.shop_bound.proofs.{SmallSums.sums_small, Entries.IsWord-snoc}
use Rattle.shop_states.specs.{States.TellsBoundBelow, inner.Advances.{IsAdvancing, IsLeastAt, foreseen}}
use Rattle.shop_states.specs.inner.{LaneStates.IsKeptInLanes, RisingLists.IsIn}
use Rattle.shop_states.proofs.ChildReads.{after_look, end_here, head_here, machine_here, time_here}
use Rattle.shop_states.proofs.{LaneConflicts.{AreChoosable, in_filter, open_is}, StateSteps.next_at}
use Rattle.shop_layout.specs.{Lanes.rows_of, Positions.{LayoutState, position_of}}

-- a conflict set is a part of the open jobs
conflict_in : (shop : Shop) (p : Placing) (js : List ℕ) (q : ℕ) → IsIn (conflict_among shop p js) q → IsIn js q
conflict_in shop p x q h = grind (arith, in_filter)

module _ (shop : Shop) (w : List ℕ) (word : IsWord shop w) where
  known : (q : ℕ) → IsIn (conflict shop w) q → (q < length shop.jobs) × IsOperation shop q ((placing shop w).steps q)
  known q h = open_is shop (placing shop w) q (conflict_in shop (placing shop w) (open_jobs shop (placing shop w)) q h)

  -- the word goes on with each
  pub candidate_fits : (q : ℕ) → IsIn (conflict shop w) q → IsWord shop (w ++ q ∷ [])
  candidate_fits q h = let op = (known q h).1 in let count = (after_word shop w word).steps q
      in IsWord-snoc shop w q word (omega arith)

module _ {greatest : ℕ} {shop : Shop} {w : List ℕ} {l : LayoutState} {heads ends nexts : List ℕ} (j : ℕ)
    (kept : IsKeptInLanes greatest shop w l (rows_of l heads ends) nexts) (fits : IsWord shop (w ++ j ∷ [])) where
  abbrev rows : Rows
  rows = rows_of l heads ends

  module _ {x : ℕ} (x_is : x ≡ get_or nexts j 0) where
    its_position_is : x ≡ position_of l j ((placing shop w).steps j)
    its_position_is = next_at j kept fits x_is

    its_machine : get_or l.machines x 0 ≡ machine_of shop j ((placing shop w).steps j)
    its_machine = search (rules, its_position_is, machine_here)

    pub head_is : get_or heads x 0 + get_or l.times x 0
        ≡ (place_next shop (placing shop w) j).free (machine_of shop j ((placing shop w).steps j)) + 1
    head_is =
        let a = ap (λ (q : ℕ). get_or heads q 0) its_position_is
        in let b = head_here kept.kept j fits
        in let c = ap (λ (q : ℕ). get_or l.times q 0) its_position_is
        in let d = time_here kept.kept j fits
        in let e = end_here kept.kept j fits in omega arith

    pub foreseen_least : (bound : ℕ) → bound ≡ lb shop w → {least : ℕ} → least ≡ foreseen l heads ends x bound
        → IsLeastAt shop w l rows j x least
    foreseen_least bound is {least} least_is =
        let end = head_is
        in let b : max bound (get_or heads x 0 + get_or l.times x 0 - 1) ≡ max (lb shop w)
        ((place_next shop (placing shop w) j).free (machine_of shop j ((placing shop w).steps j))) = omega arith
        in after_look kept.kept j fits b its_position_is its_machine head_is least_is

  -- where heads, ends and next operations are as they were
  pub advancing : {heads' ends' : List ℕ} → heads' ≡ heads → ends' ≡ ends → {bound : ℕ} → bound ≡ lb shop w
      → {least : ℕ} → least ≡ foreseen l heads ends (get_or nexts j 0) bound
      → IsAdvancing greatest shop w l (rows_of l heads' ends') nexts j least
  advancing same_heads same_ends {bound} is {least} least_is = grind (arith, foreseen_least)

-- the choice by lanes is that of the word
module _ {greatest : ℕ} {shop : Shop} {w : List ℕ} {l : LayoutState} {heads ends nexts : List ℕ}
    (kept : IsKeptInLanes greatest shop w l (rows_of l heads ends) nexts) where
  pub choosable : AreChoosable greatest shop (placing shop w) l nexts (rows_of l heads ends)
  choosable = grind arith

-- the limit is beyond all bounds, or is not
pub tells_below : (shop : Shop) → IsWithinLimits shop → (w : List ℕ) → IsWord shop w → (limit least : ℕ)
    → least ≡ min limit (2 ^ 50) → (told : Option ℕ) → TellsBoundBelow least (lb shop w) told
    → TellsBoundBelow limit (lb shop w) told
tells_below shop limits w word limit least is None reached = grind (arith, sums_small)
tells_below shop limits w word limit least is (Some b) tells = grind arith
