-- Times and tails fit into lanes that hold the loads of all machines.
use Rattle.std.proofs.Common.{◌≡◌, ℕ, ◌+◌, ◌-◌, ◌*◌, ◌≤◌, inl, inr, List, [], length, take, drop, get_or, sym, ◌∙◌, ap}
use Rattle.std.proofs.{Common.arith, lemmas.List.{get_or_default, get_or-take, get_or-drop, length-drop}}
use Rattle.std.{proofs.lemmas.List.length-take-le, specs.List.All}
use Rattle.shop_model.specs.{Limits.IsWithinLimits, Shop.Shop, Word.IsWord}
use Rattle.shop_layout.specs.{HeadLimits.FitsLanes, Positions.{LayoutState, position_of, first_position, IsLaidOut}}
use Rattle.shop_layout.proofs.LaidPositions.{cell_at, is_position_of, machine_at, machines_rise}
use Rattle.shop_layout.proofs.LatestEnds.{latest_end_is}
use Rattle.shop_bound.proofs.Lists.{get_or-le-greatest_of}

no_word : (shop : Shop) → IsWord shop []
no_word shop j = omega arith

pub blocks_within : (shop : Shop) → IsWithinLimits shop → (l : LayoutState) → IsLaidOut shop l → (m : ℕ)
    → m ≤ shop.machines → 8 * get_or l.blocks m 0 ≤ length l.times
blocks_within shop limits l laid m known =
    grind (arith, machines_rise shop limits l laid m shop.machines known (omega arith))

module _ (greatest : ℕ) (shop : Shop) (limits : IsWithinLimits shop) (l : LayoutState) (laid : IsLaidOut shop l)
    (holds : FitsLanes greatest shop l) where
  pub times_fit : All (λ t. t ≤ greatest) l.times
  times_fit q d here =
      let same = get_or_default l.times q d 0 here
      in elim (cell_at shop limits l laid q (let a = laid.positions.times in omega arith)) [
        | inl o ↦ (let a = (is_position_of shop limits l laid o.job o.step o.is).time
            in let b : get_or l.times q 0 ≡ get_or l.times (position_of l o.job o.step) 0 =
            ap (λ (x : ℕ). get_or l.times x 0) (sym o.at)
            in let f = latest_end_is shop [] (no_word shop) o.job o.step o.is (omega arith)
            in let h = holds 0 (let m = limits.some_machine in omega arith)
            in omega arith)
        | inr p ↦ (let a = p.time in omega arith)
      ]

  pub tails_fit : All (λ t. t ≤ greatest) l.tails
  tails_fit q d here =
      let same = get_or_default l.tails q d 0 here
      in let at = machine_at shop limits l laid shop.machines q (omega arith)
      (let a = laid.positions.tails in omega arith)
      in let m = at.0
      in let low = at.2 in let high = at.3
      in let i = q - first_position l m
      in let n = first_position l (m + 1) - first_position l m
      in let part : List ℕ = take n (drop (first_position l m) l.tails)
      in let last = machines_rise shop limits l laid (m + 1) shop.machines (omega (arith, at.1)) (omega arith)
      in let long : length part ≡ n = length-take-le n (drop (first_position l m) l.tails)
      (let a = laid.positions.tails in omega (arith, length-drop (first_position l m) l.tails))
      in let is : get_or part i 0 ≡ get_or l.tails q 0 =
      get_or-take n (drop (first_position l m) l.tails) i 0 (omega arith)
      ∙ (get_or-drop (first_position l m) l.tails i 0 ∙ ap (λ (x : ℕ). get_or l.tails x 0) (omega arith))
      in let most = get_or-le-greatest_of (λ (t : ℕ). t) part i 0 (omega arith)
      in let load = holds m at.1
      in omega arith
