-- What is read of the next operation of a job, and what is foreseen of the bound after it.
use Rattle.std.proofs.Common.{◌≡◌, ℕ, ◌+◌, ◌≤◌, max, ◌-◌, List, [], ◌∷◌, ◌++◌, set, get_or, ◌∙◌, ap, arith}
use Rattle.shop_lanes.specs.{Rows.{Rows, with_head}, Spans.span}
use Rattle.shop_model.specs.{Shop.{Shop, machine_of, time_of, IsOperation}, Word.{IsWord, placing, place_next}}
use Rattle.shop_model.proofs.{Placings.place_next-is, Unders.{after_word, next_operation}, WordLemmas.IsWord-init}
use Rattle.shop_bound.{specs.{Bound.lb, Heads.head_of}, proofs.HeadTurns.ready_first}
use Rattle.shop_states.specs.inner.{ChildBounds.IsLeastAfter, LaneHeads.AreStored, LaneStates.AreHeadsInLanes}
use Rattle.shop_states.proofs.{ChildBounds.child-ge-before, ChildExits.open_span-le, RaisedHeads.left}
use Rattle.shop_layout.specs.{Lanes.lanes_on, Positions.{AreMachinesOf, LayoutState, position_of}}
use Rattle.shop_layout.proofs.LaidPositions.{is_position_of}

module _ {greatest : ℕ} {shop : Shop} {w : List ℕ} {l : LayoutState} {rows : Rows}
    (kept : AreHeadsInLanes greatest shop w l rows) (j : ℕ) (fits : IsWord shop (w ++ j ∷ [])) where
  pub is_operation : IsOperation shop j ((placing shop w).steps j)
  is_operation = let a = next_operation shop w j fits
      in let b = (after_word shop w (IsWord-init shop w j fits)).steps j in omega arith

  pub head_here : get_or rows.heads (position_of l j ((placing shop w).steps j)) 0
      ≡ head_of shop (placing shop w) j ((placing shop w).steps j) + 1
  head_here = kept.heads.waiting j ((placing shop w).steps j) is_operation (omega arith)

  pub time_here : get_or rows.times (position_of l j ((placing shop w).steps j)) 0
      ≡ time_of shop j ((placing shop w).steps j)
  time_here = ap (λ (xs : List ℕ). get_or xs (position_of l j ((placing shop w).steps j)) 0) kept.times
      ∙ (is_position_of shop kept.limits l kept.laid j ((placing shop w).steps j) is_operation).time

  -- the operation begins at its head
  pub end_here : head_of shop (placing shop w) j ((placing shop w).steps j) + time_of shop j ((placing shop w).steps j)
      ≡ (place_next shop (placing shop w) j).free (machine_of shop j ((placing shop w).steps j))
  end_here = grind (arith, place_next-is, ready_first)

  pub machine_here : {ms : List ℕ} → AreMachinesOf l.blocks shop.machines ms
      → get_or ms (position_of l j ((placing shop w).steps j)) 0 ≡ machine_of shop j ((placing shop w).steps j)
  machine_here machines =
      let at = is_position_of shop kept.limits l kept.laid j ((placing shop w).steps j) is_operation
      in let low = at.from in let high = at.to
      in machines.at (machine_of shop j ((placing shop w).steps j)) (position_of l j ((placing shop w).steps j))
      (kept.limits.on_machines j ((placing shop w).steps j)) low high

  -- heads without the operation's are those that stood, and spans of them fit
  pub left_stored : AreStored shop (place_next shop (placing shop w) j).steps (head_of shop (placing shop w)) l
      (set rows.heads (position_of l j ((placing shop w).steps j)) 0)
  left_stored = left kept.limits kept.laid (place_next-is shop (placing shop w) j) is_operation kept.heads

  module _ {least : ℕ} (least_is : least ≡ max (lb shop w) ((place_next shop (placing shop w) j).free (machine_of shop j
      ((placing shop w).steps j)))) where
    module _ {x m e : ℕ} (x_is : x ≡ position_of l j ((placing shop w).steps j))
        (m_is : m ≡ machine_of shop j ((placing shop w).steps j))
        (e_is : e ≡ (place_next shop (placing shop w) j).free (machine_of shop j ((placing shop w).steps j)) + 1) where
      stored : AreStored shop (place_next shop (placing shop w) j).steps (head_of shop (placing shop w)) l
          (set rows.heads x 0)
      stored = grind (arith, left_stored)

      module _ {b : ℕ} (b_is : b ≡ max least (span 1 e (lanes_on (with_head rows x 0) l m) - 1)) where
        pub ahead_low : b ≤ lb shop (w ++ j ∷ [])
        ahead_low = grind (arith, child-ge-before, open_span-le, stored)

        pub after_look : IsLeastAfter shop w l rows j x m e b
        after_look = grind (arith, ahead_low)
