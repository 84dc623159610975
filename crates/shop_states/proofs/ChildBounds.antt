-- The bound after one more operation, by the bound before, the end of the operation and the heads that it raises.
use Rattle.std.proofs.Common.{◌≡◌, ℕ, ◌+◌, ◌≤◌, ◌<◌, max, ◌⊎◌, inl, inr, List, [], ◌∷◌, ◌++◌, get_or, ap, subst, refl}
use Rattle.std.proofs.{Common.{sym, arith}, lemmas.Bool.{cases_eq, leb-true, le-leb}}
use Rattle.std.{proofs.lemmas.List.Elements.recursion_from_All, specs.List.AllByRecursion}
use Rattle.shop_model.specs.{Shop.{Shop, machine_of, IsOperation}, Word.{Placing, IsWord, placing, place_next}}
use Rattle.shop_model.{specs.Limits.IsWithinLimits, proofs.Greatest.{le-greatest_below, greatest_below-le}}
use Rattle.shop_model.proofs.{Placings.place_next-is, Unders.placing-snoc, WordLemmas.IsWord-init}
use Rattle.shop_bound.specs.{Bound.lb, Heads.head_of, OneMachine.one, inner.NonincreasingTails.one_between}
use Rattle.shop_bound.proofs.HeadsStay.{steps_rise}
use Rattle.shop_layout.{specs.{Slots.AreMachineSlots, declared.slots.Slot.Slot}, proofs.SlotFacts.slots_are_operations}
use Rattle.shop_states.proofs.{BoundsAfter.least_at_most, LeftSlots.{left_for, part_of, lb_by_parts}}
use Rattle.shop_states.proofs.Raising.{IsSlotRaised, left_raised, one-raised_part}

-- what is left for a machine bounds no more than the word
pub left-le-lb : (shop : Shop) → IsWithinLimits shop → (slots : List (List Slot)) → AreMachineSlots shop slots
    → (w : List ℕ) → IsWord shop w → (m : ℕ) → m < shop.machines
    → one (left_for shop slots (placing shop w) m) ≤ lb shop w
left-le-lb shop limits slots are w word m known =
    let a = le-greatest_below (part_of shop slots (placing shop w)) shop.machines m known
    in let b = lb_by_parts shop limits slots are w word in omega arith

module _ {shop : Shop} (limits : IsWithinLimits shop) {slots : List (List Slot)}
    (are : AreMachineSlots shop slots) (w : List ℕ) (j : ℕ) (fits : IsWord shop (w ++ j ∷ [])) where
  abbrev pub next : Placing
  next = place_next shop (placing shop w) j

  -- the machine of the operation, and when it ends
  abbrev pub next_machine : ℕ
  next_machine = machine_of shop j ((placing shop w).steps j)

  abbrev pub next_end : ℕ
  next_end = next.free next_machine

  -- (of machine m) a head that changes is at least `from` less 1 before, and at most `to` after
  abbrev pub RaisesWithin : ℕ → ℕ → ℕ → Type 0
  RaisesWithin m from to = (i k : ℕ) → IsOperation shop i k → machine_of shop i k ≡ m → next.steps i ≤ k
      → (head_of shop (placing shop w) i k ≡ head_of shop next i k)
      ⊎ ((from ≤ head_of shop (placing shop w) i k + 1) × (head_of shop next i k ≤ to))

  after_is : placing shop (w ++ j ∷ []) ≡ next
  after_is = placing-snoc shop w j

  module _ (m from to : ℕ) (known : m < shop.machines) (within : RaisesWithin m from to) where
    slots_raised : AllByRecursion (IsSlotRaised from to shop (placing shop w) next) (get_or slots m [])
    slots_raised = grind (arith, recursion_from_All, slots_are_operations, steps_rise, place_next-is, leb-true, le-leb)

    pub raised_left : one (left_for shop slots next m)
        ≤ max (lb shop w) (one_between from to (left_for shop slots next m))
    raised_left =
        let a = one-raised_part from to (left_for shop slots (placing shop w) m) (left_for shop slots next m)
        (left_raised from to shop (placing shop w) next (get_or slots m []) slots_raised)
        in let b = left-le-lb shop limits slots are w (IsWord-init shop w j fits) m known in omega arith

  -- the bound after is at least the bound before, the end of the operation, and what is left for each machine
  pub child-ge-before : (b : ℕ) → b ≡ max (lb shop w) next_end → b ≤ lb shop (w ++ j ∷ [])
  child-ge-before b e = least_at_most shop w j limits fits (lb shop w) next_end b refl refl e

  pub child-ge-left : (m : ℕ) → m < shop.machines → one (left_for shop slots next m) ≤ lb shop (w ++ j ∷ [])
  child-ge-left m known = subst (λ (q : Placing). one (left_for shop slots q m) ≤ lb shop (w ++ j ∷ [])) after_is
      (left-le-lb shop limits slots are (w ++ j ∷ []) fits m known)

  -- and no more than what is at least these
  pub child-le : (b : ℕ) → lb shop w ≤ b → next_end ≤ b
      → ((m : ℕ) → m < shop.machines → one (left_for shop slots next m) ≤ b)
      → lb shop (w ++ j ∷ []) ≤ b
  child-le b before ends left =
      let old = lb_by_parts shop limits slots are w (IsWord-init shop w j fits)
      in let new = lb_by_parts shop limits slots are (w ++ j ∷ []) fits
      in let n = place_next-is shop (placing shop w) j
      in let each = λ (q : Placing). (i : ℕ) → i < shop.machines → part_of shop slots q i ≤ b
      in let here : each next = λ i below.
      (let a = left i below
      in elim (cases_eq i next_machine) [
        | inl e ↦ (let x : next.free i ≡ next_end = ap next.free e in omega arith)
        | inr ne ↦ (let x = n.free_other i ne
            in let z = le-greatest_below (part_of shop slots (placing shop w)) shop.machines i below in omega arith)
      ])
      in let all = greatest_below-le (part_of shop slots (placing shop (w ++ j ∷ []))) shop.machines b
      (subst each (sym after_is) here)
      in omega arith
