-- What is known of the bound after one more operation before any head is raised, and after the heads were raised.
use Rattle.std.proofs.Common.{◌≡◌, ℕ, ◌+◌, ◌-◌, ◌≤◌, ◌<◌, ◌⊎◌, inl, inr, List, [], ◌∷◌, ◌++◌, get_or, refl, ap, arith}
use Rattle.std.proofs.lemmas.Bool.{cases_lt}
use Rattle.shop_lanes.specs.{Rows.{Lane, lanes_of}, Spans.{span, spans_between}}
use Rattle.shop_model.specs.{Limits.IsWithinLimits, Shop.{Shop, machine_of, IsOperation}}
use Rattle.shop_model.specs.Word.{Placing, IsWord, placing, place_next}
use Rattle.shop_bound.specs.{Bound.lb, Heads.head_of, OneMachine.one}
use Rattle.shop_states.specs.inner.LaneHeads.{AreHeadsAt, AreStored}
use Rattle.shop_layout.specs.Positions.{LayoutState, IsLaidOut}
use Rattle.shop_states.proofs.{ChildBounds.{raised_left, child-ge-left}, MachineLanes.{lanes_matched, left_matched}}
use Rattle.shop_states.proofs.LaneSpans.{IsServedAs, from_none, span_within, spans_cover, spans_within}
use Rattle.shop_states.proofs.{LeftSlots.{left_falls, left_for}, Raising.one_between-none}

module _ {shop : Shop} (limits : IsWithinLimits shop) {l : LayoutState} (laid : IsLaidOut shop l) (w : List ℕ)
    (j : ℕ) (fits : IsWord shop (w ++ j ∷ [])) where
  its_next : Placing
  its_next = place_next shop (placing shop w) j

  its_machine : ℕ
  its_machine = machine_of shop j ((placing shop w).steps j)

  its_end : ℕ
  its_end = (place_next shop (placing shop w) j).free (machine_of shop j ((placing shop w).steps j))

  -- the lanes of a machine
  abbrev pub lanes_on : List ℕ → ℕ → List Lane
  lanes_on hs m = lanes_of hs l.times l.tails (get_or l.blocks m 0) (get_or l.blocks (m + 1) 0)

  on_machine : its_machine < shop.machines
  unfolding its_machine
  on_machine = limits.on_machines j ((placing shop w).steps j)

  -- what waits on the machine afterwards has a head of at least the end
  end-le-head : (i k : ℕ) → machine_of shop i k ≡ its_machine → its_end ≤ head_of shop its_next i k
  unfolding its_machine its_end its_next
  end-le-head i k e = grind (arith, its_next, its_machine)

  -- with the heads from before, but for the operation's
  module _ {hs : List ℕ}
      (stored : AreStored shop (place_next shop (placing shop w) j).steps (head_of shop (placing shop w)) l hs) where
    -- all that waits for the machine, served from the end of the operation on, bounds no more than the bound after
    pub open_span-le : (e : ℕ)
        → e ≡ (place_next shop (placing shop w) j).free (machine_of shop j ((placing shop w).steps j))
        → span 1 (e + 1) (lanes_on hs (machine_of shop j ((placing shop w).steps j)))
        ≤ lb shop (w ++ j ∷ []) + 1
    unfolding its_machine its_end its_next
    open_span-le e is =
        let m = its_machine
        in let ts = left_for shop laid.slots its_next m
        in let served = lanes_matched limits laid m on_machine its_next stored (IsServedAs 1 e)
        (λ s op on opened. record {
          time = refl;
          tail = refl;
          same = inl (omega arith, (let b = end-le-head s.job s.step on in omega arith));
        })
        in let nonincreasing = left_falls shop its_next
        (get_or laid.slots m []) (laid.are.slots m on_machine).nonincreasing
        in let a = span_within 1 e (omega arith) [] served nonincreasing (e + 1) (from_none e)
        in let b = child-ge-left limits laid.are w j fits m on_machine
        in omega arith

  -- with the heads afterwards
  module _ {hs : List ℕ} (heads : AreHeadsAt shop (place_next shop (placing shop w) j) l hs) (m : ℕ)
      (known : m < shop.machines) where
    pub after_spans-le : (above upto : ℕ) → spans_between above upto (lanes_on hs m) ≤ lb shop (w ++ j ∷ []) + 1
    unfolding its_next
    after_spans-le above upto =
        let ts = left_for shop laid.slots its_next m
        in let nonincreasing = left_falls shop its_next
        (get_or laid.slots m []) (laid.are.slots m known).nonincreasing
        in let a = spans_within (left_matched limits laid m known its_next hs heads) above upto nonincreasing
        (lanes_on hs m)
        in let b = child-ge-left limits laid.are w j fits m known in omega arith

    -- the spans from the heads above the least old one that changed, up to the greatest new one, bound what is left
    pub after_spans-cover : (above upto b : ℕ)
        → ((i k : ℕ) → IsOperation shop i k → machine_of shop i k ≡ m
        → (place_next shop (placing shop w) j).steps i ≤ k
        → (head_of shop (placing shop w) i k ≡ head_of shop (place_next shop (placing shop w) j) i k)
        ⊎ ((above ≤ head_of shop (placing shop w) i k + 1)
        × (head_of shop (place_next shop (placing shop w) j) i k + 1 ≤ upto)))
        → spans_between above upto (lanes_on hs m) ≤ b + 1 → lb shop w ≤ b
        → one (left_for shop laid.slots (place_next shop (placing shop w) j) m) ≤ b
    unfolding its_next
    after_spans-cover above upto b within covered before =
        let ts = left_for shop laid.slots its_next m
        in let nonincreasing = left_falls shop its_next
        (get_or laid.slots m []) (laid.are.slots m known).nonincreasing
        in elim (cases_lt 0 upto) [
          | inl some ↦ (let c = spans_cover above (upto - 1) (left_matched limits laid m known its_next hs heads)
              nonincreasing
              in let e : spans_between above (upto - 1 + 1) (lanes_on hs m) ≡ spans_between above upto (lanes_on hs m) =
              ap (λ (x : ℕ). spans_between above x (lanes_on hs m)) (omega arith)
              in let a = raised_left limits laid.are w j fits m above (upto - 1) known
              (λ i k op on opened. elim (within i k op on opened) [
                | inl same ↦ inl same
                | inr between ↦ (let x = between.0 in let y = between.1 in inr (omega arith, omega arith))
              ])
              in omega arith)
          | inr nil ↦ (let a = raised_left limits laid.are w j fits m 1 0 known
              (λ i k op on opened. elim (within i k op on opened) [
                | inl same ↦ inl same
                | inr between ↦ (let y = between.1 in absurd (omega arith))
              ])
              in let c = one_between-none 1 0 ts (omega arith) in omega arith)
        ]
