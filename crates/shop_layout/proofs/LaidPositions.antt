-- Where the operations of an instance stand by position.
use Rattle.std.proofs.{lemmas.Grind.common_steps, Common.{ap, subst, arith}, lemmas.Bool.{cases_eq, cases_lt}}
use Rattle.std.proofs.Common.{◌≡◌, ℕ, zero, suc, ◌+◌, ◌-◌, ◌≤◌, ◌<◌, ◌⊎◌, inl, inr, [], length, get_or, refl, sym, ◌∙◌}
use Rattle.shop_model.specs.{Limits.IsWithinLimits, Shop.{Shop, IsOperation, route_of, machine_of, time_of}}
use Rattle.shop_model.proofs.Ends.{IsOperation-job}
use Rattle.shop_bound.specs.Heads.{tail_of}
use Rattle.shop_layout.specs.{Slots.slot_at, Positions.position_at_rank}
use Rattle.shop_layout.specs.Positions.{IsFree, LayoutState, position_of, first_position, IsAt, IsLaidOut, IsPadding}
use Rattle.shop_layout.proofs.{Ranks.{position_within, rank_at}, SlotFacts.{slots_are_all, slots_are_operations}}

pub record IsPositionOf (shop : Shop) (l : LayoutState) (j k : ℕ) : Type 0 where
  pub job : get_or l.jobs (position_of l j k) 0 ≡ j
  pub step : get_or l.steps (position_of l j k) 0 ≡ k
  pub time : get_or l.times (position_of l j k) 0 ≡ time_of shop j k
  pub tail : get_or l.tails (position_of l j k) 0 ≡ tail_of shop j k
  pub from : first_position l (machine_of shop j k) ≤ position_of l j k
  pub to : position_of l j k < first_position l (machine_of shop j k + 1)
  pub within : position_of l j k < first_position l shop.machines

-- an operation of the instance stands at position q, or none does
pub record IsOperationAt (shop : Shop) (l : LayoutState) (q : ℕ) : Type 0 where
  pub job : ℕ
  pub step : ℕ
  pub is : IsOperation shop job step
  pub at : position_of l job step ≡ q

module _ (shop : Shop) (limits : IsWithinLimits shop) (l : LayoutState) (laid : IsLaidOut shop l) where
  -- machines stand one after another
  pub later_machine : (d m k : ℕ) → m + d ≡ k → k ≤ shop.machines → first_position l m ≤ first_position l k
  later_machine zero m k e known = grind arith
  later_machine (suc d) m k e known = grind (arith, later_machine d m (m + d) refl (omega arith))

  pub machines_rise : (m k : ℕ) → m ≤ k → k ≤ shop.machines → first_position l m ≤ first_position l k
  machines_rise m k le known = later_machine (k - m) m k (omega arith) known

  pub is_position_of : (j k : ℕ) → IsOperation shop j k → IsPositionOf shop l j k
  is_position_of j k op =
      let m = machine_of shop j k
      in let known = limits.on_machines j k
      in let slots = get_or laid.slots m []
      in let slot = slot_at (route_of shop j) j k
      in let found = slots_are_all shop m slots (laid.are.slots m known) j k (IsOperation-job shop j k op) op refl
      in let i = found.0
      in let is : get_or slots i slot ≡ slot = found.2
      in let machine = laid.each m known
      in let here : IsAt l (position_at_rank l.blocks m i) slot =
      subst (IsAt l (position_at_rank l.blocks m i)) is (machine.at i slot found.1)
      in let q : position_at_rank l.blocks m i ≡ position_of l j k = sym here.position
      in let below = found.1
      in let room = machine.room
      in let inside = position_within l.blocks m i (omega arith)
      in let last = machines_rise (m + 1) shop.machines (omega arith) (omega arith)
      in grind arith

  pub each_position : (q : ℕ) → IsOperationAt shop l q ⊎ IsFree shop l q
  each_position q =
      let j = get_or l.jobs q 0
      in let k = get_or l.steps q 0
      in let same : (i t : ℕ) → IsOperation shop i t → position_of l i t ≡ q → (j ≡ i) × (k ≡ t) =
      (λ i t op at. let a = is_position_of i t op in (
        ap (λ (x : ℕ). get_or l.jobs x 0) (sym at) ∙ a.job,
        ap (λ (x : ℕ). get_or l.steps x 0) (sym at) ∙ a.step,
      ))
      in elim (cases_lt k (length (route_of shop j))) [
        | inl op ↦ elim (cases_eq (position_of l j k) q) [
          | inl at ↦ inl (record { job = j; step = k; is = op; at = at })
          | inr ne ↦ grind arith
        ]
        | inr none ↦ grind arith
      ]

  -- the operations among the positions of a machine are its operations
  pub on_machine : (m j k : ℕ) → m < shop.machines → IsOperation shop j k → first_position l m ≤ position_of l j k
      → position_of l j k < first_position l (m + 1) → machine_of shop j k ≡ m
  on_machine m j k known op low high =
      let a = is_position_of j k op
      in let from = a.from in let to = a.to
      in let its = limits.on_machines j k
      in grind (arith, common_steps, cases_lt, machines_rise)

  -- the machine that a position belongs to
  pub machine_at : (k q : ℕ) → k ≤ shop.machines → q < first_position l k
      → (m : ℕ) × (m < shop.machines) × (first_position l m ≤ q) × (q < first_position l (m + 1))
  machine_at zero q known below = absurd (let a = laid.from_0 in omega arith)
  machine_at (suc k) q known below = grind (arith, cases_lt, machine_at k q)

  -- an operation, or nothing that takes time
  pub cell_at : (q : ℕ) → q < first_position l shop.machines → IsOperationAt shop l q ⊎ IsPadding l q
  cell_at q below =
      let at = machine_at shop.machines q (omega arith) below
      in let m = at.0
      in let slots = get_or laid.slots m []
      in let machine = laid.each m at.1
      in let low = at.2 in let high = at.3
      in let r = rank_at l.blocks m q low high
      in let i = r.rank
      in elim (cases_lt i (length slots)) [
        | inl within ↦ (
            let d = slot_at [] 0 0
            in let s = get_or slots i d
            in let op = slots_are_operations shop m slots (laid.are.slots m at.1) i d within
            in let here = machine.at i d within
            in inl (record { job = s.job; step = s.step; is = op.step; at = here.position ∙ r.at }))
        | inr past ↦ inr (subst (IsPadding l) r.at (machine.padding i past r.within))
      ]
