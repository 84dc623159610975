-- Heads behind operations of a machine are raised, one operation after the other.
use Rattle.std.proofs.Common.{◌≡◌, ℕ, ◌+◌, min, ◌≤◌, ◌<◌, List, [], ◌∷◌, length, get_or, refl, sym, ◌∙◌, ap}
use Rattle.std.proofs.{Common.{arith}, lemmas.Bool.{cases_eq, cases_lt, eq-eqb, ne_eqb}}
use Rattle.std.proofs.lemmas.List.{get_or_default, get_or_past}
use Rattle.shop_lanes.specs.{Marks.positions_among, Rows.Rows}
use Rattle.shop_layout.specs.{declared.legs.Leg.Leg, Legs.{all_legs, end_of, leg_index}}
use Rattle.shop_layout.specs.Positions.{LayoutState, position_of, position_or}
use Rattle.shop_layout.proofs.RouteLegs.{index_known, leg_behind, leg_here}
use Rattle.shop_states.specs.declared.late_raises.{LateMachine.LateMachine, Latest.Latest}
use Rattle.shop_states.specs.inner.Raises.{AsksNext, AsksOwn, IsPosition, IsStepPosition}
use Rattle.shop_states.specs.inner.{Raises.{IsRaisable, IsRaised, Raises, at_in, steps_of}, RisingLists.IsIn}
use Rattle.shop_states.specs.inner.Siblings.{CanRaiseLate, free_late}
use Rattle.shop_states.proofs.AskedHeads.{asked_same, asks_less, own_reached, raised_same, reach_next, reach_own}
use Rattle.shop_states.proofs.MarkedRaises.{AreBlocksRaised, blocks_begin, blocks_on, marks_can, marks_in}
use Rattle.shop_states.proofs.{Followed.position_or-there, MarkedRaises.marks_waiting}
use Rattle.shop_states.proofs.RaiseLoops.{AreMarksRaised, marks_begin, marks_end}
use Rattle.shop_states.proofs.RaiseLoops.{marks_on, popped_here, popped_raisable, popped_waits, raisable_less}
use Rattle.shop_states.proofs.RaiseLoops.{raises_more, raises_none, was_waiting}

-- behind one operation
module _ {greatest : ℕ} {l : LayoutState} {rows : Rows} {p free : ℕ}
    (can : IsRaisable greatest l [] rows (IsPosition p) (AsksNext l (λ x. free))) (some : 0 < get_or rows.heads p 0)
    (ends : free + get_or l.times p 0 ≤ greatest) where
  abbrev job : ℕ
  job = get_or l.jobs p 0

  abbrev step : ℕ
  step = get_or l.steps p 0

  pub its_step_position : IsStepPosition l p
  its_step_position = can.at_steps p some

  module _ {index : ℕ} (index_is : index ≡ leg_index l job (step + 1)) where
    pub its_leg : index < length (all_legs l)
    its_leg =
        let a = index_known l job its_step_position.job (step + 1) (let b = its_step_position.step in omega arith)
        in omega arith

    module _ {leg : Leg} (is : leg ≡ get_or (all_legs l) index (end_of 0)) where
      stands : leg.position ≡ position_or (length rows.heads) l.step_positions job (step + 1)
      stands = grind (arith, cases_lt, leg_here, its_step_position, position_or-there, leg_behind)

      pub leg_up_to : leg.position ≤ length rows.heads
      leg_up_to = grind (arith, stands, cases_lt, position_or-there)

      -- where the next operation on the route stands, if there is one
      next_at : step + 1 < steps_of l job → leg.position ≡ position_of l job (step + 1)
      next_at more = stands ∙ position_or-there l (length rows.heads) job (step + 1) more

      next_within : step + 1 < steps_of l job → leg.position < length rows.heads
      next_within more = grind (arith, next_at)

      module _ {head ready : ℕ} (looked : head ≡ get_or rows.heads leg.position greatest)
          (sum : ready ≡ free + get_or l.times p 0) where
        -- all that position p asks for
        asked_there : (r q v : ℕ) → r ≡ p → AsksNext l (λ x. free) r q v
            → (step + 1 < steps_of l job) × (q ≡ leg.position) × (v ≡ ready)
        asked_there r q v here asked =
            let its = rw here at asked
            in (its.more, its.next ∙ sym (next_at its.more), its.ready ∙ sym sum)

        -- the next operation is late enough, or there is none
        pub late_enough : ready ≤ head → Raises greatest l [] (IsPosition p) (AsksNext l (λ x. free)) rows rows
        late_enough enough = raises_none greatest l [] (IsPosition p) (AsksNext l (λ x. free)) rows can.order
            (λ r q v here asked waits.
            let is = asked_there r q v here asked
            in let next = ap (λ (x : ℕ). get_or rows.heads x 0) is.1
            in let read = get_or_default rows.heads leg.position greatest 0 (next_within is.0)
            in let v_is = is.2 in omega arith)

        module _ (below : head < ready) where
          pub next_there : leg.position < length rows.heads
          next_there = grind (arith, cases_lt, get_or_past, ends)

          pub next_read : head ≡ get_or rows.heads leg.position 0
          next_read = looked ∙ get_or_default rows.heads leg.position greatest 0 next_there

          more : step + 1 < steps_of l job
          more = grind (arith, cases_lt, next_there, stands)

          pub next_machine : leg.machine ≡ get_or l.machines leg.position 0
          next_machine = grind (arith, leg_here, its_step_position, more)

          pub next_waits : 0 < get_or rows.heads leg.position 0
          next_waits = grind (arith, its_step_position, more, next_at)

          -- any heads that are raised behind the operation are so at the next one
          raised_there : (other : ℕ → ℕ) → IsRaised l (IsPosition p) (AsksNext l (λ x. free)) (at_in rows.heads) other
              → IsRaised l (IsPosition leg.position) (AsksOwn ready) (at_in rows.heads) other
          raised_there other raised = asks_less raised (reach_own (λ q here waits.
              let up = raised.reach p leg.position ready refl
              (record { more = more; next = next_at more; ready = sum }) some
              in let same = ap other here in omega arith))

          pub next_raisable : IsRaisable greatest l [] rows (IsPosition leg.position) (AsksOwn ready)
          next_raisable = raisable_less can raised_there

          pub raised_behind : {new : Rows} → Raises greatest l [] (IsPosition leg.position) (AsksOwn ready) rows new
              → Raises greatest l [] (IsPosition p) (AsksNext l (λ x. free)) rows new
          raised_behind {new} raises = raises_more raises raised_there (λ r q v here asked waits.
              let is = asked_there r q v here asked
              in let up = own_reached raises.raised.raised leg.position refl next_waits
              in let next = ap (λ (x : ℕ). get_or new.heads x 0) is.1 in let v_is = is.2 in omega arith)

-- when a late machine is free for a position
abbrev pub free_on : LateMachine → ℕ → ℕ
free_on late = free_late late.last late.latest

pub free_last : (x : ℕ) (t : Latest) {p e : ℕ} → p ≡ x → e ≡ t.second → e ≡ free_late x t p
free_last x t {p} is free = rw (eq-eqb p x is) free

pub free_other : (x : ℕ) (t : Latest) {p e : ℕ} → (p ≡ x → ⊥) → e ≡ t.end → e ≡ free_late x t p
free_other x t {p} ne free = rw (ne_eqb p x ne) free

-- behind the operations of a late machine, in its blocks before `from`
abbrev pub AreLateRaised : ℕ → LayoutState → LateMachine → ℕ → Rows → Rows → Type 0
AreLateRaised greatest l late = AreBlocksRaised greatest l [] late.from late.behind (AsksNext l (free_on late))

module _ {greatest : ℕ} {l : LayoutState} {late : LateMachine} {old : Rows}
    (can : CanRaiseLate greatest l old late) where
  pub late_begins : AreLateRaised greatest l late late.from old old
  late_begins = blocks_begin late.from late.behind can.ordered can.can

  -- the next blocks, where these positions are marked
  module _ {from to : ℕ} {before : Rows} (so_far : AreLateRaised greatest l late from old before)
      (to_is : to ≡ min (from + 8) late.behind) {marks : List ℕ}
      (are : marks ≡ positions_among before.heads from to late.latest.end) where
    can_marks : IsRaisable greatest l [] before (IsIn marks) (AsksNext l (free_on late))
    can_marks = marks_can so_far can.can can.within to_is late.latest.end are

    pub late_marked : AreMarksRaised greatest l [] marks (AsksNext l (free_on late)) marks before before
    late_marked = marks_begin can_marks (marks_waiting so_far can.can can.within to_is late.latest.end are)

    module _ {todo : List ℕ} {now : Rows}
        (now_far : AreMarksRaised greatest l [] marks (AsksNext l (free_on late)) todo before now) where
      module _ {q : ℕ} {rest : List ℕ} (popped : todo ≡ q ∷ rest) where
        pub late_waits : 0 < get_or now.heads q 0
        late_waits = popped_waits can_marks now_far popped

        module _ {e : ℕ} (free_is : e ≡ free_on late q) where
          pub late_ends : e + get_or l.times q 0 ≤ greatest
          late_ends =
              let here = marks_in so_far can.can can.within to_is late.latest.end are q
              (popped_here can_marks now_far popped)
              in let waits = was_waiting so_far.raises.raised q (was_waiting now_far.raises.raised q late_waits)
              in let fits = can.ends q here waits in omega arith

          -- the position alone asks for the same
          pub late_can : IsRaisable greatest l [] now (IsPosition q) (AsksNext l (λ x. e))
          late_can = raisable_less (popped_raisable can_marks now_far popped) (λ other. raised_same free_is)

          pub late_on : {new : Rows} → Raises greatest l [] (IsPosition q) (AsksNext l (λ x. e)) now new
              → AreMarksRaised greatest l [] marks (AsksNext l (free_on late)) rest before new
          late_on x = marks_on can_marks now_far popped (raises_more x (λ other. raised_same free_is)
              (λ p r v here asked. x.raised.raised.reach p r v here (asked_same (sym free_is) p r v here asked)))

      pub late_all : todo ≡ [] → AreLateRaised greatest l late to old now
      late_all none = blocks_on so_far can.can can.within to_is late.latest.end are
          (λ p q v asked waits high. reach_next (at_in before.heads) so_far.raises.raised.raised.order
          (can.can.at_steps p (was_waiting so_far.raises.raised p waits)) waits
          (let second = can.second in grind (arith, cases_eq, eq-eqb, ne_eqb)) asked)
          (marks_end can_marks none now_far)
