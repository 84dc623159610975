-- What is marked in some blocks is raised, eight blocks after another.
use Rattle.std.proofs.Common.{◌≡◌, ℕ, ◌+◌, ◌*◌, ◌≤◌, ◌<◌, min, inl, inr, List, length, get_or, refl, sym, ◌∙◌, subst}
use Rattle.std.proofs.{Common.arith, lemmas.Bool.cases_lt}
use Rattle.shop_lanes.specs.{Marks.positions_among, Rows.Rows}
use Rattle.shop_layout.specs.Positions.{AreEven, LayoutState}
use Rattle.shop_states.specs.{declared.dispatches.Dispatch.Dispatch, inner.{Dispatches.marked_up_to, LaneRaises.Raise}}
use Rattle.shop_states.specs.inner.{MachineRaises.AreListed, RaiseCalls.{CanDelay, CanRaise, HasRaised}, Watchers.Sees}
use Rattle.shop_states.specs.inner.Raises.{AreWaiting, AsksOwn, IsInBlocks, IsOnMachine, IsRaisable, Raises}
use Rattle.shop_states.{specs.inner.RisingLists.IsIn, proofs.Watching.{sees_both, sees_none}}
use Rattle.shop_states.proofs.MarkedPositions.{IsBelow, below_is_in, below_rises, in_is_below}
use Rattle.shop_states.proofs.RaiseLoops.{go_on, raises_more, raises_none, still_raisable, then_raises, weaker}

-- a machine of a few blocks is marked to its end
pub all_marked : (l : LayoutState) (m each : ℕ) → AreEven l.blocks each → 0 < each → each ≤ 8
    → m + 1 < length l.blocks → marked_up_to l m ≡ get_or l.blocks (m + 1) 0
all_marked l m each even some few known = grind arith

-- of some blocks, those before `from` are raised
pub record AreBlocksRaised (greatest : ℕ) (l : LayoutState) (nexts : List ℕ) (first behind : ℕ)
    (asks : ℕ → ℕ → ℕ → Type 0) (from : ℕ) (old now : Rows) : Type 0 where
  pub ordered : first ≤ from
  pub within : from ≤ behind
  pub raises : Raises greatest l nexts (IsInBlocks first from) asks old now

pub blocks_begin : {greatest : ℕ} {l : LayoutState} {nexts : List ℕ} (first behind : ℕ)
    {asks : ℕ → ℕ → ℕ → Type 0} {old : Rows} → first ≤ behind
    → IsRaisable greatest l nexts old (IsInBlocks first behind) asks
    → AreBlocksRaised greatest l nexts first behind asks first old old
blocks_begin first behind ordered can = grind (arith, raises_none)

pub blocks_end : {greatest : ℕ} {l : LayoutState} {nexts : List ℕ} {first behind : ℕ} {asks : ℕ → ℕ → ℕ → Type 0}
    {from : ℕ} {old now : Rows} → AreBlocksRaised greatest l nexts first behind asks from old now → from ≡ behind
    → Raises greatest l nexts (IsInBlocks first behind) asks old now
blocks_end {greatest} {l} {nexts} {first} {asks = asks} {old = old} {now} so_far is =
    subst (λ (b : ℕ). Raises greatest l nexts (IsInBlocks first b) asks old now) is so_far.raises

-- in the next blocks, all that is to be raised is what is marked there
module _ {greatest : ℕ} {l : LayoutState} {nexts : List ℕ} {first behind : ℕ} {asks : ℕ → ℕ → ℕ → Type 0} {from : ℕ}
    {old now : Rows} (so_far : AreBlocksRaised greatest l nexts first behind asks from old now)
    (can : IsRaisable greatest l nexts old (IsInBlocks first behind) asks) (room : 8 * behind ≤ length old.heads)
    {to : ℕ} (to_is : to ≡ min (from + 8) behind) (e : ℕ) {marks : List ℕ}
    (are : marks ≡ positions_among now.heads from to e) where
  on : from ≤ to
  on = let within = so_far.within in omega arith

  room_now : 8 * to ≤ length now.heads
  room_now = let long = so_far.raises.raised.positions in omega arith

  marked_there : (q : ℕ) → IsIn marks q → IsBelow now.heads from to e q
  marked_there q h = in_is_below now.heads from to e on room_now q (subst (λ (xs : List ℕ). IsIn xs q) are h)

  pub marks_in : (q : ℕ) → IsIn marks q → IsInBlocks first behind q
  marks_in q h =
      let there = (marked_there q h).there in let above = there.0 in let below = there.1 in let low = so_far.ordered
      in (omega arith, omega arith)

  pub marks_waiting : AreWaiting now.heads marks
  marks_waiting = grind (arith, marked_there, below_rises, on, room_now)

  pub marks_can : IsRaisable greatest l nexts now (IsIn marks) asks
  marks_can = still_raisable can so_far.raises (λ other. go_on (IsInBlocks first from) (IsIn marks)
      (IsInBlocks first behind) other so_far.raises.raised
      (λ q h. let above = h.0 in let below = h.1 in let within = so_far.within in (omega arith, omega arith)) marks_in)

  -- where what begins at e or later asks for nothing more
  module _ (enough : (p q v : ℕ) → asks p q v → 0 < get_or now.heads p 0 → e ≤ get_or now.heads p 0
      → v ≤ get_or now.heads q 0) {new : Rows} (x : Raises greatest l nexts (IsIn marks) asks now new) where
    these_blocks : Raises greatest l nexts (IsInBlocks from to) asks now new
    these_blocks = raises_more x (λ other. weaker (IsInBlocks from to) (IsIn marks) (λ q h. (marked_there q h).there))
        (λ p q v here asked waits. elim (cases_lt (get_or now.heads p 0) e) [
          | inl below ↦ x.raised.raised.reach p q v (subst (λ (xs : List ℕ). IsIn xs p) (sym are)
              (below_is_in now.heads from to e on room_now p
              (record { there = here; waits = waits; below = below }))) asked waits
          | inr high ↦ (let up = x.raised.raised.rises q in let reached = enough p q v asked waits high in omega arith)
        ])

    pub blocks_on : AreBlocksRaised greatest l nexts first behind asks to old new
    blocks_on = record {
      ordered = let low = so_far.ordered in omega (arith, on);
      within = omega arith;
      raises = then_raises (IsInBlocks first to) so_far.raises these_blocks
          (λ q h. let above = h.0 in let below = h.1 in elim (cases_lt q (8 * from)) [
            | inl early ↦ inl (above, early)
            | inr late ↦ inr (late, below)
          ])
          (λ q h. let above = h.0 in let below = h.1 in (omega arith, omega (arith, on)))
          (λ q h. let above = h.0 in let below = h.1 in let low = so_far.ordered in (omega arith, omega arith));
    }

-- what a dispatch delays is raised in the blocks of its machine before `from`
abbrev pub AreDelayedRaised : ℕ → LayoutState → List ℕ → Dispatch → ℕ → Rows → Rows → Type 0
AreDelayedRaised greatest l nexts d = AreBlocksRaised greatest l nexts (get_or l.blocks d.machine 0)
    (get_or l.blocks (d.machine + 1) 0) (AsksOwn d.end)

-- and how far later heads rose is noted
pub record AreRaisedUpTo (greatest : ℕ) (l : LayoutState) (nexts : List ℕ) (d : Dispatch) (from : ℕ)
    (old now : Rows) (before after : List Raise) : Type 0 where
  pub blocks : AreDelayedRaised greatest l nexts d from old now
  pub seen : Sees l.machines (IsOnMachine l d.machine) d.end old.heads now.heads before after
  pub machines : length after ≡ length before

module _ {greatest : ℕ} {l : LayoutState} {nexts : List ℕ} {old : Rows} {d : Dispatch}
    (can : CanDelay greatest l nexts old d) where
  abbrev first : ℕ
  first = get_or l.blocks d.machine 0

  abbrev behind : ℕ
  behind = get_or l.blocks (d.machine + 1) 0

  pub delayed_begin : AreDelayedRaised greatest l nexts d first old old
  delayed_begin = blocks_begin first behind can.machine.ordered can.raisable

  pub raised_begins : {before : List Raise} → AreRaisedUpTo greatest l nexts d first old old before before
  raised_begins = record { blocks = delayed_begin; seen = sees_none; machines = refl }

  -- the next blocks, where these positions are marked
  module _ {from : ℕ} {now : Rows} (so_far : AreDelayedRaised greatest l nexts d from old now) {marks : List ℕ}
      (marked : marks ≡ positions_among now.heads from (min (from + 8) behind) d.end) where
    pub marks_wait : AreWaiting now.heads marks
    marks_wait = marks_waiting so_far can.raisable can.machine.within refl d.end marked

    pub marks_can_raise : CanRaise greatest l nexts (IsIn marks) d.end now
    marks_can_raise = record {
      fits = can.fits;
      raisable = marks_can so_far can.raisable can.machine.within refl d.end marked;
      jobs = can.jobs;
    }

    pub delayed_on : {new : Rows} → Raises greatest l nexts (IsIn marks) (AsksOwn d.end) now new
        → AreDelayedRaised greatest l nexts d (min (from + 8) behind) old new
    delayed_on = blocks_on so_far can.raisable can.machine.within refl d.end marked
        (λ p q v asked waits high. rw (asked.0, asked.1) high)

    pub raised_on : {before mid : List Raise} → AreRaisedUpTo greatest l nexts d from old now before mid
        → {new : Rows} {after : List Raise} {listed : List ℕ}
        → HasRaised greatest l nexts (IsIn marks) d.end now new mid after listed
        → AreRaisedUpTo greatest l nexts d (min (from + 8) behind) old new before after
    raised_on so x = record {
      blocks = delayed_on x.raises;
      seen = sees_both (IsOnMachine l d.machine) (IsIn marks) (IsOnMachine l d.machine) (λ q h. h)
          (marks_in so_far can.raisable can.machine.within refl d.end marked) x.raises.raised.raised.rises so.seen
          x.seen;
      machines = x.machines ∙ so.machines;
    }

  -- all are done
  pub raised_ends : {from : ℕ} {now : Rows} {before after : List Raise} → from ≡ behind
      → AreRaisedUpTo greatest l nexts d from old now before after → {listed : List ℕ} → AreListed after listed
      → HasRaised greatest l nexts (IsOnMachine l d.machine) d.end old now before after listed
  raised_ends is so are =
      record { raises = blocks_end so.blocks is; seen = so.seen; listed = are; machines = so.machines }
