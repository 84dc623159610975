-- What the children of a word have in common: heads behind the operations of one machine are raised
-- as if that machine were free late.
--     HasRaisedBehind greatest l ..  heads are raised behind each of these positions, as if the operation there
--                                    began at `free`, and how far they rose is noted for listed machines
--     job_at cs i                    the job of candidate i
--     IsAmong cs j                   one of the candidates is job j
--     end_by heads times nexts j     when the next operation of job j ends
--     CanEnd greatest l heads ..     that can be told
--     AreLatest ends cs latest       of these candidates the one that ends last, with its end, and
--                                    the latest end of the others
--     free_late x latest p           when the machine is free for position p: at the latest end, or for x, the
--                                    position of the operation that ends last, at the latest end of the others
--     CanRaiseLate greatest l ..     a late machine's blocks are among the positions; heads can be raised behind
--                                    its operations; and these, if they begin when it is free for them, end
--                                    within lanes
--     HasRaisedLate greatest l ..    heads are raised behind the operations of a late machine, and how far they
--                                    rose is noted
--     AreSiblings shop w cs          the word goes on with each candidate, all on one machine
--     CanBoundChildren greatest ..   lanes and next operations are those of some word of this bound,
--                                    which goes on with these candidates
--     BoundsRaises l rows old cs ..  each number is at least `least` and the spans that begin within
--                                    the raise of its machine; b is at least each number
use Rattle.std.specs.Prelude.{◌≡◌, ℕ, ◌+◌, ◌*◌, ◌≤◌, ◌<◌, ◌^◌, ◌⊎◌, List, [], ◌∷◌, ◌++◌, length, slice_index}
use Rattle.std.specs.Prelude.{slice_index_or, ◌==◌, if◌then◌else◌}
use Rattle.shop_lanes.specs.{Rows.Rows, Spans.spans_between}
use Rattle.shop_model.specs.{Shop.{Shop, machine_of}, Word.{IsWord, placing}}
use Rattle.shop_bound.specs.Bound.{lb}
use Rattle.shop_layout.specs.{Lanes.lanes_on, Positions.LayoutState}
use Rattle.shop_states.specs.inner.Raises.{AsksNext, IsInBlocks, IsRaisable, Raises}
use Rattle.shop_states.specs.{declared.late_raises.LateMachine.LateMachine, declared.states.Candidate.Candidate}
use Rattle.shop_states.specs.{inner.LaneRaises.{Raise, raise_of}, declared.late_raises.Latest.Latest}
use Rattle.shop_states.specs.inner.Watchers.{Watches, no_floor}
use Rattle.shop_states.specs.{inner.LaneStates.IsKeptInLanes, inner.MachineRaises.{AreEmpty, AreListed}}

pub record HasRaisedBehind (greatest : ℕ) (l : LayoutState) (among : ℕ → Type 0) (free : ℕ → ℕ) (old new : Rows)
    (before after : List Raise) (raised : List ℕ) : Type 0 where
  pub raises : Raises greatest l [] among (AsksNext l free) old new
  pub noted : Watches no_floor l.machines old.heads new.heads before after
  pub listed : AreListed after raised

abbrev pub job_at : List Candidate → ℕ → ℕ
job_at cs i = (slice_index_or cs i (record { job = 0; own = 0 })).job

pub record IsAmong (cs : List Candidate) (j : ℕ) : Type 0 where
  pub at : ℕ
  pub within : at < length cs
  pub is : job_at cs at ≡ j

abbrev pub end_by : List ℕ → List ℕ → List ℕ → ℕ → ℕ
end_by heads times nexts j = slice_index heads (slice_index nexts j) + slice_index times (slice_index nexts j)

pub record CanEnd (greatest : ℕ) (l : LayoutState) (heads nexts : List ℕ) (j : ℕ) : Type 0 where
  pub job : j < length nexts
  pub position : slice_index nexts j < length heads
  pub timed : slice_index nexts j < length l.times
  pub fits : end_by heads l.times nexts j ≤ greatest
  pub computable : greatest < 2 ^ 64

pub record AreLatest (ends : ℕ → ℕ) (cs : List Candidate) (t : Latest) : Type 0 where
  pub last : IsAmong cs t.job
  pub end : t.end ≡ ends t.job
  pub each : (i : ℕ) → i < length cs → ends (job_at cs i) ≤ t.end
  pub others : (i : ℕ) → i < length cs → (job_at cs i ≡ t.job → ⊥) → ends (job_at cs i) ≤ t.second
  pub second : (t.second ≡ 0) ⊎ ((j : ℕ) × (IsAmong cs j × ((j ≡ t.job → ⊥) × (t.second ≡ ends j))))

abbrev pub free_late : ℕ → Latest → ℕ → ℕ
free_late x latest p = if p == x then latest.second else latest.end

pub record CanRaiseLate (greatest : ℕ) (l : LayoutState) (rows : Rows) (late : LateMachine) : Type 0 where
  pub ordered : late.from ≤ late.behind
  pub within : 8 * late.behind ≤ length rows.heads
  pub second : late.latest.second ≤ late.latest.end
  pub fits : late.latest.end ≤ greatest
  pub ends : (q : ℕ) → IsInBlocks late.from late.behind q → 0 < slice_index rows.heads q
      → free_late late.last late.latest q + slice_index l.times q ≤ greatest
  pub can : IsRaisable greatest l [] rows (IsInBlocks late.from late.behind)
      (AsksNext l (free_late late.last late.latest))

abbrev pub HasRaisedLate : ℕ → LayoutState → LateMachine → Rows → Rows → List Raise → List Raise → List ℕ → Type 0
HasRaisedLate greatest l late =
    HasRaisedBehind greatest l (IsInBlocks late.from late.behind) (free_late late.last late.latest)

pub record AreSiblings (shop : Shop) (w : List ℕ) (cs : List Candidate) : Type 0 where
  pub fits : (i : ℕ) → i < length cs → IsWord shop (w ++ job_at cs i ∷ [])
  pub machine : (i k : ℕ) → i < length cs → k < length cs
      → machine_of shop (job_at cs i) ((placing shop w).steps (job_at cs i))
      ≡ machine_of shop (job_at cs k) ((placing shop w).steps (job_at cs k))

pub record CanBoundChildren (greatest : ℕ) (l : LayoutState) (rows : Rows) (nexts : List ℕ)
    (cs : List Candidate) (bound machines : ℕ) : Type 0 where
  pub shop : Shop
  pub word : List ℕ
  pub kept : IsKeptInLanes greatest shop word l rows nexts
  pub siblings : AreSiblings shop word cs
  pub bound_is : bound ≡ lb shop word
  pub machines_are : machines ≡ shop.machines

pub record BoundsRaises (l : LayoutState) (rows : Rows) (old new : List Raise) (cs : List ℕ)
    (least b : ℕ) : Type 0 where
  pub empty : AreEmpty new
  pub long : length new ≡ length old
  pub low : least ≤ b
  pub least_of : (m : ℕ) → m < length cs → least ≤ slice_index cs m
  pub covers : (m : ℕ) → m < length cs
      → spans_between (raise_of old m).from (raise_of old m).to (lanes_on rows l m) ≤ slice_index cs m
  pub most : (m : ℕ) → m < length cs → slice_index cs m ≤ b
