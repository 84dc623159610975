-- Heads by position that are set anew.
--     IsStored shop p l old new j k  the head of step k of job j was set, and one more, or left as it
--                                    was where the step is placed
--     CanFill greatest shop l rows   all heads of what was placed can be set
--     HasFilledJob shop l s j ..     the heads of a job were set
--     IsAtSomeLeg, IsOnSomeRoute     job j is ready for leg `index`, its next one after some word; some job is
--     IsNextSet shop l p j ..        the next operation of a job is told, and its end was set
use Rattle.std.specs.Prelude.{◌≡◌, ℕ, ◌+◌, ◌≤◌, ◌<◌, ◌^◌, List, length, slice_index}
use Rattle.shop_lanes.specs.Rows.{Rows}
use Rattle.shop_model.specs.{Limits.IsWithinLimits, Shop.{Shop, IsOperation, route_of}, Word.Placing}
use Rattle.shop_model.specs.Placements.{PlacementState, IsPlacement}
use Rattle.shop_bound.specs.{Conflicts.next_end, Heads.head_of, inner.PlacedWords.IsOfWord}
use Rattle.shop_states.specs.inner.LaneHeads.{AreHeadsFit}
use Rattle.shop_layout.specs.Positions.{IsLaidOut, LayoutState, first_position, position_of, position_or}
use Rattle.shop_layout.specs.Legs.{leg_index}

pub record IsStored (shop : Shop) (p : Placing) (l : LayoutState) (old new : List ℕ) (j k : ℕ) : Type 0 where
  pub waiting : p.steps j ≤ k → slice_index new (position_of l j k) ≡ head_of shop p j k + 1
  pub placed : k < p.steps j → slice_index new (position_of l j k) ≡ slice_index old (position_of l j k)

pub record CanFill (greatest : ℕ) (shop : Shop) (l : LayoutState) (rows : Rows) : Type 0 where
  pub limits : IsWithinLimits shop
  pub laid : IsLaidOut shop l
  pub fits : AreHeadsFit greatest shop
  pub computable : greatest < 2 ^ 64
  pub positions : length rows.heads ≡ first_position l shop.machines

-- the heads, and maybe the ends, differ
pub record AreSameBeside (old new : Rows) : Type 0 where
  pub times : new.times ≡ old.times
  pub tails : new.tails ≡ old.tails
  pub positions : length new.heads ≡ length old.heads

pub record HasFilledJob (shop : Shop) (l : LayoutState) (s : PlacementState) (j : ℕ) (old new : Rows) : Type 0 where
  pub beside : AreSameBeside old new
  pub filled : (p : Placing) → IsPlacement shop p s → (k : ℕ) → IsOperation shop j k
      → IsStored shop p l old.heads new.heads j k
  pub others : (q : ℕ) → ((k : ℕ) → IsOperation shop j k → position_of l j k ≡ q → ⊥)
      → slice_index new.heads q ≡ slice_index old.heads q

-- job j is ready for leg `index`, which is its next one in the placement of a word
pub record IsAtLeg (shop : Shop) (l : LayoutState) (s : PlacementState) (j index ready : ℕ)
    (free : List ℕ) : Type 0 where
  pub of : IsOfWord shop s
  pub index_is : index ≡ leg_index l j (slice_index s.steps j)
  pub ready_is : ready ≡ slice_index s.ready j
  pub free_is : free ≡ s.free

pub record IsAtSomeLeg (shop : Shop) (l : LayoutState) (j index ready : ℕ) (free : List ℕ) : Type 0 where
  pub placement : PlacementState
  pub at : IsAtLeg shop l placement j index ready free

pub record IsOnSomeRoute (shop : Shop) (l : LayoutState) (index ready : ℕ) (free : List ℕ) : Type 0 where
  pub job : ℕ
  pub known : job < length shop.jobs
  pub some : IsAtSomeLeg shop l job index ready free

-- the next operation of job j stands at `position`, and its end was set; where it has none, no end
pub record IsNextSet (shop : Shop) (l : LayoutState) (p : Placing) (j position : ℕ) (old new : List ℕ) : Type 0 where
  pub is : position ≡ position_or (first_position l shop.machines) l.step_positions j (p.steps j)
  pub long : length new ≡ length old
  pub next : IsOperation shop j (p.steps j) → slice_index new j ≡ next_end shop p j + 1
  pub none : length (route_of shop j) ≤ p.steps j → slice_index new j ≡ slice_index old j
  pub others : (i : ℕ) → (i ≡ j → ⊥) → slice_index new i ≡ slice_index old i
