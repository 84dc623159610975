-- What is kept of a word in lanes.
--     AreHeadsInLanes greatest shop w ..   the heads of what the word leaves, one number a position
--     IsKeptInLanes greatest shop w ..     these heads, the word's next operations and their ends, and
--                                          that a sole candidate keeps its bound
--     HasRoom shop l heads ends nexts      there is room for heads, ends and next operations
use Rattle.std.specs.Prelude.{◌≡◌, ℕ, ◌<◌, ◌^◌, List, length, slice_set}
use Rattle.shop_lanes.specs.Rows.{Rows, with_end}
use Rattle.shop_model.specs.{Limits.IsWithinLimits, Shop.Shop, Word.{IsWord, placing}}
use Rattle.shop_bound.specs.Conflicts.{SoleCandidateKeepsBound}
use Rattle.shop_layout.specs.{HeadLimits.FitsLanes, Positions.{LayoutState, IsLaidOut, first_position, position_behind}}
use Rattle.shop_states.specs.{inner.LaneChoices.{AreEndsAt, AreNextsOf}, inner.LaneEnds.end_at}
use Rattle.shop_states.specs.inner.LaneHeads.{AreHeadsAt, AreHeadsFit}

pub record AreHeadsInLanes (greatest : ℕ) (shop : Shop) (w : List ℕ) (l : LayoutState) (rows : Rows) : Type 0 where
  pub limits : IsWithinLimits shop
  pub word : IsWord shop w
  pub laid : IsLaidOut shop l
  pub times : rows.times ≡ l.times
  pub tails : rows.tails ≡ l.tails
  pub fits : AreHeadsFit greatest shop
  pub computable : greatest < 2 ^ 64
  pub heads : AreHeadsAt shop (placing shop w) l rows.heads

pub record IsKeptInLanes (greatest : ℕ) (shop : Shop) (w : List ℕ) (l : LayoutState) (rows : Rows)
    (nexts : List ℕ) : Type 0 where
  pub kept : AreHeadsInLanes greatest shop w l rows
  pub are_next : AreNextsOf shop (placing shop w) l nexts
  pub ends : AreEndsAt greatest shop (placing shop w) rows.ends
  pub holds : FitsLanes greatest shop l
  pub sole : SoleCandidateKeepsBound shop w

pub record HasRoom (shop : Shop) (l : LayoutState) (heads ends nexts : List ℕ) : Type 0 where
  pub positions : length heads ≡ first_position l shop.machines
  pub jobs_with_ends : length ends ≡ length shop.jobs
  pub jobs_with_nexts : length nexts ≡ length shop.jobs

-- one more operation of a job goes on: its next operation follows, with its end
pub record GoesOn (greatest : ℕ) (l : LayoutState) (position job : ℕ) (old new : Rows)
    (before after : List ℕ) : Type 0 where
  pub are_next : after ≡ slice_set before job (position_behind l position)
  pub ends : new ≡ with_end old job (end_at greatest after old job)
