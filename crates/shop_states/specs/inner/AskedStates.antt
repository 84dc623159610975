-- The state of a word of the instance that a caller gave, in a layout that numbers its machines anew.
--     IsKeptFor greatest d w rows nexts    these rows and next operations are kept of the word, whose
--                                          bounds and conflict sets are those of the instance given
use Rattle.std.specs.Prelude.{ℕ, List}
use Rattle.shop_lanes.specs.Rows.{Rows}
use Rattle.shop_model.specs.{Limits.IsWithinLimits, Word.IsWord}
use Rattle.shop_bound.specs.{Conflicts.SoleCandidateKeepsBound, Renumbered.AreAlike}
use Rattle.shop_layout.specs.LaidOuts.{LaidOutState}
use Rattle.shop_states.specs.inner.LaneStates.{IsKeptInLanes}

pub record IsKeptFor (greatest : ℕ) (d : LaidOutState) (w : List ℕ) (rows : Rows) (nexts : List ℕ) : Type 0 where
  pub alike : AreAlike d.asked d.shop
  pub limits : IsWithinLimits d.asked
  pub word : IsWord d.asked w
  pub sole : SoleCandidateKeepsBound d.asked w
  pub kept : IsKeptInLanes greatest d.shop w d.layout rows nexts
