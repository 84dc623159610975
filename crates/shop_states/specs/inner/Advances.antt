-- A state goes on by one operation.
--     IsAdvancing greatest shop w ..   the word w can go on with the job, and `least` lies between
--                                      what is foreseen of the longer word's bound and that bound
--     CanGoOn greatest l rows ..       some word is kept in lanes that can go on with the job
--     CanAdvance greatest l rows ..    some word is kept in lanes that can go on so, to a word whose
--                                      spans are no more than these ceilings
--     IsRaisedFor greatest l ..        `new` has the heads of the longer word, and becomes its rows by `GoesOn`
--     CanStrike greatest l rows ..     some word is kept in lanes whose conflict set is this job alone
use Rattle.std.specs.Prelude.{◌≡◌, ℕ, ◌+◌, ◌-◌, max, List, [], ◌∷◌, ◌++◌, slice_index, slice_set}
use Rattle.shop_lanes.specs.{Rows.Rows, Spans.span}
use Rattle.shop_model.specs.{Shop.Shop, Word.IsWord}
use Rattle.shop_bound.specs.Conflicts.{conflict}
use Rattle.shop_states.specs.{inner.Ceilings.AreChildCeilings, inner.ChildBounds.IsLeastAfter}
use Rattle.shop_states.specs.inner.{LaneEnds.CanKeepEnds, LaneStates.{GoesOn, IsKeptInLanes}}
use Rattle.shop_layout.specs.{Lanes.{lanes_on, rows_of}, Positions.{LayoutState, position_behind}}

-- `least` for the operation at a position
abbrev pub IsLeastAt : Shop → List ℕ → LayoutState → Rows → ℕ → ℕ → ℕ → Type 0
IsLeastAt shop w l rows job position least = IsLeastAfter shop w l rows job position (slice_index l.machines position)
    (slice_index rows.heads position + slice_index rows.times position) least

pub record IsAdvancing (greatest : ℕ) (shop : Shop) (w : List ℕ) (l : LayoutState) (rows : Rows)
    (nexts : List ℕ) (job least : ℕ) : Type 0 where
  pub kept : IsKeptInLanes greatest shop w l rows nexts
  pub fits : IsWord shop (w ++ job ∷ [])
  pub foreseen : IsLeastAt shop w l rows job (slice_index nexts job) least

pub record CanGoOn (greatest : ℕ) (l : LayoutState) (rows : Rows) (nexts : List ℕ) (job : ℕ) : Type 0 where
  pub shop : Shop
  pub word : List ℕ
  pub kept : IsKeptInLanes greatest shop word l rows nexts
  pub fits : IsWord shop (word ++ job ∷ [])

pub record CanAdvance (greatest : ℕ) (l : LayoutState) (rows : Rows) (nexts : List ℕ)
    (job least machines : ℕ) (ceilings : List ℕ) : Type 0 where
  pub shop : Shop
  pub word : List ℕ
  pub is : IsAdvancing greatest shop word l rows nexts job least
  pub machines_are : machines ≡ shop.machines
  pub ceilings_are : AreChildCeilings shop word l job ceilings

pub record IsRaisedFor (greatest : ℕ) (l : LayoutState) (position job : ℕ) (old new : Rows) (nexts : List ℕ) : Type 0
  where
    pub keep : CanKeepEnds greatest l (slice_set nexts job (position_behind l position)) new
    pub kept : (shop : Shop) (w : List ℕ) → IsKeptInLanes greatest shop w l old nexts → IsWord shop (w ++ job ∷ [])
        → (ended : Rows) (after : List ℕ) → GoesOn greatest l position job new ended nexts after
        → IsKeptInLanes greatest shop (w ++ job ∷ []) l ended after

pub record CanStrike (greatest : ℕ) (l : LayoutState) (rows : Rows) (nexts : List ℕ) (job : ℕ) : Type 0 where
  pub shop : Shop
  pub word : List ℕ
  pub kept : IsKeptInLanes greatest shop word l rows nexts
  pub sole : conflict shop word ≡ job ∷ []

-- the greatest of a number, of the end of that operation, and of what else waits there from it on
abbrev pub foreseen : LayoutState → List ℕ → List ℕ → ℕ → ℕ → ℕ
foreseen l heads ends position least =
    let end = slice_index heads position + slice_index l.times position
    in max (max least (end - 1))
    (span 1 end (lanes_on (rows_of l (slice_set heads position 0) ends) l
    (slice_index l.machines position)) - 1)
