-- The candidates of a word, with what each is known to bring the bound to.
--     own_at l heads q             the own span of the operation at position q on its machine
--     told_at nexts first owns j   the bound that own spans, told from position `first` on, tell for job j
--     IsTold nexts first count j   the next operation of job j is among the `count` positions from `first` on
--     IsCandidateOf shop w l job own  the word can go on with the job, and `own` adds to its bound what the own span
--                                  does
--     ListsOwn limit own js cs n   a candidate for each of the jobs, in order, with its own number, but for n jobs
--                                  whose own numbers reach the limit
--     ListsGathered limit own ..   the candidates of a list of jobs that is gathered
--     AreCandidatesOf shop w l ..  the candidates of the conflict set, but for some jobs with which the bound reaches
--                                  the limit
--     CanGather greatest l ..      lanes and next operations are those of some word
--     IsChosenBy .. first          the next operation of the chosen job can end first, on this machine, and what waits
--                                  there with a head below its end is in the conflict set
use Rattle.std.specs.Prelude.{◌≡◌, ℕ, zero, suc, ◌+◌, ◌-◌, ◌*◌, ◌^◌, ◌≤◌, ◌<◌, max, List, [], ◌∷◌, ◌++◌, length}
use Rattle.std.specs.Prelude.{slice_index}
use Rattle.shop_lanes.specs.{Rows.Rows, Spans.own_span}
use Rattle.shop_model.specs.{Shop.Shop, Word.{IsWord, placing}}
use Rattle.shop_bound.specs.{Bound.lb, Conflicts.conflict}
use Rattle.shop_states.specs.{States.ListsBelow, inner.LaneChoices.{AreConflictBlocks, AreNextsOfJobs, IsJobBelow}}
use Rattle.shop_states.specs.inner.{LaneHeads.AreHeadsAt, LaneStates.IsKeptInLanes, RisingLists.{IsGatheredWith, IsIn}}
use Rattle.shop_states.specs.inner.Raises.{HasBlocks, IsInBlocks, IsOnMachine}
use Rattle.shop_states.specs.declared.{lane_choices.ConflictBlocks.ConflictBlocks, states.Candidate.Candidate}
use Rattle.shop_states.specs.declared.candidate_lists.FirstEnd.{FirstEnd}
use Rattle.shop_layout.specs.Positions.{LayoutState, position_of}

abbrev pub own_at : LayoutState → List ℕ → ℕ → ℕ
own_at l heads q =
    let m = slice_index l.machines q
    in own_span heads l.times l.tails (slice_index l.blocks m) (slice_index l.blocks (m + 1)) q

abbrev pub told_at : List ℕ → ℕ → List ℕ → ℕ → ℕ
told_at nexts first owns j = slice_index owns (slice_index nexts j - first) - 1

pub record IsTold (nexts : List ℕ) (first count j : ℕ) : Type 0 where
  pub job : j < length nexts
  pub from : first ≤ slice_index nexts j
  pub to : slice_index nexts j < first + count

pub record IsCandidateOf (shop : Shop) (w : List ℕ) (l : LayoutState) (job own : ℕ) : Type 0 where
  pub fits : IsWord shop (w ++ job ∷ [])
  pub adds : (heads : List ℕ) → AreHeadsAt shop (placing shop w) l heads → max (lb shop w) own
      ≡ max (lb shop w) (own_at l heads (position_of l job ((placing shop w).steps job)) - 1)

pub data ListsOwn (limit : ℕ) (own : ℕ → ℕ) : List ℕ → List Candidate → ℕ → Type 0 where
  empty : ListsOwn limit own [] [] zero
  taken : {js : List ℕ} {cs : List Candidate} {n : ℕ} (j : ℕ) (c : Candidate) → c.job ≡ j
      → c.own ≡ own j → own j < limit → ListsOwn limit own js cs n → ListsOwn limit own (j ∷ js) (c ∷ cs) n
  left_out : {js : List ℕ} {cs : List Candidate} {n : ℕ} (j : ℕ) → limit ≤ own j
      → ListsOwn limit own js cs n → ListsOwn limit own (j ∷ js) cs (suc n)

pub record ListsGathered (limit : ℕ) (own : ℕ → ℕ) (IsGathered : List ℕ → Type 0)
    (cs : List Candidate) (others : ℕ) : Type 0 where
  pub jobs : List ℕ
  pub gathered : IsGathered jobs
  pub listed : ListsOwn limit own jobs cs others

-- the conflict set lies in these blocks, and the own span of each of its jobs is told
pub record CanList (greatest : ℕ) (l : LayoutState) (rows : Rows) (nexts : List ℕ)
    (blocks : ConflictBlocks) (count : ℕ) : Type 0 where
  pub blocks_are : AreConflictBlocks greatest rows.heads blocks
  pub computable : 8 * blocks.from < 2 ^ 64
  pub nexts_of_jobs : AreNextsOfJobs l rows.heads nexts
  pub few : length nexts < 1024
  pub known : blocks.chosen < length nexts
  pub told : (js : List ℕ) → IsGatheredWith blocks.chosen
      (IsJobBelow l rows.heads (IsInBlocks blocks.from blocks.behind) blocks.end) js
      → (j : ℕ) → IsIn js j → IsTold nexts (8 * blocks.from) count j

abbrev pub AreCandidatesOf : Shop → List ℕ → LayoutState → ℕ → List Candidate → ℕ → Type 0
AreCandidatesOf shop w l limit cs others =
    ListsBelow shop w limit (λ c. IsCandidateOf shop w l c.job c.own) (conflict shop w) cs others

pub record CanGather (greatest : ℕ) (l : LayoutState) (rows : Rows) (nexts : List ℕ) : Type 0 where
  pub shop : Shop
  pub word : List ℕ
  pub kept : IsKeptInLanes greatest shop word l rows nexts

pub record IsChosenBy (greatest : ℕ) (shop : Shop) (w : List ℕ) (l : LayoutState)
    (heads nexts : List ℕ) (first : FirstEnd) : Type 0 where
  pub known : first.chosen < length nexts
  pub machine_is : first.machine ≡ slice_index l.machines (slice_index nexts first.chosen)
  pub blocks : HasBlocks l (length heads) first.machine
  pub fits : first.end ≤ greatest
  pub has : IsIn (conflict shop w) first.chosen
  pub set : (js : List ℕ) → IsGatheredWith first.chosen
      (IsJobBelow l heads (IsOnMachine l first.machine) first.end) js → js ≡ conflict shop w
