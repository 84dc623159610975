-- The state of a word over a layout d, and what a dispatch in it takes. `g` reads lanes as numbers.
--     DispatcherState         what contracts see of a dispatcher: its layout, and the ceilings of the word whose
--                             children were bounded together last
--     IsRoom g d s            s has room for a state
--     IsStateOf g d w s       s is the state of word w
--     IsCandidate d w c       the candidate's job and own bound are right for word w
--     IsStateWith g d c s w   s is the state of word w, of which c is a candidate
--     KnowsChild d cs w j     the child of word w by job j has the ceilings cs
use Rattle.std.specs.Prelude.{ℕ, List}
use Rattle.shop_lanes.specs.declared.state_lanes.StateLanes.{Ghosts}
use Rattle.shop_layout.specs.{LaidOuts.LaidOutState, Lanes.rows_of}
use Rattle.shop_states.specs.declared.states.{Candidate.Candidate, State.State}
use Rattle.shop_states.specs.inner.{AskedStates.IsKeptFor, Candidates.IsCandidateOf, Ceilings.AreChildCeilings}
use Rattle.shop_states.specs.inner.LaneStates.{HasRoom}

pub record DispatcherState : Type 0 where
  pub laid_out : LaidOutState
  pub ceilings : List ℕ

module _ (d : LaidOutState) where
  abbrev pub IsCandidate : List ℕ → Candidate → Type 0
  IsCandidate w c = IsCandidateOf d.shop w d.layout c.job c.own

  pub record KnowsChild (ceilings : List ℕ) (w : List ℕ) (job : ℕ) : Type 0 where
    pub known : AreChildCeilings d.shop w d.layout job ceilings

module _ {L N : Type 0} (g : Ghosts L N) (d : LaidOutState) where
  pub record IsRoom (s : State L N) : Type 0 where
    pub room : HasRoom d.shop d.layout (g.heads s.lanes) (g.ends s.lanes) s.next.items

  -- no record, so that proofs of a walk don't look into it
  pub data IsStateOf (w : List ℕ) (s : State L N) : Type 0 where
    of_word : IsKeptFor g.GREATEST d w (rows_of d.layout (g.heads s.lanes) (g.ends s.lanes)) s.next.items
        → IsStateOf w s

  abbrev pub IsStateWith : Candidate → State L N → List ℕ → Type 0
  IsStateWith c s w = IsStateOf w s × IsCandidate d w c
