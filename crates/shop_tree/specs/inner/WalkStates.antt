-- What the states of a walk hold.
--     HaveStayed old new      the dispatcher, the current state and the trial's are the same
--     IsStateIn s w           the current state is that of word w
--     Lists s w limit cs n    the candidates of w with own numbers below the limit are cs, and there are n others
--     CanTake s c bound       the current state is that of some word of this bound, which can go on with candidate c
--     CanTakeKnown s c bound  so, and the dispatcher has the ceilings of the child
--     HasTaken s c bound limit answer child
--                             the child by c has the bound that is answered, if below the limit, and then this state
--     IsBranchingOf s b       b tells the current word, its bound and its candidates rightly
--     AreBounded s b top      the children of b were bounded together, and those that `top` settles have these bounds
--     HasPutAll s b old new n on top of the old stack lie the children of b below its limit, and there are n others
use Rattle.std.specs.Prelude.{◌≡◌, ℕ, ◌≤◌, Option, List, All}
use Rattle.shop_bound.specs.Bound.{lb}
use Rattle.shop_lanes.specs.declared.state_lanes.StateLanes.{Ghosts}
use Rattle.shop_layout.specs.LaidOuts.{LaidOutState}
use Rattle.shop_states.specs.States.{CanDispatch, HasDispatched, ListsBelow, Settles}
use Rattle.shop_states.specs.declared.states.{Candidate.Candidate, State.State}
use Rattle.shop_states.specs.inner.WordStates.{IsCandidate, IsStateOf, IsStateWith, KnowsChild}
use Rattle.shop_nodes.specs.Branching.{conflict}
use Rattle.shop_tree.specs.declared.{held.Held.Held, walk_states.{Branching.Branching, WalkStates.WalkStates}}
use Rattle.shop_tree.specs.inner.Tried.{HasPutChildren}

pub record HaveStayed {L N : Type 0} {g : Ghosts L N} (old new : WalkStates L N g) : Type 0 where
  pub dispatcher : new.dispatcher ≡ old.dispatcher
  pub current : new.current.value ≡ old.current.value
  pub trial : new.trial.value ≡ old.trial.value

module _ {L N : Type 0} {g : Ghosts L N} (s : WalkStates L N g) where
  abbrev d : LaidOutState
  d = s.dispatcher.laid_out

  abbrev pub IsStateIn : List ℕ → Type 0
  IsStateIn w = IsStateOf g d w s.current.value

  abbrev pub Lists : List ℕ → ℕ → List Candidate → ℕ → Type 0
  Lists w limit cs n = ListsBelow d.asked w limit (IsCandidate d w) (conflict d.asked w) cs n

  abbrev pub CanTake : Candidate → ℕ → Type 0
  CanTake c bound = CanDispatch d.asked (IsStateWith g d c s.current.value) c.job bound

  abbrev pub CanTakeKnown : Candidate → ℕ → Type 0
  CanTakeKnown c bound = CanDispatch d.asked
      (λ w. IsStateWith g d c s.current.value w × KnowsChild d s.dispatcher.ceilings w c.job) c.job bound

  abbrev pub HasTaken : Candidate → ℕ → ℕ → Option ℕ → State L N → Type 0
  HasTaken c bound limit told child = HasDispatched d.asked (IsStateWith g d c s.current.value)
      (λ w. IsStateOf g d w child) c.job bound limit told

  pub record IsBranchingOf (b : Branching) : Type 0 where
    pub state : IsStateIn b.word.now
    pub bound : b.bound ≡ lb d.asked b.word.now
    pub listed : Lists b.word.now b.limit b.candidates.now b.closed

  pub record AreBounded (b : Branching) (top : ℕ) : Type 0 where
    pub settled : Settles d.asked b.word.now b.bound top b.candidates.now
    pub known : All (λ c. KnowsChild d s.dispatcher.ceilings b.word.now c.job) b.candidates.now

  pub record HasPutAll (b : Branching) (old new : List (Held (State L N))) (n : ℕ) : Type 0 where
    pub put : HasPutChildren (IsStateOf g d) d.asked b.limit b.word.now old new n
    pub more : b.closed ≤ n
