-- Where a walk over states stands. `g` reads lanes as numbers.
--     AreHeld is word hs  each pending child along the word has its own state, if any
-- Of a walker:
--     walked w            what it carries, before anything is left
--     stage_of w          where it stands: what is pending is told without states
--     HasStates w         each child on its stack has its own state, if any
--     StandsAs v w        w stands where v stood, with the same current state
--     StandsAt w b        its word has bound b, below the incumbent; all that is pending, and its states, are in order
--     IsListedAt w b n    so, its word isn't full, and its candidates are at hand, but for n others
--     HasReachedFrom s w b  the walk went on from stage s to a child pending there, with bound b, and took it
--     HasReached v w b    the walk went on from v's word to one with bound b, and took it
--     HasGoneOn v w told  the walk went on from v's word to a child with the bound that is told, or had nowhere to go
use Rattle.std.specs.Prelude.{◌≡◌, ℕ, ◌+◌, ◌≤◌, ◌<◌, Option, Some, None, List, [], All, length}
use Rattle.shop_bound.specs.Bound.{lb}
use Rattle.shop_nodes.specs.Walking.{Walk}
use Rattle.shop_lanes.specs.declared.state_lanes.StateLanes.{Ghosts}
use Rattle.shop_states.specs.inner.WordStates.{IsStateOf}
use Rattle.shop_tree.specs.declared.{held.Held.Held, walkers.Walker.Walker}
use Rattle.shop_tree.specs.inner.{Held.{IsHeld, pending_in}, WalkStates.{IsStateIn, Lists}}
use Rattle.shop_tree.specs.inner.Walkers.{Stage, HasExpanded, HasFollowed, IsInOrder, stack_walk, turns_left, walk_on}

abbrev pub AreHeld : {S : Type 0} → (List ℕ → S → Type 0) → List ℕ → List (Held S) → Type 0
AreHeld is word hs = All (IsHeld is word) hs

module _ {L N : Type 0} {g : Ghosts L N} where
  abbrev pub walked : Walker L N g → Walk
  walked w = record { found = w.found; best = w.incumbent; left = []; budget = w.budget }

  abbrev pub stage_of : Walker L N g → Stage
  stage_of w = record {
    shop = w.instance.now;
    word = w.path.items;
    walk = walked w;
    stack = pending_in w.stack.items;
  }

  abbrev pub HasStates : Walker L N g → Type 0
  HasStates w = AreHeld (IsStateOf g w.states.dispatcher.laid_out) w.path.items w.stack.items

pub record StandsAs {L N : Type 0} {g : Ghosts L N} (v w : Walker L N g) : Type 0 where
  pub stage : stage_of w ≡ stage_of v
  pub candidates : w.candidates.items ≡ v.candidates.items
  pub laid_out : w.states.dispatcher.laid_out ≡ v.states.dispatcher.laid_out
  pub current : w.states.current.value ≡ v.states.current.value
  pub states : HasStates w

pub record StandsAt {L N : Type 0} {g : Ghosts L N} (w : Walker L N g) (b : ℕ) : Type 0 where
  pub bound : b ≡ lb w.instance.now w.path.items
  pub below : b < w.incumbent
  pub in_order : IsInOrder (stage_of w)
  pub states : HasStates w
  pub state : IsStateIn w.states w.path.items

pub record HasReachedFrom {L N : Type 0} {g : Ghosts L N} (s : Stage) (w : Walker L N g) (b : ℕ) : Type 0 where
  pub walk : walk_on (stage_of w) ≡ stack_walk s
  pub fewer : turns_left (stage_of w) + length s.shop.jobs + 1 < turns_left s
  pub shop : w.instance.now ≡ s.shop
  pub spent : w.budget ≤ s.walk.budget
  pub at : StandsAt w b

pub record IsListedAt {L N : Type 0} {g : Ghosts L N} (w : Walker L N g) (b n : ℕ) : Type 0 where
  pub at : StandsAt w b
  pub short : length w.path.items < w.operations
  pub candidates : Lists w.states w.path.items w.incumbent w.candidates.items n

pub record HasReached {L N : Type 0} {g : Ghosts L N} (v w : Walker L N g) (b : ℕ) : Type 0 where
  pub followed : HasFollowed (stage_of v) (stage_of w)
  pub spent : w.budget < v.budget
  pub at : StandsAt w b

abbrev pub HasGoneOn : {L N : Type 0} {g : Ghosts L N} → Walker L N g → Walker L N g → Option ℕ → Type 0
HasGoneOn v w (Some b) = HasReached v w b
HasGoneOn v w None = HasExpanded (stage_of v) (stage_of w) × HasStates w
