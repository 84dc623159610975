-- Pending children with their states, whatever a state is: `is w s` says that s is the state of w.
--     Kept S                          a child that was tried and is kept, with its state, if any
--     IsHeldOf is w state             the state, if there is one, is that of w
--     IsKept is word k                a kept child of the word has its own state, if any
--     IsHeld is word h                an entry of the stack has its own state, if any; closed children have none
--     opens_in ks, pending_in hs      kept children, and entries of the stack, without their states
--     held k                          the entry of the stack for a kept child
--     bound_of x                      the bound of a pending open child, and 0 of closed ones
--     with_held_rest stack depth n    the stack with n closed children of a word of `depth` entries on top, if any
--     HasSetRestBelow i depth n m ..  n closed children at index i, below some kids, become m
--     AreRooms room current ..        the current state, the trial's and the spare ones have room
use Rattle.std.specs.Prelude.{◌≡◌, ℕ, zero, suc, [], ◌∷◌, ◌++◌, Option, Some, None, List, length, map, take, All}
use Rattle.std.specs.Global.{Box}
use Rattle.shop_nodes.specs.declared.halts.{Open.Open, Pending.{Pending, TheVariants.{Child, Rest}}}
use Rattle.shop_nodes.specs.Halts.{open_child, word_at}
use Rattle.shop_tree.specs.declared.held.Held.{Held}

pub record Kept (S : Type 0) : Type 0 where
  pub «open» : Open
  pub state : Option (Box S)

abbrev pub bound_of : Pending → ℕ
bound_of (Child job depth bound) = bound
bound_of (Rest depth count) = 0

module _ {S : Type 0} where
  abbrev pub opens_in : List (Kept S) → List Open
  opens_in ks = map (λ k. k.open) ks

  abbrev pub pending_in : List (Held S) → List Pending
  pending_in hs = map (λ h. h.pending) hs

  abbrev pub held : Kept S → Held S
  held k = record { pending = open_child k.open; state = k.state }

  abbrev pub with_held_rest : List (Held S) → ℕ → ℕ → List (Held S)
  with_held_rest stack depth zero = stack
  with_held_rest stack depth (suc n) = stack ++ record { pending = Rest depth (suc n); state = None } ∷ []

abbrev pub HasSetRestBelow : {S : Type 0} → ℕ → ℕ → ℕ → ℕ → List (Held S) → List (Held S) → Type 0
HasSetRestBelow {S} index depth known count old new = (below kids : List (Held S)) → index ≡ length below
    → old ≡ with_held_rest below depth known ++ kids → new ≡ with_held_rest below depth count ++ kids

module _ {S : Type 0} (is : List ℕ → S → Type 0) where
  abbrev pub IsHeldOf : List ℕ → Option (Box S) → Type 0
  IsHeldOf w None = Unit {0}
  IsHeldOf w (Some b) = is w b.value

  abbrev pub IsKept : List ℕ → Kept S → Type 0
  IsKept word k = IsHeldOf (word_at word k.open) k.state

  abbrev pub IsHeldAs : List ℕ → Pending → Option (Box S) → Type 0
  IsHeldAs word (Child job depth bound) state = IsHeldOf (take depth word ++ job ∷ []) state
  IsHeldAs word (Rest depth count) state = state ≡ None

  abbrev pub IsHeld : List ℕ → Held S → Type 0
  IsHeld word h = IsHeldAs word h.pending h.state

pub record AreRooms {S : Type 0} (room : S → Type 0) (current trial : S) (spare : List (Box S)) : Type 0 where
  pub current_is : room current
  pub trial_is : room trial
  pub spare_are : All (λ b. room b.value) spare
