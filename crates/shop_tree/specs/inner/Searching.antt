-- The walk of what is pending on a stack.
--     walk_stack shop word s stack  the walks of all that is pending, from the top of the stack on
--     Adds shop best word old new   on top of the old stack lie the children of word, the first one on top
--     opening_walk best budget      a walk that begins: nothing is found, nothing is left
--     entered shop t w              where a walk comes to that goes on from w, taken with a bound below the best
use Rattle.std.specs.{Prelude.{◌≡◌, ℕ, zero, suc, Some, None, List, [], ◌++◌, length, fold}, List.AllByRecursion}
use Rattle.shop_model.specs.Shop.{Shop}
use Rattle.shop_bound.specs.Bound.{lb}
use Rattle.shop_nodes.specs.{Branching.branch, Halts.{stack_words, IsPending}}
use Rattle.shop_nodes.specs.{Walking.{Walk, walk, walk_within, operations_left}, declared.halts.Pending.Pending}
use Rattle.shop_tree.specs.inner.Opens.{IsAt}

abbrev pub walk_stack : Shop → List ℕ → Walk → List Pending → Walk
walk_stack shop word s stack = fold (walk shop) s (stack_words shop word stack)

pub record Adds (shop : Shop) (best : ℕ) (word : List ℕ) (old new : List Pending) : Type 0 where
  pub added : List Pending
  pub stack : new ≡ old ++ added
  pub words : stack_words shop word added ≡ branch shop word
  pub each : AllByRecursion (IsPending shop best word) added
  pub depth : AllByRecursion (IsAt (length word)) added

abbrev pub opening_walk : ℕ → ℕ → Walk
opening_walk best budget = record { found = None; best = best; left = []; budget = budget }

-- a full word is found, and is the new best; of another word the children are walked
abbrev pub entered_within : Shop → ℕ → Walk → List ℕ → Walk
entered_within shop zero t w = record t { found = Some w; best = lb shop w }
entered_within shop (suc n) t w = fold (walk_within shop n) t (branch shop w)

abbrev pub entered : Shop → Walk → List ℕ → Walk
entered shop t w = entered_within shop (operations_left shop w) t w
