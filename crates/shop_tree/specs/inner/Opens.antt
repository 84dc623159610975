-- Entries of a stack, children put in order of their bounds, and all children of a word.
--     open_words word opens                the words of open children, in order
--     depth_of x                           with how many entries of the word it begins
--     IsFrom n x, IsAt n x                 with at least, with just n entries
--     IsRising stack                       no entry begins with less of the word than one below it
--     ArePending shop best word stack      each entry is pending, and they rise
--     IsIndexAbove bound opens i           from index i on all bounds are below this one, and the one before, if any,
--                                          is not
--     AreChildren shop limit word opens n  the children of word with bounds below the limit, the first one last, and
--                                          how many others there are
use Rattle.std.specs.Prelude.{◌≡◌, ℕ, ◌-◌, ◌≤◌, ◌<◌, List, [], ◌∷◌, ◌++◌, length, map, reverse, slice_index_or}
use Rattle.std.specs.List.{AllByRecursion}
use Rattle.shop_model.specs.Shop.{Shop}
use Rattle.shop_bound.specs.Bound.{lb}
use Rattle.shop_nodes.specs.{Branching.branch, Halts.{word_at, IsOpen, IsPending}, declared.halts.Open.Open}
use Rattle.shop_nodes.specs.{declared.halts.Pending.Pending, declared.halts.Pending.TheVariants.{Child, Rest}}

abbrev pub open_words : List ℕ → List Open → List (List ℕ)
open_words word opens = map (word_at word) opens

abbrev pub depth_of : Pending → ℕ
depth_of (Child job depth bound) = depth
depth_of (Rest depth count) = depth

abbrev pub IsFrom : ℕ → Pending → Type 0
IsFrom n x = n ≤ depth_of x

abbrev pub IsAt : ℕ → Pending → Type 0
IsAt n x = depth_of x ≡ n

abbrev pub IsRising : List Pending → Type 0
IsRising [] = Unit {0}
IsRising (x ∷ stack) = AllByRecursion (IsFrom (depth_of x)) stack × IsRising stack

pub record ArePending (shop : Shop) (best : ℕ) (word : List ℕ) (stack : List Pending) : Type 0 where
  pub each : AllByRecursion (IsPending shop best word) stack
  pub rising : IsRising stack

pub record IsIndexAbove (bound : ℕ) (opens : List Open) (i : ℕ) : Type 0 where
  pub within : i ≤ length opens
  pub above : (k : ℕ) (d : Open) → i ≤ k → k < length opens → (slice_index_or opens k d).bound < bound
  pub below : (d : Open) → 0 < i → bound ≤ (slice_index_or opens (i - 1) d).bound

pub record AreChildren (shop : Shop) (limit : ℕ) (word : List ℕ) (opens : List Open) (n : ℕ) : Type 0 where
  pub others : List (List ℕ)
  pub words : branch shop word ≡ reverse (open_words word opens) ++ others
  pub count : n ≡ length others
  pub high : AllByRecursion (λ v. limit ≤ lb shop v) others
  pub each : AllByRecursion (IsOpen shop word) opens
  pub depth : AllByRecursion (λ o. o.depth ≡ length word) opens
