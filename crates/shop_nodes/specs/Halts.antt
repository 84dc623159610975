-- Where a walk halted. What was pending there is kept short: how many entries of the path its words begin with, and the
-- job that follows; closed children are only counted.
--     word_at word o               the word that an open child stands for
--     open_child o                 the entry of an open child
--     last_of n xs                 the last n elements
--     pending_words shop word x    the words that an entry stands for: closed ones are the last children of what they
--                                  begin with
--     stack_words shop word stack  all that is pending, the last entry first
--     IsOpen shop word o           the word of o is one of the instance, no longer than word and a job, with its bound
--     IsClosed shop best word n count
--                                  the last count children of the first n entries of word have bounds that reach the
--                                  best
--     IsPending shop best word x   the entry is an open child or closed ones, told rightly
--     halted_words shop h          the words of what was pending where a walk halted, if anything was
--     IsHalt shop best h           all that was pending is told rightly
--     AreHalted shop best h        where a walk halted, all that was pending is told rightly
use Rattle.std.specs.Prelude.{◌≡◌, ℕ, ◌-◌, ◌≤◌, ◌<◌, Option, Some, None, List, [], ◌∷◌, ◌++◌, length, take, drop}
use Rattle.std.specs.{Arc.arc_slice_items, List.AllByRecursion}
use Rattle.shop_model.specs.{Shop.{Shop, operation_count}, Word.IsWord}
use Rattle.shop_bound.specs.Bound.{lb}
use Rattle.shop_nodes.specs.{Branching.branch, declared.halts.Halt.Halt, declared.halts.Open.Open}
use Rattle.shop_nodes.specs.{declared.halts.Pending.Pending, declared.halts.Pending.TheVariants.{Child, Rest}}

abbrev pub word_at : List ℕ → Open → List ℕ
word_at word o = take o.depth word ++ o.job ∷ []

abbrev pub open_child : Open → Pending
open_child o = Child o.job o.depth o.bound

abbrev pub last_of : {A : Type 0} → ℕ → List A → List A
last_of n xs = drop (length xs - n) xs

abbrev pub pending_words : Shop → List ℕ → Pending → List (List ℕ)
pending_words shop word (Child job depth bound) = (take depth word ++ job ∷ []) ∷ []
pending_words shop word (Rest depth count) = last_of count (branch shop (take depth word))

abbrev pub stack_words : Shop → List ℕ → List Pending → List (List ℕ)
stack_words shop word [] = []
stack_words shop word (x ∷ stack) = stack_words shop word stack ++ pending_words shop word x

pub record IsOpen (shop : Shop) (word : List ℕ) (o : Open) : Type 0 where
  pub depth : o.depth ≤ length word
  pub is_word : IsWord shop (word_at word o)
  pub bound : o.bound ≡ lb shop (word_at word o)

pub record IsClosed (shop : Shop) (best : ℕ) (word : List ℕ) (n count : ℕ) : Type 0 where
  pub depth : n ≤ length word
  pub short : n < operation_count shop
  pub is_word : IsWord shop (take n word)
  pub few : count ≤ length (branch shop (take n word))
  pub high : AllByRecursion (λ v. best ≤ lb shop v) (last_of count (branch shop (take n word)))

abbrev pub IsPending : Shop → ℕ → List ℕ → Pending → Type 0
IsPending shop best word (Child job depth bound) = IsOpen shop word (record { depth = depth; job = job; bound = bound })
IsPending shop best word (Rest depth count) = IsClosed shop best word depth count

abbrev pub halted_words : Shop → Option Halt → List (List ℕ)
halted_words shop None = []
halted_words shop (Some h) = stack_words shop (arc_slice_items h.path) h.pending.items

abbrev pub IsHalt : Shop → ℕ → Halt → Type 0
IsHalt shop best h = AllByRecursion (IsPending shop best (arc_slice_items h.path)) h.pending.items

abbrev pub AreHalted : Shop → ℕ → Option Halt → Type 0
AreHalted shop best None = Unit {0}
AreHalted shop best (Some h) = IsHalt shop best h
