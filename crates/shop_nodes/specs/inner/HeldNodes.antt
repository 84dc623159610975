-- What a search left as nodes, each with the bound that it holds.
--     nodes_below c nodes         those that hold bounds below c
--     child_nodes word x          the open child that an entry stands for; none for closed ones
--     stack_nodes word stack      the open children of all entries, the last entry first
--     halted_nodes h              those of what was pending where a walk halted, if anything was
--     IsWithinWord word x         an open child takes over at most all jobs of this word
--     AreWithinWord word stack    so do those of all entries
--     IsHaltWithin h              and those of what was pending where a walk halted
--     AreSharable nodes           the words of the nodes can share their jobs
use Rattle.std.specs.Prelude.{ℕ, ◌≤◌, Option, Some, None, List, [], ◌∷◌, ◌++◌, length, take, All, filter, nat_lt}
use Rattle.std.specs.{Arc.arc_slice_items, List.AllByRecursion}
use Rattle.shop_model.specs.SharedWords.{CanBeShared}
use Rattle.shop_nodes.specs.{declared.halts.Halt.Halt, declared.halts.Pending.Pending}
use Rattle.shop_nodes.specs.{declared.halts.Pending.TheVariants.{Child, Rest}, declared.nodes.Node.Node}

abbrev pub nodes_below : ℕ → List Node → List Node
nodes_below c nodes = filter (λ n. nat_lt n.bound c) nodes

abbrev pub child_nodes : List ℕ → Pending → List Node
child_nodes word (Child job depth bound) = record { word = take depth word ++ job ∷ []; bound = bound } ∷ []
child_nodes word (Rest depth count) = []

abbrev pub stack_nodes : List ℕ → List Pending → List Node
stack_nodes word [] = []
stack_nodes word (x ∷ stack) = stack_nodes word stack ++ child_nodes word x

abbrev pub halted_nodes : Option Halt → List Node
halted_nodes None = []
halted_nodes (Some h) = stack_nodes (arc_slice_items h.path) h.pending.items

abbrev pub IsWithinWord : List ℕ → Pending → Type 0
IsWithinWord word (Child job depth bound) = depth ≤ length word
IsWithinWord word (Rest depth count) = Unit {0}

abbrev pub AreWithinWord : List ℕ → List Pending → Type 0
AreWithinWord word stack = AllByRecursion (IsWithinWord word) stack

abbrev pub IsHaltWithin : Option Halt → Type 0
IsHaltWithin None = Unit {0}
IsHaltWithin (Some h) = AreWithinWord (arc_slice_items h.path) h.pending.items

abbrev pub AreSharable : List Node → Type 0
AreSharable nodes = All (λ n. CanBeShared n.word) nodes
