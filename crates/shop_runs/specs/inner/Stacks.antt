-- Open nodes in the order in which the next cut takes them.
--     words_on stack                 the words of a stack, from its top down
--     Bucket                         a bucket of a row: the stack of a bound, if there is one
--     words_at bucket                the words of this stack
--     nodes_of_bound bound words     nodes of these words, of one bound
--     nodes_by_bound entries         the nodes of stacks by bound, in order
--     nodes_in_row bound stacks      the nodes of a row of stacks, the first one of this bound
--     put_before order node nodes    the node before those that the order has behind it
--     put_all_before order ns nodes  each node of ns before those that the order has behind it, the last one put first
--     IsNextOf node before after     the first node is taken from the list, if there is one
--     IsTopIfMore word before after  the first word is taken from the list, or nothing is, as there is at most one word
use Rattle.std.specs.Prelude.{◌≡◌, ℕ, suc, ◌≤◌, Option, Some, None, List, [], ◌∷◌, ◌++◌, map, flat_map, reverse, length}
use Rattle.std.specs.Global.{Box}
use Rattle.shop_nodes.specs.{Branching.insert_by, declared.nodes.Node.Node}
use Rattle.shop_runs.specs.declared.{stacks.Stack.Stack, plans.Order.Order, plans.Order.TheVariants.{Kept, Bound}}

abbrev pub words_on : Stack → List (List ℕ)
words_on s = s.top ∷ reverse (flat_map (λ c. c.items) s.covered.items ++ s.below.items)

abbrev pub Bucket : Type 0
Bucket = Option (Box Stack)

abbrev pub words_at : Bucket → List (List ℕ)
words_at None = []
words_at (Some b) = words_on b.value

abbrev pub nodes_of_bound : ℕ → List (List ℕ) → List Node
nodes_of_bound bound words = map (λ w. record { word = w; bound = bound }) words

abbrev pub nodes_by_bound : List (ℕ × Stack) → List Node
nodes_by_bound [] = []
nodes_by_bound (e ∷ es) = nodes_of_bound e.0 (words_on e.1) ++ nodes_by_bound es

abbrev pub nodes_in_row : ℕ → List Bucket → List Node
nodes_in_row bound [] = []
nodes_in_row bound (s ∷ stacks) = nodes_of_bound bound (words_at s) ++ nodes_in_row (suc bound) stacks

abbrev pub put_before : Order → Node → List Node → List Node
put_before Kept node nodes = node ∷ nodes
put_before Bound node nodes = insert_by (λ n. n.bound) node nodes

abbrev pub put_all_before : Order → List Node → List Node → List Node
put_all_before order [] nodes = nodes
put_all_before order (n ∷ ns) nodes = put_before order n (put_all_before order ns nodes)

abbrev pub IsNextOf : Option Node → List Node → List Node → Type 0
IsNextOf None before after = (before ≡ []) × (after ≡ [])
IsNextOf (Some node) before after = before ≡ node ∷ after

abbrev pub IsTopIfMore : Option (List ℕ) → List (List ℕ) → List (List ℕ) → Type 0
IsTopIfMore None before after = (after ≡ before) × (length before ≤ 1)
IsTopIfMore (Some word) before after = before ≡ word ∷ after
