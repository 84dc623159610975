-- Open nodes that a run counts and doesn't store, as no round that it has left can take them.
--     count_of b nodes                  how many of the nodes have bound b
--     nodes_within a c nodes            those with bounds from a on that are below c
--     HaveCounts counts nodes           of the nodes so many have each bound
--     HaveFewCounts counts              of some nodes so many have each bound, and they are fewer than 2^64
--     IsCountable b n counts            with n nodes of bound b more its count stays below 2^64
--     AreCountable nodes distant        so do all counts with these nodes
--     FitBelow c nodes distant          so do all counts with those of them from the horizon on and below c
--     AreAdded nodes before after       the counts went up by these nodes
--     IsAdded bound n before after      the counts went up by n nodes of one bound
--     ArePutOrCounted c nodes ..        of these nodes those of bounds below c were put into the store, or counted if
--                                       their bounds aren't below the horizon
--     IsRetired most nodes ..           `most` nodes or more are kept and the others counted, or nothing is done
--     AreDistant most c store ..        these nodes, which are counted, are open behind those of the store: the store
--                                       has `most` or more, or the horizon isn't below the makespan c
use Rattle.std.specs.Prelude.{◌≡◌, ℕ, ◌+◌, ◌^◌, ◌≤◌, ◌<◌, ◌⊎◌, ◌==◌, ◌&&◌, nat_le, nat_lt, List, [], ◌∷◌, ◌++◌, length}
use Rattle.std.specs.Prelude.{filter, get_or, min, if◌then◌else◌}
use Rattle.std.specs.List.{AllByRecursion}
use Rattle.shop_nodes.specs.{declared.nodes.Node.Node, inner.HeldNodes.nodes_below}
use Rattle.shop_runs.specs.declared.{distant_nodes.DistantNodes.DistantNodes, open_nodes.OpenNodes.OpenNodes}
use Rattle.shop_runs.specs.declared.plans.Order.TheVariants.{Bound}
use Rattle.shop_runs.specs.inner.Stores.{open_list, order_of, ArePut}

abbrev pub count_of : ℕ → List Node → ℕ
count_of b [] = 0
count_of b (n ∷ nodes) = (if n.bound == b then 1 else 0) + count_of b nodes

abbrev pub nodes_within : ℕ → ℕ → List Node → List Node
nodes_within a c nodes = filter (λ n. nat_le a n.bound && nat_lt n.bound c) nodes

abbrev pub HaveCounts : List ℕ → List Node → Type 0
HaveCounts counts nodes = (b : ℕ) → count_of b nodes ≡ get_or counts b 0

abbrev pub HaveFewCounts : List ℕ → Type 0
HaveFewCounts counts = (nodes : List Node) × HaveCounts counts nodes × (length nodes < 2 ^ 64)

abbrev pub IsCountable : ℕ → ℕ → List ℕ → Type 0
IsCountable bound n counts = get_or counts bound 0 + n < 2 ^ 64

abbrev pub AreCountable : List Node → DistantNodes → Type 0
AreCountable nodes distant = (b : ℕ) → IsCountable b (count_of b nodes) distant.counts.items

abbrev pub FitBelow : ℕ → List Node → DistantNodes → Type 0
FitBelow c nodes distant = AreCountable (nodes_within distant.horizon c nodes) distant

abbrev pub AreAdded : List Node → List ℕ → List ℕ → Type 0
AreAdded nodes before after = (b : ℕ) → get_or after b 0 ≡ get_or before b 0 + count_of b nodes

abbrev pub IsAdded : ℕ → ℕ → List ℕ → List ℕ → Type 0
IsAdded bound n before after = (b : ℕ) → get_or after b 0 ≡ get_or before b 0 + (if bound == b then n else 0)

pub record ArePutOrCounted (c : ℕ) (nodes : List Node) (store : OpenNodes) (distant : DistantNodes)
    (after : OpenNodes) (later : DistantNodes) : Type 0 where
  pub put : ArePut (nodes_below (min c distant.horizon) nodes) store after
  pub horizon : later.horizon ≡ distant.horizon
  pub counted : AreAdded (nodes_within distant.horizon c nodes) distant.counts.items later.counts.items

-- the nodes kept are enough, and end before the new horizon, from which on the others are
pub record IsUpTo (most : ℕ) (gone : List Node) (horizon : ℕ) (kept : List Node) (later : ℕ) : Type 0 where
  pub end : ℕ
  pub enough : most ≤ length kept
  pub below : AllByRecursion (λ n. n.bound < end) kept
  pub behind : AllByRecursion (λ n. end ≤ n.bound) gone
  pub moves : later ≡ min horizon end

pub record AreDistant (most c : ℕ) (store : OpenNodes) (distant : DistantNodes) (nodes : List Node) : Type 0 where
  pub near : AllByRecursion (λ n. n.bound < distant.horizon) (open_list store)
  pub behind : AllByRecursion (λ n. distant.horizon ≤ n.bound) nodes
  pub counted : HaveCounts distant.counts.items nodes
  pub enough : (c ≤ distant.horizon) ⊎ ((order_of store ≡ Bound) × (most ≤ length (open_list store)))

pub record IsRetired (most : ℕ) (nodes : List Node) (distant : DistantNodes) (kept : List Node) (later : DistantNodes)
    : Type 0 where
  pub gone : List Node
  pub all : nodes ≡ kept ++ gone
  pub counted : AreAdded gone distant.counts.items later.counts.items
  pub horizon : ((gone ≡ []) × (later.horizon ≡ distant.horizon)) ⊎ IsUpTo most gone distant.horizon kept later.horizon
