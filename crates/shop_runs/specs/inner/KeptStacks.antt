-- The least bounds of a stack of nodes: those of nodes that have no lower bound below them. Lists have the top first.
--     with_bound b leasts      the least bounds once a node of bound b is put on top
--     without_bound b leasts   the least bounds once such a node is taken off the top
--     leasts_of nodes          the least bounds of these nodes
--     AreFewEach n leasts      each of the bounds has fewer than n others of its own
--     AreLeasts nodes leasts   these are the least bounds of the nodes; both lists have the top last
use Rattle.std.specs.Prelude.{◌≡◌, ℕ, suc, ◌-◌, ◌<◌, List, [], ◌∷◌, reverse, if◌then◌else◌, nat_lt, nat_eq}
use Rattle.std.specs.List.{AllByRecursion}
use Rattle.shop_nodes.specs.declared.nodes.Node.{Node}
use Rattle.shop_runs.specs.declared.kept_stacks.Least.{Least}

abbrev pub with_bound : ℕ → List Least → List Least
with_bound b [] = record { bound = b; more = 0 } ∷ []
with_bound b (l ∷ leasts) =
    if nat_lt l.bound b then l ∷ leasts
    else if nat_eq l.bound b then record { bound = b; more = suc l.more } ∷ leasts
    else record { bound = b; more = 0 } ∷ l ∷ leasts

abbrev pub without_bound : ℕ → List Least → List Least
without_bound b [] = []
without_bound b (l ∷ leasts) =
    if nat_eq l.bound b then (if nat_lt 0 l.more then record { bound = b; more = l.more - 1 } ∷ leasts else leasts)
    else l ∷ leasts

abbrev pub leasts_of : List Node → List Least
leasts_of [] = []
leasts_of (n ∷ below) = with_bound n.bound (leasts_of below)

abbrev pub AreFewEach : ℕ → List Least → Type 0
AreFewEach n leasts = AllByRecursion (λ l. l.more < n) leasts

abbrev pub AreLeasts : List Node → List Least → Type 0
AreLeasts nodes leasts = reverse leasts ≡ leasts_of (reverse nodes)
