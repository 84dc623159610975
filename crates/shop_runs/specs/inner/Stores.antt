-- What is done to the open nodes of a run.
--     open_list s                     the open nodes in the order of the next cut
--     order_of s                      the order that they are kept in
--     IsPut node before after         the node was put among them
--     ArePut nodes before after       these were, the last one first
--     HasPopped node before after     the first one was taken, if there is one
--     IsTaken n nodes before after    the first n were taken
--     IsKeptBelow c before after      those of bounds below c were kept
use Rattle.std.specs.Prelude.{◌≡◌, ℕ, Option, List, take, drop}
use Rattle.shop_nodes.specs.{declared.nodes.Node.Node, inner.HeldNodes.nodes_below}
use Rattle.shop_runs.specs.declared.open_nodes.OpenNodes.{OpenNodes}
use Rattle.shop_runs.specs.declared.open_nodes.OpenNodes.TheVariants.{AsKept, InRow, InMap}
use Rattle.shop_runs.specs.{declared.plans.Order.Order, declared.plans.Order.TheVariants.{Kept, Bound}}
use Rattle.shop_runs.specs.inner.Stacks.{put_before, put_all_before, IsNextOf}

abbrev pub open_list : OpenNodes → List Node
open_list (AsKept nodes) = nodes
open_list (InRow nodes) = nodes
open_list (InMap nodes) = nodes

abbrev pub order_of : OpenNodes → Order
order_of (AsKept nodes) = Kept
order_of (InRow nodes) = Bound
order_of (InMap nodes) = Bound

abbrev pub IsPut : Node → OpenNodes → OpenNodes → Type 0
IsPut node before after = (order_of after ≡ order_of before)
    × (open_list after ≡ put_before (order_of before) node (open_list before))

abbrev pub ArePut : List Node → OpenNodes → OpenNodes → Type 0
ArePut nodes before after = (order_of after ≡ order_of before)
    × (open_list after ≡ put_all_before (order_of before) nodes (open_list before))

abbrev pub HasPopped : Option Node → OpenNodes → OpenNodes → Type 0
HasPopped node before after = (order_of after ≡ order_of before) × IsNextOf node (open_list before) (open_list after)

abbrev pub IsTaken : ℕ → List Node → OpenNodes → OpenNodes → Type 0
IsTaken n nodes before after = (order_of after ≡ order_of before)
    × (nodes ≡ take n (open_list before)) × (open_list after ≡ drop n (open_list before))

abbrev pub IsKeptBelow : ℕ → OpenNodes → OpenNodes → Type 0
IsKeptBelow c before after = (order_of after ≡ order_of before) × (open_list after ≡ nodes_below c (open_list before))
