-- Where a run stands between two rounds.
--     stand_of t                    where run t stands, its open words in the order of the next cut
--     IsSearchAt shop order s t     run t stands at s, its open words in this order
--     IsSearchOf shop order t       run t is at a standing of the instance, in this order
--     with_all order nodes          a store of these nodes
--     in_full t distant                 run t, if it stored these nodes behind its own, too
--     most_left plan i              one more than the nodes that the rounds behind the first i can take
--     IsRunAt shop plan s t         run t, with some nodes behind its own, stands at s
--     HasFewOpen shop s             at most one word is open at first, and for each node taken one for each job
--     IsRunOf shop plan t           and that is a standing of the instance with few open words
--     front_of r                    the round without its rest
--     IsFront shop plan t r others  r is the front of what is cut, the others its rest
use Rattle.std.specs.Prelude.{◌≡◌, ℕ, ◌+◌, ◌-◌, ◌*◌, ◌≤◌, List, [], ◌++◌, length, drop}
use Rattle.shop_model.specs.Shop.{Shop}
use Rattle.shop_nodes.specs.{declared.nodes.Node.Node, Nodes.{words_of, AreNodes}}
use Rattle.shop_runs.specs.{Round.{Stand, Told, in_order, makespan_of, cut_of}, Laws.IsStanding, Entries.told}
use Rattle.shop_runs.specs.{Plans.{Planned, planned}, inner.NodeLists.AreBelow, inner.Distant.AreDistant}
use Rattle.shop_runs.specs.declared.{plans.TheConstants.MAX_PIECES, plans.Order.TheVariants.{Kept, Bound}}
use Rattle.shop_runs.specs.declared.open_nodes.OpenNodes.TheVariants.{AsKept, InRow}
use Rattle.shop_runs.specs.{inner.Stores.{open_list, order_of}, declared.open_nodes.OpenNodes.OpenNodes}
use Rattle.shop_runs.specs.{declared.plans.Order.Order, declared.plans.Plan.Plan, declared.rounds.Round.Round}
use Rattle.shop_runs.specs.declared.runs.OpenRun.{OpenRun}

abbrev pub stand_of : OpenRun → Stand
stand_of t = record { word = t.word; open_words = words_of (open_list t.open); rounds = t.rounds; nodes = t.nodes }

pub record IsSearchAt (shop : Shop) (order : Order) (s : Stand) (t : OpenRun) : Type 0 where
  pub stands_at : stand_of t ≡ record s { open_words = in_order shop order s.open_words }
  pub makespan : t.makespan ≡ makespan_of shop s
  pub bounds : AreNodes shop (open_list t.open)
  pub kept : order_of t.open ≡ order

pub record IsSearchOf (shop : Shop) (order : Order) (t : OpenRun) : Type 0 where
  pub standing : IsStanding shop (stand_of t)
  pub makespan : t.makespan ≡ makespan_of shop (stand_of t)
  pub bounds : AreNodes shop (open_list t.open)
  pub kept : order_of t.open ≡ order
  pub ordered : in_order shop order (words_of (open_list t.open)) ≡ words_of (open_list t.open)

abbrev pub with_all : Order → List Node → OpenNodes
with_all Kept nodes = AsKept nodes
with_all Bound nodes = InRow nodes

abbrev pub in_full : OpenRun → List Node → OpenRun
in_full t distant = record t { «open» = with_all (order_of t.open) (open_list t.open ++ distant) }

abbrev pub most_left : Planned → ℕ → ℕ
most_left plan i = (plan.rounds - i) * (MAX_PIECES * plan.piece) + 1

pub record IsRunAt (shop : Shop) (plan : Planned) (s : Stand) (t : OpenRun) : Type 0 where
  pub distant : List Node
  pub are_distant : AreDistant (most_left plan t.rounds) t.makespan t.open t.distant distant
  pub at : IsSearchAt shop plan.order s (in_full t distant)

abbrev pub HasFewOpen : Shop → Stand → Type 0
HasFewOpen shop s = length s.open_words ≤ 1 + s.nodes * length shop.jobs

abbrev pub IsRunOf : Shop → Planned → OpenRun → Type 0
IsRunOf shop plan t = (s : Stand) × IsRunAt shop plan s t × IsStanding shop s × HasFewOpen shop s

abbrev pub front_of : Told → Told
front_of r = record r { rest = [] }

pub record IsFront (shop : Shop) (plan : Plan) (t : OpenRun) (r : Round) (others : OpenNodes) : Type 0 where
  pub round : told r ≡ front_of (cut_of shop (planned plan) (stand_of t))
  pub rest : words_of (open_list others) ≡ (cut_of shop (planned plan) (stand_of t)).rest
  pub bounds : AreNodes shop (open_list others)
  pub left : open_list others ≡ drop (MAX_PIECES * plan.piece) (open_list t.open)
  pub below : AreBelow t.makespan (open_list others)
  pub kept : order_of others ≡ order_of t.open
