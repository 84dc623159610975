-- The front that is cut off a run's open nodes.
use Rattle.std.proofs.Common.{◌≡◌, ℕ, ◌*◌, ◌≤◌, List, [], length, drop, sym, ◌∙◌, ap, subst, arith}
use Rattle.std.proofs.lemmas.List.{drop-map, length-map}
use Rattle.shop_model.specs.Shop.{Shop}
use Rattle.shop_bound.specs.Bound.{lb}
use Rattle.shop_nodes.specs.{declared.{nodes.Node.Node, pieces.Piece.Piece}, Nodes.words_of}
use Rattle.shop_runs.specs.{Plans.Planned, Round.{cut_into, in_order, least_bound, cut_of}, Laws.IsRound}
use Rattle.shop_runs.specs.{Nodes.{pieces_in, ArePieces, told_of}, inner.NodeLists.{least_of_bounds, nodes_in}}
use Rattle.shop_runs.specs.{declared.runs.OpenRun.OpenRun, inner.Searches.{IsSearchOf, front_of, stand_of}}
use Rattle.shop_runs.{specs.inner.Stores.open_list, proofs.{Covering.cut_is_round, NodeLemmas.least_is}}
use Rattle.shop_runs.proofs.{PieceLemmas.{cut_words, cut_nodes, few_pieces}, FrontLemmas.front_is_round}

-- the first open nodes are cut into pieces, in the round that is made of them
module _ (shop : Shop) (plan : Planned) (t : OpenRun) (word : List ℕ) (bound : ℕ) (ps : List Piece) (rest : List Node)
    (of : IsSearchOf shop plan.order t) (is_word : word ≡ t.word)
    (least : bound ≡ least_of_bounds t.makespan (open_list t.open))
    (pieces : nodes_in ps ≡ cut_into 256 plan.piece (open_list t.open)) (none : rest ≡ []) where
  nodes : List Node
  nodes = open_list t.open

  pub made_told : told_of shop word t.makespan bound plan.budget ps rest t.rounds t.nodes
      ≡ front_of (cut_of shop plan (stand_of t))
  unfolding nodes
  made_told =
      let words : words_of nodes ≡ in_order shop plan.order (words_of nodes) = sym of.ordered
      in let best : t.makespan ≡ lb shop t.word = of.makespan
      in let lowest : bound ≡ least_bound shop (lb shop t.word) (in_order shop plan.order (words_of nodes)) =
      least ∙ (least_is shop t.makespan nodes of.bounds ∙ (λ i. least_bound shop (best i) (words i)))
      in let all : pieces_in ps ≡ cut_into 256 plan.piece (in_order shop plan.order (words_of nodes)) =
      cut_words ps 256 plan.piece nodes pieces ∙ ap (cut_into 256 plan.piece) words
      in let others : words_of rest ≡ [] = ap words_of none
      in grind arith

  pub made_round : IsRound (told_of shop word t.makespan bound plan.budget ps rest t.rounds t.nodes)
  made_round = subst IsRound (sym made_told) (front_is_round (cut_of shop plan (stand_of t))
      (cut_is_round shop plan (stand_of t) of.standing))

  pub made_pieces : ArePieces shop ps
  made_pieces = cut_nodes shop ps 256 plan.piece (open_list t.open) pieces of.bounds

  pub made_few : length ps ≤ 256
  made_few = let a = few_pieces 256 plan.piece (open_list t.open) in let b = ap length pieces
      in let d = length-map ps (λ (p : Piece). p.nodes.items)
      in omega arith

-- the others are the rest of what is cut
pub others_are : (shop : Shop) (plan : Planned) (t : OpenRun) (others : List Node) → IsSearchOf shop plan.order t
    → others ≡ drop (256 * plan.piece) (open_list t.open) → words_of others ≡ (cut_of shop plan (stand_of t)).rest
others_are shop plan t others of e = grind (arith, drop-map)
