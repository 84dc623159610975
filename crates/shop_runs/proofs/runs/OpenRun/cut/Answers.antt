use Rattle.std.proofs.{Common.{◌*◌, ◌<◌, [], refl, sym, subst, arith}, lemmas.List.Elements.All-drop}
use Rattle.shop_nodes.specs.Nodes.{IsNode, AreNodes}
use Rattle.shop_runs.specs.{Nodes.ArePieces, Plans.planned, inner.{NodeLists.AreBelow, Stores.open_list}}
use Rattle.shop_runs.proofs.{FrontCuts.{made_told, made_round, made_pieces, made_few, others_are}, KeptBelow.all_below}
use Rattle.shop_runs.proofs.runs.OpenRun.cut.Goals as goal

pub layout_for-requires-clause-pieces : goal.layout_for-requires-clause-pieces
layout_for-requires-clause-pieces c = subst (ArePieces c.args.instance.now) (sym c.as_slice.ensures.value)
    (made_pieces c.args.instance.now (planned c.args.plan.now) c.args.self.now c.replace-word.result
    c.least_bound-bound.result c.in_ok-pieces.pieces.items [] c.requires.search
    c.replace-word.ensures.value c.least_bound-bound.ensures c.in_ok-pieces.ensures.nodes refl)

pub invariant_of-round : goal.invariant_of-round
invariant_of-round c =
    let shop = c.args.instance.now
    in let plan = planned c.args.plan.now
    in let t = c.args.self.now
    in let within = c.args.plan.now.within
    in let left = c.requires.rounds
    in let word = c.replace-word.result
    in let is_word = c.replace-word.ensures.value
    in let bound = c.least_bound-bound.result
    in let least = c.least_bound-bound.ensures
    in let ps = c.in_ok-pieces.pieces.items
    in let pieces = c.in_ok-pieces.ensures.nodes
    in let rest = c.new-3.result.items
    in let none = c.new-3.ensures.items
    in record {
      layout_of = c.in_ok-layout.ensures;
      numbered = c.in_ok-pieces.ensures.numbers;
      nodes_of_pieces = made_pieces shop plan t word bound ps rest c.requires.search is_word least pieces none;
      nodes_of_rest = subst (AreNodes shop) (sym none) (λ k d h. absurd (omega arith));
      few_pieces = made_few shop plan t word bound ps rest c.requires.search is_word least pieces none;
      small_budget = within.2;
      rounds_left = (let most = within.0 in omega arith);
      counted = t.within;
      is_round = made_round shop plan t word bound ps rest c.requires.search is_word least pieces none;
    }

pub returns-clause-front : goal.returns-clause-front
returns-clause-front c =
    let shop = c.args.instance.now
    in let plan = planned c.args.plan.now
    in let t = c.args.self.now
    in let others = c.in_ok-pieces.ensures.left
    in record {
      round = made_told shop plan t c.replace-word.result c.least_bound-bound.result c.in_ok-pieces.pieces.items
          c.new-3.result.items c.requires.search c.replace-word.ensures.value c.least_bound-bound.ensures
          c.in_ok-pieces.ensures.nodes c.new-3.ensures.items;
      rest = others_are shop plan t (open_list c.cut_pieces.new.store) c.requires.search others;
      bounds = subst (AreNodes shop) (sym others)
          (All-drop (IsNode shop) (256 * plan.piece) (open_list t.open) c.requires.search.bounds);
      left = others;
      below = subst (AreBelow t.makespan) (sym others)
          (All-drop (λ n. n.bound < t.makespan) (256 * plan.piece) (open_list t.open)
          (all_below shop t.makespan (open_list t.open) c.requires.search.bounds
          (λ w h. let a = c.requires.search.standing.below w h in let b = c.requires.search.makespan in omega arith)));
      kept = c.in_ok-pieces.ensures.order;
    }
