use Rattle.std.proofs.Common.{◌≡◌, ◌-◌, ◌∙◌, drop, length, refl, sym, ap, subst, arith}
use Rattle.std.proofs.lemmas.List.{take_rest, Elements.{All-drop, All-take}}
use Rattle.shop_model.specs.Shop.{Shop}
use Rattle.shop_nodes.specs.{Left.Leaving, Laws.{AreWords, KeepsPiece}, Nodes.{words_of, AreNodes, IsNode}}
use Rattle.shop_nodes.{specs.{Halts.halted_words, Walking.Walk}, proofs.{NodeLemmas.are_words, Found.searches_keep}}
use Rattle.shop_tree.specs.inner.{Held.pending_in, Searching.opening_walk, StateWalkers.stage_of, Walkers.Stage}
use Rattle.shop_tree.proofs.WalkerLemmas.{sheet_told}
use Rattle.shop_tree.proofs.walkers.Walker.search.Goals as goal

pub returns-clause-sheet : goal.returns-clause-sheet
returns-clause-sheet g c =
    let shop = c.args.self.now.instance.now in let t = c.walk_nodes.new.self
    in let nodes = c.args.piece.now.nodes.items in let k = c.in_ok-index.index
    in let halted = halted_words t.instance.now c.in_ok-halt.halt
    in let same : c.clear.new.self.instance.now ≡ shop = c.in_ok-clear.ensures.instance
    in let begun : Stage = record {
      shop = c.clear.new.self.instance.now;
      word = c.clear.new.self.path.items;
      walk = opening_walk c.args.best c.args.budget;
      stack = pending_in c.clear.new.self.stack.items;
    }
    in let left = ap (λ (l : Leaving). l.words) c.new.ensures
    in record {
      of = record {
        of_instance = c.in_ok-index.ensures.walked.shop ∙ same;
        of_piece = refl;
        of_best = refl;
        of_budget = refl;
      };
      keeps = subst (KeepsPiece shop (words_of nodes) c.args.best)
          (sym (sheet_told begun (stage_of t) c.as_slice-nodes.result.now k same refl refl
          c.in_ok-index.ensures.walked c.in_ok-index.ensures.ended c.as_slice-nodes.ensures.value (take_rest
          c.as_slice-nodes.result.now k) c.take.ensures.value c.in_ok-halt.ensures.words left))
          (searches_keep shop (words_of nodes) c.args.best c.args.budget (are_words shop nodes c.requires.nodes));
    }

pub invariant_of-result : goal.invariant_of-result
invariant_of-result g c =
    let t = c.walk_nodes.new.self in let shop = t.instance.now in let nodes = c.args.piece.now.nodes.items
    in let k = c.in_ok-index.index in let halted = halted_words shop c.in_ok-halt.halt
    in let same : shop ≡ c.args.self.now.instance.now = c.in_ok-index.ensures.walked.shop
    ∙ c.in_ok-clear.ensures.instance
    in let begun : Stage = record {
      shop = c.clear.new.self.instance.now;
      word = c.clear.new.self.path.items;
      walk = opening_walk c.args.best c.args.budget;
      stack = pending_in c.clear.new.self.stack.items;
    }
    in let left = ap (λ (l : Leaving). l.words) c.new.ensures
    in let told = sheet_told begun (stage_of t) c.as_slice-nodes.result.now k (sym c.in_ok-index.ensures.walked.shop)
    refl refl c.in_ok-index.ensures.walked c.in_ok-index.ensures.ended c.as_slice-nodes.ensures.value
    (take_rest c.as_slice-nodes.result.now k) c.take.ensures.value c.in_ok-halt.ensures.words left
    in record {
      of_piece = refl;
      spent = omega arith;
      left_of = ap (λ (l : Leaving). l.shop) c.new.ensures;
      left_below = ap (λ (l : Leaving). l.makespan) c.new.ensures;
      words_left = subst (AreWords shop) (sym (ap (λ (w : Walk). w.left) told))
          (searches_keep shop (words_of nodes) c.args.best c.args.budget
          (are_words shop nodes (subst (λ (x : Shop). AreNodes x nodes) (sym same) c.requires.nodes))).left;
      is_sheet = told;
    }

pub new-requires : goal.new-requires
new-requires g c =
    let k = c.in_ok-index.index in let nodes = c.as_slice-nodes.result.now
    in let is = IsNode c.walk_nodes.new.self.instance.now
    in (
      c.in_ok-halt.ensures.halt,
      All-take is (length nodes - k) (drop k nodes) (All-drop is k nodes
          (rw (c.as_slice-nodes.ensures.value, c.in_ok-index.ensures.walked.shop, c.in_ok-clear.ensures.instance)
          c.requires.nodes)),
    )
