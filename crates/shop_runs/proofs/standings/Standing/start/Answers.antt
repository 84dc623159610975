use Rattle.std.proofs.Common.{◌≡◌, Global, Vec, [], ◌∷◌, ◌++◌, refl, sym, ◌∙◌, ap, subst, arith}
use Rattle.shop_model.specs.Word.{start_jobs}
use Rattle.shop_bound.specs.Bound.{lb}
use Rattle.shop_nodes.specs.{declared.nodes.Node.Node, Nodes.{words_of, AreNodes}}
use Rattle.shop_runs.{specs.Round.words_below, proofs.{Opening.start_full, StartLemmas.{open_root, closed_root}}}
use Rattle.shop_runs.proofs.StartLemmas.{start_covers, root_node, no_nodes}
use Rattle.shop_runs.proofs.standings.Standing.start.Goals as goal
use Rattle.shop_runs.proofs.standings.Standing.start.Goals.{then-root-makespan+in_ok-push, else-root-makespan}

pub lower_bound-requires : goal.lower_bound-requires
lower_bound-requires c = grind (arith, start_full)

pub returns-clause-covers : goal.returns-clause-covers
returns-clause-covers c =
    let shop = c.args.instance.now
    in let word : c.in_ok-word.word ≡ start_jobs shop = c.in_ok-word.ensures
    in let makespan : c.in_ok-makespan.makespan ≡ lb shop (start_jobs shop) = c.in_ok-makespan.ensures.bound
    ∙ ap (lb shop) word
    in let root = c.in_ok-root.root
    in let empty : c.of_jobs.result ≡ [] = c.of_jobs.ensures ∙ c.new.ensures.items
    in let is_empty : root.word ≡ [] = c.in_ok-root.ensures.0 ∙ empty
    in let bound : root.bound ≡ lb shop [] = c.in_ok-root.ensures.1 ∙ ap (lb shop) empty
    in let open_words : words_of c.if-root-makespan.open.items ≡ words_below shop (lb shop (start_jobs shop))
    ([] ∷ []) = elim c.if-root-makespan.branch [
      | then-root-makespan+in_ok-push w ↦
          ap (λ (v : Vec Node Global). words_of v.items) w.open-is
          ∙ (ap words_of (w.in_ok-push.ensures.items ∙ ap (λ ns. ns ++ root ∷ []) c.new-open.ensures.items)
          ∙ open_root shop c.in_ok-makespan.makespan root makespan is_empty bound w.if-root-makespan.true)
      | else-root-makespan w ↦
          ap (λ (v : Vec Node Global). words_of v.items) w.open-is
          ∙ (ap words_of c.new-open.ensures.items
          ∙ closed_root shop c.in_ok-makespan.makespan root makespan is_empty bound w.if-root-makespan.false)
    ]
    in start_covers shop c.in_ok-word.word (words_of c.if-root-makespan.open.items) word open_words

pub returns-clause-standing : goal.returns-clause-standing
returns-clause-standing c =
    let shop = c.args.instance.now
    in let root = c.in_ok-root.root
    in let empty : c.of_jobs.result ≡ [] = c.of_jobs.ensures ∙ c.new.ensures.items
    in let nodes : AreNodes shop c.if-root-makespan.open.items = elim c.if-root-makespan.branch [
      | then-root-makespan+in_ok-push w ↦
          subst (AreNodes shop) (sym (ap (λ (v : Vec Node Global). v.items) w.open-is
          ∙ (w.in_ok-push.ensures.items ∙ ap (λ ns. ns ++ root ∷ []) c.new-open.ensures.items)))
          (root_node shop root (c.in_ok-root.ensures.0 ∙ empty) (c.in_ok-root.ensures.1 ∙ ap (lb shop) empty))
      | else-root-makespan w ↦
          subst (AreNodes shop) (sym (ap (λ (v : Vec Node Global). v.items) w.open-is ∙ c.new-open.ensures.items))
          (no_nodes shop)
    ]
    in let covers = returns-clause-covers c
    in (record { stands_at = refl; makespan = c.in_ok-makespan.ensures.bound; bounds = nodes }, covers.0)

pub returns-clause-at : goal.returns-clause-at
returns-clause-at c = grind arith
