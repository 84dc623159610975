use Rattle.std.proofs.Common.{◌≡◌, [], ◌∷◌, ◌++◌, ◌∙◌, ℕ, List, map, sym, ap, subst, arith, append-nil, append_assoc}
use Rattle.std.proofs.Common.{length}
use Rattle.shop_bound.specs.Bound.{lb}
use Rattle.shop_model.specs.Word.{IsWord}
use Rattle.shop_nodes.specs.{Branching.{branch, conflict, insert_by, sort_by}, Laws.HaveBetterChildren, Nodes.words_of}
use Rattle.shop_nodes.{specs.{Nodes.AreNodes, inner.Indices.IsIndexFor}, proofs.ChildrenLemmas.{child-word, all_done}}
use Rattle.shop_nodes.proofs.ChildrenLemmas.{words_of-insert, nodes-insert, better_children}
use Rattle.shop_nodes.proofs.child_nodes.children.Goals as goal

pub loop-job-init : goal.loop-job-init
loop-job-init c = (
  [],
  record {
    all = append-nil _ ∙ c.in_ok-jobs.ensures;
    words = ap words_of c.in_ok-children.ensures.items;
    nodes = subst (AreNodes c.args.instance.now) (sym c.in_ok-children.ensures.items) (λ k d h. absurd (omega arith));
  },
)

pub child_along-requires : goal.child_along-requires
child_along-requires c = grind (arith, append_assoc, child-word)

pub loop-job-preserved : goal.loop-job-preserved
loop-job-preserved c =
    let shop = c.args.instance.now
    in let w = c.args.node.now.word
    in let now = c.loop-job.invariant
    in let job = c.in-Some.job
    in let child = c.in_ok-child.child
    in let nodes = c.loop-job.children.items
    in let at = c.index_for-index.result
    in let split = sym (append_assoc c.pop.new.self.items (job ∷ []) now.0)
    ∙ (ap (λ js. js ++ now.0) (sym c.in-Some.ensures.items) ∙ now.1.all)
    in let word : child.word ≡ w ++ job ∷ [] = c.in_ok-child.ensures.word
    ∙ ap (λ (v : List ℕ). v ++ job ∷ []) c.in_ok-path.ensures
    in let is_word : IsWord shop child.word = subst (IsWord shop) (sym word)
    (child-word shop w c.requires.node.0 c.pop.new.self.items now.0 job split)
    in let index = subst (λ ns. IsIndexFor child.bound ns at) c.as_slice.ensures.value c.index_for-index.ensures
    in let items = c.in_ok-insert.ensures.items
    in (
      job ∷ now.0,
      record {
        all = split;
        words = ap words_of items
            ∙ (words_of-insert shop child nodes at index c.in_ok-child.ensures.bound now.1.nodes
            ∙ (ap (λ v. insert_by (lb shop) v (words_of nodes)) word
            ∙ ap (insert_by (lb shop) (w ++ job ∷ [])) now.1.words));
        nodes = subst (AreNodes shop) (sym items)
            (nodes-insert shop child nodes at (is_word, c.in_ok-child.ensures.bound) now.1.nodes);
      },
    )

pub returns-clause-better : goal.returns-clause-better
returns-clause-better c =
    let shop = c.args.instance.now
    in let w = c.args.node.now.word
    in let now = c.loop-job.invariant
    in let empty : length c.loop-job.jobs.items ≡ 0 = (let a = c.loop-job.jobs.ok.0
    in let b = c.in_default.ensures.cases.0 in omega arith)
    in let all = all_done c.loop-job.jobs.items now.0 (conflict shop w) empty now.1.all
    in let words : words_of c.loop-job.children.items ≡ branch shop w = now.1.words
    ∙ ap (λ js. sort_by (lb shop) (map (λ j. w ++ j ∷ []) js)) all
    in subst (HaveBetterChildren shop w) (sym words) (better_children shop w c.requires.node.0 c.requires.open)
