use Rattle.std.proofs.Common.{◌≡◌, List, ◌++◌, ◌∷◌, [], ℕ, map, vec_len}
use Rattle.shop_bound.specs.Bound.{lb}
use Rattle.shop_nodes.specs.{Branching.{conflict, sort_by}, Nodes.{words_of, AreNodes}}
use Rattle.shop_nodes.proofs.child_nodes.children.Given as goal

abbrev pub invariant-loop-job : goal.invariant-loop-job
invariant-loop-job l = (done : List ℕ) × record {
  all : l.jobs.items ++ done ≡ conflict l.instance l.node.word;
  words : words_of l.children.items ≡ sort_by (lb l.instance) (map (λ j. l.node.word ++ j ∷ []) done);
  nodes : AreNodes l.instance l.children.items;
}

abbrev pub decreases-loop-job : goal.decreases-loop-job
decreases-loop-job l = vec_len l.jobs
