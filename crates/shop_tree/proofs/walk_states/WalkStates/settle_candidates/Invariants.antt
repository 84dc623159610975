use Rattle.std.proofs.Common.{◌≡◌, ◌≤◌, ◌++◌, List, map}
use Rattle.shop_tree.specs.{inner.Held.{Kept, held}, inner.WalkStates.{AreBounded, IsBranchingOf}}
use Rattle.shop_tree.proofs.TrialLemmas.{IsTrying}
use Rattle.shop_states.specs.inner.WordStates.{IsCandidate, IsStateOf}
use Rattle.shop_states.specs.declared.states.State.{State}
use Rattle.shop_tree.proofs.walk_states.WalkStates.settle_candidates.Given as goal

abbrev pub invariant-loop-index : goal.invariant-loop-index
invariant-loop-index g l = record {
  kids : List (Kept (State g.row.L.Denot g.row.L-Number.Denot));
  stack : l.stack.items ≡ l.fn.stack.items ++ map held kids;
  trying : IsTrying (IsStateOf g.L.StateLanes l.self.dispatcher.laid_out)
      (IsCandidate l.self.dispatcher.laid_out l.branching.word.now)
      l.self.dispatcher.laid_out.asked l.branching.limit l.branching.word.now
      l.branching.candidates.now l.index kids l.closed l.self.current.value;
  branching : IsBranchingOf l.self l.branching;
  bounded : AreBounded l.self l.branching l.top;
  more : l.branching.closed ≤ l.closed;
  same : l.self.dispatcher.laid_out ≡ l.fn.self.dispatcher.laid_out;
}
