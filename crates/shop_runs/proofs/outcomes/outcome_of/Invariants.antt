use Rattle.std.proofs.Common.{length}
use Rattle.shop_runs.{specs.Entries.told, proofs.GatherLemmas.GatheredSoFar}
use Rattle.shop_runs.proofs.outcomes.outcome_of.Given as goal

abbrev pub invariant-loop-entry : goal.invariant-loop-entry
invariant-loop-entry l = record {
  can_next : (goal.iterator-loop-entry).can_next l.entry-iterator;
  is_finite : (goal.iterator-loop-entry).is_finite l.entry-iterator;
  so_far : GatheredSoFar (told l.round) (length l.yielded) l.outcome;
}
