use Rattle.std.proofs.Common.{◌≡◌}
use Rattle.shop_runs.specs.Entries.{told}
use Rattle.shop_round.{specs.inner.Hits.IsFirstHitBelow, proofs.EntriesUpToHit.AreEntriesUpTo}
use Rattle.shop_round.proofs.alone.Alone.search_round.Given as goal

abbrev pub invariant-loop-number : goal.invariant-loop-number
invariant-loop-number l = record {
  entries : AreEntriesUpTo (told l.round) l.entries.items l.number;
  hit : IsFirstHitBelow (told l.round) l.number l.hit;
  round : l.searcher ≡ l.round;
}
