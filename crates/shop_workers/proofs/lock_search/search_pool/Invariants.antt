use Rattle.std.proofs.Common.{◌≡◌}
use Rattle.shop_runs.specs.{Entries.told, Hits.{hits_of_round, IsHitOrEnd}}
use Rattle.shop_workers.proofs.TakenEntries.{AreTaken}
use Rattle.shop_workers.proofs.lock_search.search_pool.Given as goal

abbrev pub invariant-loop : goal.invariant-loop
invariant-loop g l =
    let searched = g.P.PieceSearch.searched in let round = searched l.initial.searcher in
    (goal.iterator-loop g).can_next l.iterator' × (goal.iterator-loop g).is_finite l.iterator'
    × (searched l.searcher ≡ round) × IsHitOrEnd (hits_of_round round) l.low
    × AreTaken (told round) l.low l.entries.items
