use Rattle.std.{proofs.Common.{◌<◌, ◌≡◌}, specs.Prelude.All}
use Rattle.shop_runs.specs.Entries.{told}
use Rattle.shop_workers.specs.{Seats.{knows, IsSeatOf}, Works.{Grows, IsAllKnown, AreWon, numbers_of}}
use Rattle.shop_workers.proofs.working.claim_and_search_all.Given as goal

abbrev pub invariant-loop-number : goal.invariant-loop-number
invariant-loop-number g l =
    let searched = g.P.PieceSearch.searched in record {
      round : searched l.searcher ≡ searched l.initial.searcher;
      seat : IsSeatOf l.board l.seat;
      grows : Grows (knows l.initial.seat) (knows l.seat);
      claimed : IsAllKnown l.number (knows l.seat);
      entries : AreWon (told (searched l.initial.searcher)) (knows l.initial.seat) (knows l.seat) l.entries.items;
      below : All (λ n. n < l.number) (numbers_of l.entries.items);
    }
