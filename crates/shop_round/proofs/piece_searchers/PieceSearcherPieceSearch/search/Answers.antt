use Rattle.std.{proofs.{Common.{◌≡◌, ◌<◌, length, sym, subst}, lemmas.Result.IfOk-weaker}, specs.Prelude.IfOk}
use Rattle.shop_nodes.specs.Sheets.{IsSheetOf}
use Rattle.shop_runs.{specs.Entries.{told, IsOf}, proofs.EntryLemmas.{sheets_at, sheets_of_piece}}
use Rattle.shop_tree.specs.Searches.{Searches}
use Rattle.shop_round.proofs.piece_searchers.PieceSearcherPieceSearch.search.Goals as goal

pub returns-clause-of : goal.returns-clause-of
returns-clause-of c =
    let r = c.self.inside.round.now
    in let shop = c.self.inside.searcher
    in let q = c.index.result.now
    in let n = c.args.number
    in subst (λ x. IfOk c.search.result (λ s. IsOf (told x) s × (s.number ≡ n))) c.self.view_is
    (sheets_of_piece (told r) n c.search.result
    (sheets_at r n q shop c.search.result (subst (λ x. n < length x.pieces.items) (sym c.self.view_is) c.requires)
    c.index.ensures c.self.invariant
    (IfOk-weaker c.search.result (Searches shop q r.best r.budget) (λ s. IsSheetOf s shop q r.best r.budget)
    (λ s m. m.of) c.search.ensures.sheet)))
