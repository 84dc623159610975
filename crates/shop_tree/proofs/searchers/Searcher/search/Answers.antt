use Rattle.std.proofs.Common.{◌∙◌, ap, subst}
use Rattle.shop_tree.specs.{Searches.Searches, inner.LaneWalkers.shop_walked}
use Rattle.shop_tree.proofs.searchers.Searcher.search.Goals as goal

pub returns-clause-sheet : goal.returns-clause-sheet
returns-clause-sheet c =
    subst (λ s. Searches s c.args.piece.now c.args.best c.args.budget c.in_ok-sheet.sheet)
    (ap shop_walked c.deref_mut.ensures.value ∙ c.in_ok-walker.ensures.walker.0) c.in_ok-sheet.ensures.sheet
