use Rattle.std.proofs.Common.{sym, ◌∙◌}
use Rattle.shop_model.{specs.inner.Intervals.interval_at, proofs.ClearIntervalLemmas.found}
use Rattle.shop_model.proofs.overlaps.first_overlap_unless_clear.Goals as goal

pub returns-then-is_ok : goal.returns-then-is_ok
returns-then-is_ok c =
    let interval = interval_at c.route.result.now c.row.result.now c.args.k
    in let at = found c.args.clear_intervals.now interval c.binary_search.result
    (sym c.is_ok.ensures.value ∙ c.if-is_ok.true) c.binary_search.ensures.bound c.binary_search.ensures.ok
    in c.requires.apart c.args.j c.args.k at.0 interval c.requires.operation at.1
    (at.2 interval ∙ (λ i. interval_at (c.route.ensures.route i) (c.row.ensures.row i) c.args.k))
