use Rattle.std.proofs.Common.{◌∙◌, ap, eqb, length}
use Rattle.shop_runs.proofs.StoreLemmas.{empty_is}
use Rattle.shop_runs.proofs.bound_maps.BoundMap.is_empty.Goals as goal

pub returns : goal.returns
returns c = empty_is c.is_empty.result c.self.inside.stacks.entries c.is_empty.ensures
    ∙ ap (λ ns. eqb (length ns) 0) c.self.view_is
