use Rattle.std.proofs.{Common.{◌∙◌, arith}, lemmas.List.{take_all, drop_all}}
use Rattle.shop_runs.specs.inner.Stores.{open_list}
use Rattle.shop_runs.proofs.open_nodes.OpenNodes.take_all.Goals as goal

pub returns-clause-taken : goal.returns-clause-taken
returns-clause-taken c =
    let many = c.in_ok-count.ensures.count
    in c.in_ok-take.ensures.1 ∙ take_all c.in_ok-count.count (open_list c.args.self.now) (omega arith)

pub returns-clause-none : goal.returns-clause-none
returns-clause-none c =
    let many = c.in_ok-count.ensures.count
    in c.in_ok-take.ensures.2 ∙ drop_all c.in_ok-count.count (open_list c.args.self.now) (omega arith)
