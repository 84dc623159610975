use Rattle.std.proofs.Common.{◌≡◌, ◌∙◌, subst}
use Rattle.shop_model.specs.Word.{placing}
use Rattle.shop_bound.{specs.{Bound.lb, Desks.DeskState}, proofs.LowerBounds.lower_bound_is}
use Rattle.shop_bound.proofs.desks.Desk.bound.Goals as goal

pub returns-clause-bound : goal.returns-clause-bound
returns-clause-bound c =
    let d = c.self.inside in let v = c.self.invariant
    in subst (λ (s : DeskState). c.bound.result ≡ lb s.shop s.word) c.self.view_is
    (c.bound.ensures.bound (placing d.instance.now d.jobs.items) v.placed
    ∙ lower_bound_is d.instance.now d.jobs.items v.limits v.word)
