use Rattle.std.{proofs.Common.{◌≡◌, ◌∙◌, IfSome, None, Option, subst, sym}, specs.Global.Box}
use Rattle.shop_model.specs.Shop.{Shop}
use Rattle.shop_tree.specs.{declared.searchers.LaneWalker.LaneWalker, inner.LaneWalkers.IsWalkOf}
use Rattle.shop_tree.proofs.searchers.Searcher.take_walker.Goals as goal

none_kept : {kept : Option (Box LaneWalker)} (shop : Shop) → kept ≡ None → IfSome kept (λ b. IsWalkOf shop b.value)
none_kept shop is = rw is tt

pub invariant_of-self-2 : goal.invariant_of-self-2
invariant_of-self-2 c = none_kept _ c.take.ensures.after

pub invariant_of-self-in_err-new : goal.invariant_of-self-in_err-new
invariant_of-self-in_err-new c = none_kept _ c.take.ensures.after

pub invariant_of-self-in_err-walker : goal.invariant_of-self-in_err-walker
invariant_of-self-in_err-walker c = none_kept _ c.take.ensures.after

pub returns-clause-walker : goal.returns-clause-walker
returns-clause-walker c = let made = subst (IsWalkOf c.self.inside.layout.now.asked) (sym c.in_ok-new.ensures.ok)
    c.in_ok-walker.ensures in (made.0 ∙ c.self.view_is, made.1)

pub returns-in_err-new-clause-instance : goal.returns-in_err-new-clause-instance
returns-in_err-new-clause-instance c = c.self.view_is
