use Rattle.std.proofs.{Common.{◌≡◌, rules, sym, ◌∙◌, ap, subst, reverse}, lemmas.Fn.filter_same}
use Rattle.shop_nodes.specs.{inner.HeldNodes.nodes_below}
use Rattle.shop_runs.specs.{inner.KeptStacks.AreLeasts}
use Rattle.shop_runs.proofs.{StoreLemmas.below_reverse, KeptLemmas.{leasts_below, still_kept}}
use Rattle.shop_runs.proofs.kept_stacks.KeptStack.keep_below.Goals as goal

nodes_kept : (c : goal.After-retain-2)
    → c.retain.new.self.items ≡ nodes_below c.args.makespan c.self.inside.nodes.items
nodes_kept c = filter_same _ _ _ (λ x b f k. search rules) _ _ c.retain.ensures.filtered

leasts_kept : (c : goal.After-retain-2)
    → c.retain-2.new.self.items ≡ leasts_below c.args.makespan c.self.inside.leasts.items
leasts_kept c = filter_same _ _ _ (λ x b f k. search rules) _ _ c.retain-2.ensures.filtered

pub invariant_of-self : goal.invariant_of-self
invariant_of-self c =
    ap (λ ls. reverse ls) (leasts_kept c)
    ∙ subst (λ ns. AreLeasts ns (leasts_below c.args.makespan c.self.inside.leasts.items)) (sym (nodes_kept c))
    (still_kept c.args.makespan c.self.inside.nodes.items c.self.inside.leasts.items c.self.invariant)

pub returns : goal.returns
returns c =
    ap (λ ns. reverse ns) (nodes_kept c) ∙ (below_reverse c.args.makespan c.self.inside.nodes.items
    ∙ ap (λ ns. nodes_below c.args.makespan ns) c.self.view_is)
