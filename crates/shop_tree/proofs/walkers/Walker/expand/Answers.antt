use Rattle.std.proofs.Common.{◌<◌, ◌∙◌, refl, subst, arith}
use Rattle.shop_tree.specs.{inner.StateWalkers.stage_of, inner.Walkers.HasExpanded}
use Rattle.shop_tree.proofs.{ListLemmas.on_ok, ExpandLemmas.{expands_followed, followed_same, followed_then}}
use Rattle.shop_tree.proofs.StateSteps.{ended, gone, listed_at}
use Rattle.shop_tree.proofs.walkers.Walker.expand.Goals as goal

pub loop-self-init : goal.loop-self-init
loop-self-init g c = grind (arith, followed_same)

pub branch-self-requires : goal.branch-self-requires
branch-self-requires g c =
    let self = c.loop-self.self in let at = c.loop-self.invariant.at
    in record {
      listed = listed_at at (refl {a = stage_of self}) (refl {a = self.stack.items})
          c.list_candidates-closed.ensures.laid_out c.list_candidates-closed.ensures.current
          (subst (λ n. n < self.operations) (c.len.ensures ∙ self.path.ok.0) c.loop-self-test.true)
          (c.list_candidates-closed.ensures.listed self.path.items at.state);
    }

pub returns-then-len-ne1-clause-expanded : goal.returns-then-len-ne1-clause-expanded
returns-then-len-ne1-clause-expanded g c =
    on_ok _ (HasExpanded (stage_of c.args.self.now) (stage_of c.branch-self.new.self))
    (λ e. expands_followed c.loop-self.invariant.followed e) c.branch-self.result c.branch-self.ensures.expanded

pub go_on-requires-clause-listed : goal.go_on-requires-clause-listed
go_on-requires-clause-listed g c =
    let self = c.loop-self.self in let at = c.loop-self.invariant.at
    in listed_at at (refl {a = stage_of self}) (refl {a = self.stack.items})
    c.list_candidates-closed.ensures.laid_out c.list_candidates-closed.ensures.current
    (subst (λ n. n < self.operations) (c.len.ensures ∙ self.path.ok.0) c.loop-self-test.true)
    (c.list_candidates-closed.ensures.listed self.path.items at.state)

pub returns-in_default-clause-expanded : goal.returns-in_default-clause-expanded
returns-in_default-clause-expanded g c = expands_followed c.loop-self.invariant.followed
    (ended _ c.go_on.new.self c.in_default.is c.in_ok-next.ensures).0

pub returns-in_default-clause-states : goal.returns-in_default-clause-states
returns-in_default-clause-states g c = grind (arith, ended)

pub loop-self-preserved : goal.loop-self-preserved
loop-self-preserved g c =
    let there = gone _ c.go_on.new.self c.in-Some.is c.in_ok-next.ensures
    in record { followed = followed_then c.loop-self.invariant.followed there.followed; at = there.at }

pub loop-self-smaller : goal.loop-self-smaller
loop-self-smaller g c = grind (arith, gone)

pub returns-clause-expanded : goal.returns-clause-expanded
returns-clause-expanded g c =
    on_ok _ (HasExpanded (stage_of c.args.self.now) (stage_of c.keep_found.new.self))
    (λ e. expands_followed c.loop-self.invariant.followed e) c.keep_found.result c.keep_found.ensures.expanded
