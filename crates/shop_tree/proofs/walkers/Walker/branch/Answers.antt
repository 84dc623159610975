use Rattle.std.proofs.{Common.{◌≡◌, ◌<◌, [], length, subst, arith}, lemmas.List.nil_from_length}
use Rattle.shop_model.specs.Shop.{Shop, operation_count}
use Rattle.shop_tree.specs.inner.{Opens.AreChildren, StateWalkers.stage_of, Walkers.{Stage, HasBranched, HasExpanded}}
use Rattle.shop_tree.proofs.{ListLemmas.on_ok, ExpandLemmas.expands_branched, ListedLemmas.none_kept}
use Rattle.shop_tree.proofs.StateSteps.{listed_stand}
use Rattle.shop_tree.proofs.walkers.Walker.branch.Goals as goal

pub close-requires-clause-closed : goal.close-requires-clause-closed
close-requires-clause-closed g c =
    let self = c.args.self.now in let word = self.path.items
    in let none : self.candidates.items ≡ [] = nil_from_length self.candidates.items (let a = c.len.ensures
    in let b = c.if-len-eq0.true in omega arith)
    in subst (λ (x : Shop). AreChildren x self.incumbent word [] c.args.closed) self.same_shop
    (none_kept self.candidates.items c.args.closed none c.requires.listed.candidates)

pub push_children-requires : goal.push_children-requires
push_children-requires g c = record { listed = listed_stand c.in_ok-reclaim.ensures.stands c.requires.listed }

pub returns-clause-expanded : goal.returns-clause-expanded
returns-clause-expanded g c =
    let self = c.args.self.now in let new = stage_of c.push_children.new.self
    in let short : length self.path.items < operation_count self.instance.now =
    (let a = c.requires.listed.short in let b = self.counted in omega arith)
    in on_ok _ (HasExpanded (stage_of self) new)
    (λ b. expands_branched (stage_of self) new short c.requires.listed.at.in_order
    (subst (λ (t : Stage). HasBranched t new) c.in_ok-reclaim.ensures.stands.stage b))
    c.push_children.result c.push_children.ensures.branched
