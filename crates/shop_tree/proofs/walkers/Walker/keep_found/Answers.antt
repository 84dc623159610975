use Rattle.std.proofs.Common.{◌≡◌, ◌≤◌, ◌<◌, length, sym, subst, arith, rules}
use Rattle.shop_model.{specs.Shop.operation_count, proofs.WordLengths.word_length}
use Rattle.shop_bound.specs.Bound.{lb}
use Rattle.shop_tree.specs.{inner.StateWalkers.stage_of, inner.Walkers.HasExpanded}
use Rattle.shop_tree.proofs.ExpandLemmas.{expands_found, found_at}
use Rattle.shop_tree.proofs.walkers.Walker.keep_found.Goals as goal

pub of_path-requires : goal.of_path-requires
of_path-requires g c = grind (arith, word_length)

pub returns-clause-expanded : goal.returns-clause-expanded
returns-clause-expanded g c =
    let self = c.args.self.now
    in let long : operation_count self.instance.now ≤ length self.path.items = (let a = c.requires.full
    in let b = self.counted in omega arith)
    in let below : lb self.instance.now self.path.items < self.incumbent = (let a = c.requires.at.bound
    in let b = c.requires.at.below in omega arith)
    in let same : _ ≡ found_at (stage_of self) = search rules
    in subst (HasExpanded (stage_of self)) (sym same)
    (expands_found (stage_of self) long below c.requires.at.in_order)
