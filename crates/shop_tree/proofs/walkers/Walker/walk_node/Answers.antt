use Rattle.std.proofs.{Common.{◌≡◌, ◌<◌, ◌∙◌, [], ap, arith, subst, sym}, lemmas.List.Elements.All-nil}
use Rattle.shop_model.proofs.WordLengths.{word_shared}
use Rattle.shop_bound.specs.Bound.{lb}
use Rattle.shop_tree.specs.inner.{Held.pending_in, WalkStates.IsStateIn, StateWalkers.{stage_of}, Walkers.{HasWalked}}
use Rattle.shop_tree.{specs.inner.Walkers.{node_walk}, proofs.{ListLemmas.on_ok, WalkerLemmas.node_walked}}
use Rattle.shop_tree.proofs.walkers.Walker.walk_node.Goals as goal

pub write_to-requires : goal.write_to-requires
write_to-requires g c = grind (arith, word_shared)

pub returns-clause-walked : goal.returns-clause-walked
returns-clause-walked g c =
    let self = c.args.self.now in let node = c.args.node.now in let s = stage_of self
    in let t = stage_of c.walk_from.new.self
    in let empty : s.stack ≡ [] = ap pending_in c.requires.empty
    in let below : lb self.instance.now node.word < self.incumbent = (let a = c.if-node-self.false
    in let b = c.requires.node.1 in omega arith)
    in let went : c.write_to.new.list.items ≡ node.word = c.in_ok-write_to.ensures.list
    in let walked = rw went at c.walk_from.ensures.walked
    in on_ok _ (HasWalked s t (node_walk s node)) (λ h. node_walked s t node empty c.requires.some below h)
    c.walk_from.result walked

pub walk_from-requires : goal.walk_from-requires
walk_from-requires g c = record {
  at = record {
    bound = c.requires.node.1 ∙ ap (lb c.args.self.now.instance.now) (sym c.in_ok-write_to.ensures.list);
    below = (let a = c.if-node-self.false in omega arith);
    in_order = rw c.requires.empty (record { each = tt; rising = tt });
    states = rw c.requires.empty (All-nil _);
    state = subst (IsStateIn c.fill.new.self) c.as_slice.ensures.value c.fill.ensures.state;
  };
}
