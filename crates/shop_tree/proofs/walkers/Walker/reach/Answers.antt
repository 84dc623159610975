use Rattle.std.{proofs.{Common.{◌≡◌, ◌∙◌, ◌<◌, refl, subst, arith}, lemmas.List.length-take-le}, specs.Prelude.take}
use Rattle.shop_bound.{proofs.WordLengths.room_left}
use Rattle.shop_tree.specs.inner.{Held.pending_in, WalkStates.IsStateIn, StateWalkers.stage_of}
use Rattle.shop_tree.proofs.{OpenLemmas.popped, StateLemmas.held_below, WalkerLemmas.turn_cut}
use Rattle.shop_tree.proofs.WalkerLemmas.{went_in_order, went_turns, went_walk}
use Rattle.shop_nodes.specs.{Halts.{open_child, word_at}}
use Rattle.shop_states.specs.inner.WordStates.{IsStateOf}
use Rattle.shop_tree.proofs.walkers.Walker.reach.Goals as goal

pub unwrap-requires : goal.unwrap-requires
unwrap-requires g c =
    let self = c.args.self.now in let o = c.args.child in let word = self.path.items
    in let own = (popped (pending_in self.stack.items) (open_child o) c.requires.on).own
    in let few = room_left self.instance.now (take o.depth word) o.job own.is_word
    in let depth = length-take-le o.depth word own.depth
    in c.push.ensures.succeeds (let a = c.truncate.ensures.len in let b = c.truncate.ensures.capacity
    in let d = self.path_room in omega arith)

pub go_on_in-requires-clause-word : goal.go_on_in-requires-clause-word
go_on_in-requires-clause-word g c =
    let self = c.args.self.now in let o = c.args.child in let word = self.path.items
    in let own = (popped (pending_in self.stack.items) (open_child o) c.requires.on).own
    in let went : c.as_slice.result.now ≡ word_at word o = c.as_slice.ensures.value
    ∙ rw (c.unwrap.ensures, c.truncate.ensures.items) at c.push.ensures.items
    in rw (went, self.same_shop) own.is_word

pub returns-then-child-self : goal.returns-then-child-self
returns-then-child-self g c = (
  turn_cut (stage_of c.args.self.now) c.args.child c.requires.on c.requires.some c.if-child-self.true,
  rw c.give_back.ensures.laid_out c.requires.states,
)

pub returns : goal.returns
returns g c =
    let self = c.args.self.now in let o = c.args.child in let d = self.states.dispatcher.laid_out
    in let word = self.path.items in let hs = self.stack.items in let s = stage_of self
    in let own = (popped (pending_in hs) (open_child o) c.requires.on).own
    in let went : c.push.new.self.items ≡ word_at word o =
    rw (c.unwrap.ensures, c.truncate.ensures.items) at c.push.ensures.items
    in let below : o.bound < self.incumbent = (let a = c.if-child-self.false in omega arith)
    in record {
      walk = rw went (went_walk s o c.requires.on c.requires.some below);
      fewer = went_turns s o c.requires.some;
      shop = refl;
      spent = omega arith;
      at = record {
        bound = rw went own.bound;
        below = below;
        in_order = rw went (went_in_order s o c.requires.on);
        states = rw (c.go_on_in.ensures.laid_out, went) (held_below (IsStateOf g.L.StateLanes d)
            self.instance.now self.incumbent word hs o c.requires.on c.requires.states);
        state = subst (IsStateIn c.go_on_in.new.self) c.as_slice.ensures.value
            c.in_ok-go_on_in.ensures.state;
      };
    }
