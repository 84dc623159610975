use Rattle.std.proofs.Common.{rules, ◌≡◌, ◌<◌, length, arith}
use Rattle.shop_model.{specs.Shop.operation_count, proofs.WordLengths.word_length}
use Rattle.shop_tree.specs.{inner.Held.pending_in, inner.StateWalkers.stage_of, inner.Walkers.HasExpanded}
use Rattle.shop_tree.proofs.{AddLemmas.few_open, ExpandLemmas.ends_closed, HeldLemmas.{rest_on_top, states_rest}}
use Rattle.shop_tree.proofs.{ListLemmas.on_ok, WalkerLemmas.ends_counted}
use Rattle.shop_tree.proofs.walkers.Walker.close.Goals as goal

pub returns-then-self-count-clause-expanded : goal.returns-then-self-count-clause-expanded
returns-then-self-count-clause-expanded g c =
    let self = c.args.self.now
    in let short : length self.path.items < operation_count self.instance.now = (let a = c.requires.short
    in let b = self.counted in omega arith)
    in ends_counted (stage_of self) c.args.count c.requires.word short c.requires.closed c.requires.in_order
    c.if-self-count.true

pub put_rest-requires-clause-depth : goal.put_rest-requires-clause-depth
put_rest-requires-clause-depth g c = grind (arith, word_length)

pub put_rest-requires-clause-count : goal.put_rest-requires-clause-count
put_rest-requires-clause-count g c = search (rules, few_open)

pub returns-clause-expanded : goal.returns-clause-expanded
returns-clause-expanded g c =
    let self = c.args.self.now in let new = c.put_rest.new.stack.items
    in let short : length self.path.items < operation_count self.instance.now = (let a = c.requires.short
    in let b = self.counted in omega arith)
    in let depth : c.len.result ≡ length self.path.items = (let a = c.len.ensures in let b = self.path.ok.0
    in omega arith)
    in on_ok _ (HasExpanded (stage_of self) (record (stage_of self) { stack = pending_in new }))
    (λ e. ends_closed (stage_of self) c.args.count (pending_in new) c.requires.word short c.requires.closed
    c.requires.in_order (rest_on_top self.stack.items self.path.items c.args.count depth e))
    c.put_rest.result c.put_rest.ensures

pub returns-clause-states : goal.returns-clause-states
returns-clause-states g c = grind (arith, on_ok, states_rest)
