use Rattle.std.proofs.Common.{rules, ◌-◌, ◌≤◌, None, List, sym, subst, arith}
use Rattle.shop_tree.specs.{inner.StateWalkers.stage_of, inner.Walkers.{IsTurn, Stage}}
use Rattle.shop_nodes.specs.{declared.halts.Pending.Pending, declared.halts.Pending.TheVariants.Rest}
use Rattle.shop_tree.proofs.{StateLemmas.pending_pushed, WalkerLemmas.{turn_counted, turn_halted}}
use Rattle.shop_tree.proofs.walkers.Walker.count_closed.Goals as goal

pub returns-then-self-count-clause-turn : goal.returns-then-self-count-clause-turn
returns-then-self-count-clause-turn g c = search (rules, turn_counted)

pub returns-clause-turn : goal.returns-clause-turn
returns-clause-turn g c =
    let s = stage_of c.args.self.now
    in let few : s.walk.budget ≤ c.args.count = (let a = c.if-self-count.false in omega arith)
    in let ended : List Pending → Stage = λ xs. record s { walk = record s.walk { budget = 0 }; stack = xs }
    in subst (λ (xs : List Pending). IsTurn s (Rest c.args.depth c.args.count) (ended xs))
    (sym (pending_pushed c.args.self.now.stack.items c.push.new.self.items
    (record { pending = Rest c.args.depth (c.args.count - s.walk.budget); state = None }) c.in_ok-push.ensures.items))
    (turn_halted s c.args.depth c.args.count c.requires.on c.requires.some few)
