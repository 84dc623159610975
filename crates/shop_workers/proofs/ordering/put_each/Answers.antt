use Rattle.std.proofs.{Common.{◌≡◌, Some, rules, arith}, lemmas.{Grind.{common_steps, elements}, List.Elements.All-pop}}
use Rattle.shop_runs.specs.Entries.{told}
use Rattle.shop_workers.proofs.ordering.put_each.Goals as goal

pub loop-entry-preserved : goal.loop-entry-preserved
loop-entry-preserved c =
    (search rules, c.put.ensures.by_piece, grind (arith, elements), search rules, grind (arith, common_steps))

pub put-requires-clause-of : goal.put-requires-clause-of
put-requires-clause-of c = (All-pop (λ e. told e.round.now ≡ told c.args.round.now) c.loop-entry.entries.items
    c.pop.new.self.items (Some c.in-Some.entry) c.in-Some.ensures.items c.loop-entry.invariant.2).1
