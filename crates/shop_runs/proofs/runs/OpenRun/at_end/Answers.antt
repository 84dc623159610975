use Rattle.std.proofs.Common.{length, arith, refl, sym, eqb-true}
use Rattle.shop_runs.{specs.{Plans.planned, inner.Stores.open_list}, proofs.{PieceLemmas.some_open, Ways.way_first}}
use Rattle.shop_runs.proofs.Ways.{way_search, way_next, way_closed, way_last}
use Rattle.shop_runs.proofs.runs.OpenRun.at_end.Goals as goal

pub loop-done-init : goal.loop-done-init
loop-done-init g c = grind (arith, way_first)

pub returns-then-is_empty : goal.returns-then-is_empty
returns-then-is_empty g c = way_closed c.args.instance.now
    (planned c.args.plan.now) c.loop-done.done c.loop-done.run c.loop-done.invariant.way
    (eqb-true (length (open_list c.loop-done.run.open)) 0 (sym c.if-is_empty.ensures))

pub next-requires-clause-search : goal.next-requires-clause-search
next-requires-clause-search g c = way_search c.args.instance.now
    (planned c.args.plan.now) c.loop-done.done c.loop-done.run c.loop-done.invariant.way

pub loop-done-preserved : goal.loop-done-preserved
loop-done-preserved g c = record {
  way = way_next c.args.instance.now
      (planned c.args.plan.now) c.loop-done.done c.loop-done.run c.loop-done.invariant.way c.next.new.self
      c.loop-done-test.true
      (some_open (length (open_list c.loop-done.run.open)) (length (open_list c.loop-done.run.open)) refl
      c.if-is_empty.ensures) c.in_ok-next.ensures.next;
  layout = c.in_ok-next.ensures.layout;
}

pub returns : goal.returns
returns g c = way_last c.args.instance.now
    (planned c.args.plan.now) c.loop-done.done c.loop-done.run c.loop-done.invariant.way
    (let a = c.loop-done-test.false in omega arith)

pub next-requires-clause-rounds : goal.next-requires-clause-rounds
next-requires-clause-rounds g c = grind arith
