use Rattle.std.proofs.Common.{◌≡◌, ℕ, ◌+◌, max, rules, arith, subst, sym, set, refl}
use Rattle.shop_bound.{specs.inner.Serving.{IsRun, work_at}, proofs.Turns.{held, finished, left_of, held_run}}
use Rattle.shop_bound.proofs.{Turns.{held_fewer, finished_run, finished_fewer, end_small}, WorkSums.triples-set}
use Rattle.shop_bound.proofs.{TurnCounts.undone-set, QueueTurns.{stop_is, first_served, queue_done, queue_held}}
use Rattle.shop_bound.proofs.schedules.serve.Goals as goal

pub overflow_add-end : goal.overflow_add-end
overflow_add-end c =
    let h = end_small c.args.works.now c.args.clock c.args.best.now c.args.chosen c.requires.run (first_served _ _ _ _
    c.requires.queue.are c.requires.later c.args.chosen c.requires.chosen)
    c.requires.small in omega arith

pub returns-then-stop-end-clause-run : goal.returns-then-stop-end-clause-run
returns-then-stop-end-clause-run c =
    held_run c.args.works.now c.args.clock c.args.best.now c.args.chosen c.min-stop.result c.requires.run
    (first_served _ _ _ _ c.requires.queue.are c.requires.later c.args.chosen c.requires.chosen)
    (stop_is c.requires.queue c.requires.later c.next_release.result c.next_release.ensures c.unwrap_or.ensures
    c.min-stop.ensures (omega arith))

pub returns-then-stop-end-clause-same : goal.returns-then-stop-end-clause-same
returns-then-stop-end-clause-same c = grind (arith, triples-set, held)

pub returns-then-stop-end-clause-fewer : goal.returns-then-stop-end-clause-fewer
returns-then-stop-end-clause-fewer c =
    held_fewer c.args.works.now c.args.clock c.args.chosen c.min-stop.result (first_served _ _ _ _
    c.requires.queue.are c.requires.later c.args.chosen c.requires.chosen)
    (stop_is c.requires.queue c.requires.later c.next_release.result c.next_release.ensures c.unwrap_or.ensures
    c.min-stop.ensures (omega arith))
    c.if-stop-end.true

pub overflow_add-reached : goal.overflow_add-reached
overflow_add-reached c =
    let h = end_small c.args.works.now c.args.clock c.args.best.now c.args.chosen c.requires.run (first_served _ _ _ _
    c.requires.queue.are c.requires.later c.args.chosen c.requires.chosen)
    c.requires.small in omega arith

pub returns-clause-run : goal.returns-clause-run
returns-clause-run c =
    let h = finished_run c.args.works.now c.args.clock c.args.best.now c.args.chosen c.min-stop.result
    c.requires.run (first_served _ _ _ _ c.requires.queue.are c.requires.later c.args.chosen c.requires.chosen)
    (stop_is c.requires.queue c.requires.later c.next_release.result c.next_release.ensures c.unwrap_or.ensures
    c.min-stop.ensures (omega arith))
    c.if-stop-end.false
    in let m : c.max.result ≡ max (c.args.clock + left_of c.args.works.now
    c.args.chosen + (work_at c.args.works.now c.args.chosen).triple.tail) c.args.best.now = search rules
    in subst (λ (b : ℕ). IsRun (set c.args.works.now c.args.chosen (finished c.args.works.now c.args.chosen))
    (c.args.clock + left_of c.args.works.now c.args.chosen) b) (sym m) h

pub returns-clause-same : goal.returns-clause-same
returns-clause-same c = triples-set c.args.works.now c.args.chosen (finished c.args.works.now c.args.chosen) refl

pub returns-clause-fewer : goal.returns-clause-fewer
returns-clause-fewer c = search (rules, finished_fewer, first_served)

pub returns-then-stop-end-clause-single : goal.returns-then-stop-end-clause-single
returns-then-stop-end-clause-single c = grind (arith, undone-set, held, first_served)

pub returns-clause-single : goal.returns-clause-single
returns-clause-single c = grind (arith, undone-set, finished, first_served)

pub overflow_sub-works : goal.overflow_sub-works
overflow_sub-works c =
    (stop_is c.requires.queue c.requires.later c.next_release.result c.next_release.ensures c.unwrap_or.ensures
    c.min-stop.ensures (omega arith)).later

pub returns-then-stop-end-clause-queue : goal.returns-then-stop-end-clause-queue
returns-then-stop-end-clause-queue c =
    let served = first_served _ _ _ _ c.requires.queue.are c.requires.later c.args.chosen c.requires.chosen
    in queue_held c.args.works.now c.args.clock c.args.chosen c.min-stop.result
    (held c.args.works.now c.args.clock c.args.chosen c.min-stop.result) c.args.queue.now c.requires.queue
    served refl served.undone
    (stop_is c.requires.queue c.requires.later c.next_release.result c.next_release.ensures c.unwrap_or.ensures
    c.min-stop.ensures (omega arith)).later

pub returns-clause-queue : goal.returns-clause-queue
returns-clause-queue c =
    queue_done c.args.works.now c.args.clock c.args.chosen (c.args.clock + left_of c.args.works.now c.args.chosen)
    (finished c.args.works.now c.args.chosen) c.args.queue.now c.finish.new.self c.requires.queue
    (first_served _ _ _ _ c.requires.queue.are c.requires.later c.args.chosen c.requires.chosen) refl refl
    (omega arith) c.requires.chosen c.finish.ensures.first c.finish.ensures.fewer c.finish.ensures.room
    c.finish.ensures.coming
