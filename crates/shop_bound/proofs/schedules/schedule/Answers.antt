use Rattle.std.proofs.{Common.{rules, inl, inr, arith, ap, ◌≡◌, ◌∙◌, List, length}, lemmas.List.length-map}
use Rattle.shop_bound.specs.{inner.Serving.triples_of, declared.triples.Triple.Triple, OneMachine.one}
use Rattle.shop_bound.proofs.{QueueTurns.{none_released, room_kept}, Turns.{ready_or_done, ready_run, started}}
use Rattle.shop_bound.proofs.Turns.{all_done}
use Rattle.shop_bound.proofs.TurnCounts.{ready_turns, undone-none, undone-fresh, turns_left-two}
use Rattle.shop_bound.proofs.WorkSums.{IsFresh, fresh-is, fresh-triples}
use Rattle.shop_bound.proofs.schedules.schedule.Goals as goal

pub loop-chosen-init : goal.loop-chosen-init
loop-chosen-init c =
    let works = c.fill.new.works
    in let fresh : IsFresh works = rw c.fill.ensures (fresh-is c.args.triples.now)
    in let same : triples_of works ≡ c.args.triples.now = rw c.fill.ensures (fresh-triples c.args.triples.now)
    in let long : length works ≡ length c.args.triples.now = rw c.fill.ensures (length-map _ _)
    in let all = undone-fresh works fresh
    in let two = turns_left-two works 0
    in let less = ready_turns works 0 c.ready_at-clock.result c.ready_at-clock.ensures.ready
    in record {
      queue = c.ready_at-clock.ensures.queue;
      later = c.ready_at-clock.ensures.later;
      room = room_kept _ _ _ c.fill-2.ensures.room c.ready_at-clock.ensures.room;
      run = ready_run works 0 _ 0 (started works fresh) c.ready_at-clock.ensures.ready;
      same = same;
      ready = ready_or_done works 0 _ c.ready_at-clock.ensures.ready;
      turns = omega arith;
      each = omega arith;
    }

pub loop-chosen-smaller : goal.loop-chosen-smaller
loop-chosen-smaller c = grind (arith, ready_turns)

pub loop-chosen-preserved : goal.loop-chosen-preserved
loop-chosen-preserved c = search (rules, room_kept, ready_run, ready_or_done, ready_turns)

pub returns-clause-bound : goal.returns-clause-bound
returns-clause-bound c = elim c.loop-chosen.invariant.ready [
  | inl w ↦ (absurd (none_released _ _ _ _ c.loop-chosen.invariant.queue.are c.loop-chosen.invariant.later
      c.in_default.ensures w.0 w.1))
  | inr d ↦ all_done c.loop-chosen.works c.loop-chosen.clock c.loop-chosen.best c.loop-chosen.invariant.run d
      ∙ ap (λ (ts : List Triple). one ts) c.loop-chosen.invariant.same
]

pub returns-clause-each : goal.returns-clause-each
returns-clause-each c = elim c.loop-chosen.invariant.ready [
  | inl w ↦ (absurd (none_released _ _ _ _ c.loop-chosen.invariant.queue.are c.loop-chosen.invariant.later
      c.in_default.ensures w.0 w.1))
  | inr d ↦ (let e = undone-none c.loop-chosen.works d in omega (arith, c.loop-chosen.invariant.each))
]
