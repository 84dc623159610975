use Rattle.std.proofs.{Common.{refl, arith}, lemmas.List.{length-map, length-set}}
use Rattle.shop_states.{specs.inner.{LaneRaises.raise_in, Watchers.no_floor}, proofs.BehindRaises.{its_leg}}
use Rattle.shop_states.proofs.BehindRaises.{late_enough, leg_up_to, next_machine, next_raisable, next_read, next_there}
use Rattle.shop_states.proofs.{AskedHeads.own_reached, BehindRaises.{next_waits, raised_behind}, RaisedMachines.note_on}
use Rattle.shop_states.proofs.Watching.{noted_behind, watch_none}
use Rattle.shop_states.proofs.late_raises.raise_behind.Goals as goal

pub time-requires : goal.time-requires
time-requires g c = grind arith

pub overflow_add-ready : goal.overflow_add-ready
overflow_add-ready g c = grind arith

pub leg-leg-requires : goal.leg-leg-requires
leg-leg-requires g c = its_leg c.requires.can c.requires.waits c.requires.ends c.behind.ensures.index

pub head_or_greatest-head-requires : goal.head_or_greatest-head-requires
head_or_greatest-head-requires g c =
    leg_up_to c.requires.can c.requires.waits c.requires.ends c.behind.ensures.index c.leg-leg.ensures

pub returns-then-ready-head : goal.returns-then-ready-head
returns-then-ready-head g c = record {
  raises = late_enough c.requires.can c.requires.waits c.requires.ends c.behind.ensures.index c.leg-leg.ensures
      c.head_or_greatest-head.ensures (let time = c.time.ensures in omega arith) c.if-ready-head.true;
  noted = watch_none no_floor _ _ _;
  listed = c.requires.note.listed;
}

pub see-requires-clause-known : goal.see-requires-clause-known
see-requires-clause-known g c = λ some.
    let many = length-map c.args.raises.now (raise_in g.L.StateLanes.value)
    in let time = c.time.ensures
    in let there = next_there c.requires.can c.requires.waits c.requires.ends c.behind.ensures.index c.leg-leg.ensures
    c.head_or_greatest-head.ensures (omega arith) c.if-ready-head.false
    in let machine = next_machine c.requires.can c.requires.waits c.requires.ends c.behind.ensures.index
    c.leg-leg.ensures c.head_or_greatest-head.ensures (omega arith) c.if-ready-head.false
    in let machines = c.requires.can.machines
    in let known = c.requires.note.known c.leg-leg.result.position (omega arith) in omega arith

pub see-requires-clause-fits : goal.see-requires-clause-fits
see-requires-clause-fits g c = grind arith

pub raise_route-requires-clause-waits : goal.raise_route-requires-clause-waits
raise_route-requires-clause-waits g c =
    let time = c.time.ensures
    in next_waits c.requires.can c.requires.waits c.requires.ends c.behind.ensures.index c.leg-leg.ensures
    c.head_or_greatest-head.ensures (omega arith) c.if-ready-head.false

pub raise_route-requires-clause-below : goal.raise_route-requires-clause-below
raise_route-requires-clause-below g c =
    let time = c.time.ensures in let below = c.if-ready-head.false
    in let read = next_read c.requires.can c.requires.waits c.requires.ends c.behind.ensures.index c.leg-leg.ensures
    c.head_or_greatest-head.ensures (omega arith) c.if-ready-head.false in omega arith

pub raise_route-requires-clause-raisable : goal.raise_route-requires-clause-raisable
raise_route-requires-clause-raisable g c =
    let time = c.time.ensures
    in next_raisable c.requires.can c.requires.waits c.requires.ends c.behind.ensures.index c.leg-leg.ensures
    c.head_or_greatest-head.ensures (omega arith) c.if-ready-head.false

pub raise_route-requires-clause-note : goal.raise_route-requires-clause-note
raise_route-requires-clause-note g c = λ some.
    let saw = c.see.ensures.raises some
    in note_on c.requires.note (grind (arith, length-set)) (c.see.ensures.listed some)

pub returns : goal.returns
returns g c =
    let time = c.time.ensures in let some = c.requires.note.some
    in let there = next_there c.requires.can c.requires.waits c.requires.ends c.behind.ensures.index c.leg-leg.ensures
    c.head_or_greatest-head.ensures (omega arith) c.if-ready-head.false
    in let machine = next_machine c.requires.can c.requires.waits c.requires.ends c.behind.ensures.index
    c.leg-leg.ensures c.head_or_greatest-head.ensures (omega arith) c.if-ready-head.false
    in let waits = next_waits c.requires.can c.requires.waits c.requires.ends c.behind.ensures.index c.leg-leg.ensures
    c.head_or_greatest-head.ensures (omega arith) c.if-ready-head.false
    in let many = length-map c.args.raises.now (raise_in g.L.StateLanes.value)
    in let machines = c.requires.can.machines
    in let known = c.requires.note.known c.leg-leg.result.position (omega arith)
    in record {
      raises = raised_behind c.requires.can c.requires.waits c.requires.ends c.behind.ensures.index c.leg-leg.ensures
          c.head_or_greatest-head.ensures (omega arith) c.if-ready-head.false c.raise_route.ensures.raises;
      noted = noted_behind (c.raise_route.ensures.noted some) (c.raise_route.ensures.seen some)
          (c.see.ensures.raises some) machine
          (omega arith) (next_read c.requires.can c.requires.waits c.requires.ends c.behind.ensures.index
          c.leg-leg.ensures c.head_or_greatest-head.ensures (omega arith) c.if-ready-head.false)
          (own_reached c.raise_route.ensures.raises.raised.raised c.leg-leg.result.position refl waits);
      listed = c.raise_route.ensures.listed some;
    }
