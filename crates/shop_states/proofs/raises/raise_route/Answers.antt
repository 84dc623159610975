use Rattle.std.proofs.{Common.{refl, arith}, lemmas.List.length-map}
use Rattle.shop_states.{specs.inner.LaneRaises.raise_in, proofs.RaisedMachines.lengths_in}
use Rattle.shop_states.proofs.RaisedEnds.{raised_fits, raised_within}
use Rattle.shop_states.proofs.RaiseSteps.{begun_following, ended_at, followed, is_there, leg_fits, leg_known}
use Rattle.shop_states.proofs.{RaiseSteps.{leg_machine, position_up_to, put_is, read_there}, Watching.notes_first}
use Rattle.shop_states.proofs.Watching.{notes_next, sees_first, sees_long, sees_next}
use Rattle.shop_states.proofs.raises.raise_route.Goals as goal

pub loop-ready-init : goal.loop-ready-init
loop-ready-init g c = record {
  following = grind (arith, begun_following, put_is);
  noted = λ some. record {
    seen = sees_first c.set_head.ensures.heads (raised_within c.requires.raisable c.requires.waits);
    notes = notes_first c.set_head.ensures.heads (raised_within c.requires.raisable c.requires.waits);
    listed = (c.requires.note some).listed;
  };
}

pub leg-leg-requires : goal.leg-leg-requires
leg-leg-requires g c = leg_known c.requires.raisable c.requires.waits c.loop-ready.invariant.following

pub head_or_greatest-head-requires : goal.head_or_greatest-head-requires
head_or_greatest-head-requires g c = position_up_to c.requires.raisable c.requires.waits
    c.loop-ready.invariant.following c.leg-leg.ensures

pub returns-then-ready-head-clause-raises : goal.returns-then-ready-head-clause-raises
returns-then-ready-head-clause-raises g c = ended_at c.requires.raisable c.requires.waits
    c.loop-ready.invariant.following c.leg-leg.ensures c.head_or_greatest-head.ensures c.if-ready-head.true

pub returns-then-ready-head-clause-seen : goal.returns-then-ready-head-clause-seen
returns-then-ready-head-clause-seen g c = λ some. (c.loop-ready.invariant.noted some).seen

pub returns-then-ready-head-clause-noted : goal.returns-then-ready-head-clause-noted
returns-then-ready-head-clause-noted g c = λ some. (c.loop-ready.invariant.noted some).notes

pub returns-then-ready-head-clause-listed : goal.returns-then-ready-head-clause-listed
returns-then-ready-head-clause-listed g c = λ some. (c.loop-ready.invariant.noted some).listed

pub set_head-requires-in-loop-ready-clause-in_range : goal.set_head-requires-in-loop-ready-clause-in_range
set_head-requires-in-loop-ready-clause-in_range g c =
    let there = is_there c.requires.raisable c.requires.waits c.loop-ready.invariant.following c.leg-leg.ensures
    c.head_or_greatest-head.ensures c.if-ready-head.false
    in let long = c.loop-ready.invariant.following.walking.up_to.positions in omega arith

pub set_head-requires-in-loop-ready-clause-fits : goal.set_head-requires-in-loop-ready-clause-fits
set_head-requires-in-loop-ready-clause-fits g c = (leg_fits c.requires.raisable c.requires.waits
    c.loop-ready.invariant.following c.leg-leg.ensures c.head_or_greatest-head.ensures c.if-ready-head.false).0

pub see-requires-clause-fits : goal.see-requires-clause-fits
see-requires-clause-fits g c = (leg_fits c.requires.raisable c.requires.waits c.loop-ready.invariant.following
    c.leg-leg.ensures c.head_or_greatest-head.ensures c.if-ready-head.false).0

pub see-requires-clause-listed : goal.see-requires-clause-listed
see-requires-clause-listed g c = λ some. (c.loop-ready.invariant.noted some).listed

pub see-requires-clause-machines_fit : goal.see-requires-clause-machines_fit
see-requires-clause-machines_fit g c = λ one.
    let long = lengths_in g.L.StateLanes.value c.args.raises.now c.loop-ready.raises
    (sees_long (c.loop-ready.invariant.noted (omega arith)).seen)
    in let few = (c.requires.note (omega arith)).machines_fit one in omega arith

pub see-requires-clause-known : goal.see-requires-clause-known
see-requires-clause-known g c = λ some.
    let long = lengths_in g.L.StateLanes.value c.args.raises.now c.loop-ready.raises
    (sees_long (c.loop-ready.invariant.noted some).seen)
    in let there = is_there c.requires.raisable c.requires.waits c.loop-ready.invariant.following c.leg-leg.ensures
    c.head_or_greatest-head.ensures c.if-ready-head.false
    in let machine = leg_machine c.requires.raisable c.requires.waits c.loop-ready.invariant.following
    c.leg-leg.ensures c.head_or_greatest-head.ensures c.if-ready-head.false
    in let machines = c.requires.raisable.machines
    in let known = (c.requires.note some).known c.leg-leg.result.position (omega arith)
    in omega arith

pub overflow_add-ready-in-loop-ready : goal.overflow_add-ready-in-loop-ready
overflow_add-ready-in-loop-ready g c =
    let fits = (leg_fits c.requires.raisable c.requires.waits c.loop-ready.invariant.following c.leg-leg.ensures
    c.head_or_greatest-head.ensures c.if-ready-head.false).1
    in let computable = c.requires.raisable.computable in omega arith

pub overflow_add-index : goal.overflow_add-index
overflow_add-index g c =
    let known = leg_known c.requires.raisable c.requires.waits c.loop-ready.invariant.following
    in let few = c.behind-index.ensures.few in omega arith

pub loop-ready-smaller : goal.loop-ready-smaller
loop-ready-smaller g c =
    let known = leg_known c.requires.raisable c.requires.waits c.loop-ready.invariant.following in omega arith

pub loop-ready-preserved : goal.loop-ready-preserved
loop-ready-preserved g c =
    let there = is_there c.requires.raisable c.requires.waits c.loop-ready.invariant.following c.leg-leg.ensures
    c.head_or_greatest-head.ensures c.if-ready-head.false
    in let machine = leg_machine c.requires.raisable c.requires.waits c.loop-ready.invariant.following
    c.leg-leg.ensures c.head_or_greatest-head.ensures c.if-ready-head.false
    in let machines = c.requires.raisable.machines
    in let long = c.loop-ready.invariant.following.walking.up_to.positions
    in let many = length-map c.args.raises.now (raise_in g.L.StateLanes.value)
    in record {
      following = followed c.requires.raisable c.requires.waits c.loop-ready.invariant.following c.leg-leg.ensures
          c.head_or_greatest-head.ensures c.if-ready-head.false (put_is c.args.routes.now (g.L.StateLanes.heads
          c.loop-ready.lanes) c.leg-leg.result.position c.loop-ready.ready
          c.set_head-in-loop-ready.ensures.heads c.set_head-in-loop-ready.ensures.ends) refl;
      noted = λ some.
          let so = c.loop-ready.invariant.noted some in let saw = c.see.ensures.raises some
          in let known = (c.requires.note some).known c.leg-leg.result.position (omega arith)
          in let read = read_there c.requires.raisable c.requires.waits c.loop-ready.invariant.following
          c.leg-leg.ensures c.head_or_greatest-head.ensures c.if-ready-head.false
          in record {
            seen = sees_next so.seen c.set_head-in-loop-ready.ensures.heads (omega arith) read c.if-ready-head.false
                machine (omega arith) saw;
            notes = notes_next c.loop-ready.ready so.notes (sees_long so.seen) c.set_head-in-loop-ready.ensures.heads
                (omega arith) read machine (omega arith) saw;
            listed = c.see.ensures.listed some;
          };
    }

pub time-requires : goal.time-requires
time-requires g c = grind (arith, raised_within)

pub behind-index-requires-clause-job : goal.behind-index-requires-clause-job
behind-index-requires-clause-job g c = grind (arith, raised_within)

pub behind-index-requires-clause-within : goal.behind-index-requires-clause-within
behind-index-requires-clause-within g c = (c.requires.raisable.at_steps c.args.position c.requires.waits).step

pub behind-index-requires-clause-known : goal.behind-index-requires-clause-known
behind-index-requires-clause-known g c = (c.requires.raisable.at_steps c.args.position c.requires.waits).job

pub set_head-requires-clause-in_range : goal.set_head-requires-clause-in_range
set_head-requires-clause-in_range g c = raised_within c.requires.raisable c.requires.waits

pub set_head-requires-clause-fits : goal.set_head-requires-clause-fits
set_head-requires-clause-fits g c =
    let fits = raised_fits c.requires.raisable c.requires.waits in omega arith

pub overflow_add-ready : goal.overflow_add-ready
overflow_add-ready g c =
    let fits = raised_fits c.requires.raisable c.requires.waits in let time = c.time.ensures
    in let computable = c.requires.raisable.computable in omega arith
