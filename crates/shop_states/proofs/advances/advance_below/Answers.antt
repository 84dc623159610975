use Rattle.std.proofs.Common.{◌∙◌, refl, arith}
use Rattle.shop_states.proofs.Trials.{can_delay, its_position, now_heads, same_machines, trial_bound}
use Rattle.shop_states.proofs.Trials.{trial_keep, trial_kept, trial_raises_fit, trial_under}
use Rattle.shop_states.proofs.advances.advance_below.Goals as goal

pub set_head-requires-clause-in_range : goal.set_head-requires-clause-in_range
set_head-requires-clause-in_range g c =
    its_position c.requires.can.is.kept c.args.dispatch.job c.requires.can.is.fits c.requires.is.position_is

pub raise-raised-requires-clause-can : goal.raise-raised-requires-clause-can
raise-raised-requires-clause-can g c = can_delay c.requires.can.is.kept c.args.dispatch c.requires.can.is.fits
    c.requires.is c.set_head.ensures.heads c.set_head.ensures.ends

pub raise-raised-requires-clause-known : goal.raise-raised-requires-clause-known
raise-raised-requires-clause-known g c = λ q here.
    let a = c.requires.can.is.kept.kept.laid.machines_at.known q here
    in let b = c.requires.can.machines_are in omega arith

pub take_bound-bound-requires-clause-can : goal.take_bound-bound-requires-clause-can
take_bound-bound-requires-clause-can g c =
    let raised = c.raise-raised.ensures
    in let now = now_heads c.requires.can.is.kept c.args.dispatch.job c.requires.can.is.fits c.requires.is.position_is
    c.requires.is.machine_is c.requires.is.end_is c.set_head.ensures.heads c.set_head.ensures.ends raised.raises
    in let fits = trial_raises_fit c.requires.can.is.kept c.args.dispatch.job c.requires.can.is.fits
    c.requires.is.position_is c.requires.is.machine_is c.requires.is.end_is c.set_head.ensures.heads
    c.set_head.ensures.ends raised.raises c.requires.at_rest c.requires.can.machines_are raised.seen
    in record {
      can = record { listed = raised.listed; times = grind arith; tails = grind arith; fits = fits };
      under = trial_under c.requires.can.is c.args.range.now.ceilings.now c.requires.can.ceilings_are now
          c.raise-raised.new.self fits (raised.machines ∙ c.requires.can.machines_are);
    }

pub returns-then-range-bound-clause-told : goal.returns-then-range-bound-clause-told
returns-then-range-bound-clause-told g c = λ shop w is.
    let raised = c.raise-raised.ensures
    in let many = c.requires.can.machines_are ∙ same_machines c.requires.can.is.kept.kept.laid is.kept.kept.laid
    in let most = (trial_bound is.kept c.args.dispatch.job is.fits c.requires.is.position_is c.requires.is.machine_is
    c.requires.is.end_is c.set_head.ensures.heads c.set_head.ensures.ends raised.raises c.requires.at_rest many
    raised.seen is.foreseen c.take_bound-bound.ensures).at_most
    in let reached = c.if-range-bound.true in omega arith

pub returns-clause-told : goal.returns-clause-told
returns-clause-told g c = λ shop w is.
    let raised = c.raise-raised.ensures
    in let many = c.requires.can.machines_are ∙ same_machines c.requires.can.is.kept.kept.laid is.kept.kept.laid
    in (
      (trial_bound is.kept c.args.dispatch.job is.fits c.requires.is.position_is
          c.requires.is.machine_is c.requires.is.end_is c.set_head.ensures.heads c.set_head.ensures.ends raised.raises
          c.requires.at_rest many raised.seen is.foreseen c.take_bound-bound.ensures).exact c.if-range-bound.false,
      c.if-range-bound.false,
    )

pub returns-clause-ready : goal.returns-clause-ready
returns-clause-ready g c =
    let raises = c.raise-raised.ensures.raises
    in record {
      keep = trial_keep c.requires.can.is.kept c.args.dispatch.job c.requires.can.is.fits c.requires.is.position_is
          c.requires.is.machine_is c.requires.is.end_is c.set_head.ensures.heads c.set_head.ensures.ends raises refl;
      kept = λ shop w kept fits ended after on. trial_kept kept c.args.dispatch.job fits c.requires.is.position_is
          c.requires.is.machine_is c.requires.is.end_is c.set_head.ensures.heads c.set_head.ensures.ends raises
          on.are_next on.ends;
    }
