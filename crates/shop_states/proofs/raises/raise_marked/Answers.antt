use Rattle.std.proofs.Common.{◌≤◌, ◌∙◌, ℕ, arith, get_or, refl, subst, sym}
use Rattle.shop_states.specs.inner.{Raises.IsPosition, RisingLists.IsIn}
use Rattle.shop_states.proofs.{RaisedEnds.{mid_raisable, raised_fits, raised_with_ends}, RaisedMachines.note_on}
use Rattle.shop_states.proofs.RaiseLoops.{marks_begin, popped_here, popped_within, popped_waits, popped_raisable}
use Rattle.shop_states.proofs.{RaiseLoops.{marks_on, marks_past, marks_end}, Watching.{sees_both, sees_long, sees_none}}
use Rattle.shop_states.proofs.raises.raise_marked.Goals as goal

pub loop-position-init : goal.loop-position-init
loop-position-init g c = record {
  raised = grind (arith, marks_begin);
  noted = λ some. record { seen = sees_none; machines = refl; listed = (c.requires.note some).listed };
}

pub head-requires : goal.head-requires
head-requires g c =
    popped_within c.requires.can.raisable c.loop-position.invariant.raised c.in-Some.ensures

pub set_end_at-requires-clause-within : goal.set_end_at-requires-clause-within
set_end_at-requires-clause-within g c = grind (arith, popped_within)

pub set_end_at-requires-clause-job : goal.set_end_at-requires-clause-job
set_end_at-requires-clause-job g c = grind (arith, popped_within)

pub set_end_at-requires-clause-known : goal.set_end_at-requires-clause-known
set_end_at-requires-clause-known g c = grind (arith, popped_waits)

pub set_end_at-requires-clause-fits : goal.set_end_at-requires-clause-fits
set_end_at-requires-clause-fits g c = raised_fits
    (popped_raisable c.requires.can.raisable c.loop-position.invariant.raised c.in-Some.ensures)
    (popped_waits c.requires.can.raisable c.loop-position.invariant.raised c.in-Some.ensures)

pub raise_route-requires-clause-waits : goal.raise_route-requires-clause-waits
raise_route-requires-clause-waits g c = grind (arith, popped_waits)

pub raise_route-requires-clause-below : goal.raise_route-requires-clause-below
raise_route-requires-clause-below g c = grind arith

pub raise_route-requires-clause-raisable : goal.raise_route-requires-clause-raisable
raise_route-requires-clause-raisable g c = mid_raisable
    (popped_raisable c.requires.can.raisable c.loop-position.invariant.raised c.in-Some.ensures) c.set_end_at.ensures

pub raise_route-requires-clause-note : goal.raise_route-requires-clause-note
raise_route-requires-clause-note g c = λ some.
    let so = c.loop-position.invariant.noted some
    in note_on (c.requires.note some) so.machines so.listed

pub loop-position-preserved-then-head-end : goal.loop-position-preserved-then-head-end
loop-position-preserved-then-head-end g c =
    let raisable = popped_raisable c.requires.can.raisable c.loop-position.invariant.raised c.in-Some.ensures
    in let waits = popped_waits c.requires.can.raisable c.loop-position.invariant.raised c.in-Some.ensures
    in let here = popped_here c.requires.can.raisable c.loop-position.invariant.raised c.in-Some.ensures
    in let low : get_or (g.L.StateLanes.heads c.loop-position.lanes) c.in-Some.position 0 ≤ c.args.end =
    (let a = c.head.ensures in let b = c.if-head-end.true in omega arith)
    in let raised = raised_with_ends raisable c.set_end_at.ensures waits low c.raise_route.ensures.raises
    in record {
      raised = marks_on c.requires.can.raisable c.loop-position.invariant.raised c.in-Some.ensures raised;
      noted = λ some.
          let so = c.loop-position.invariant.noted some in let seen = c.raise_route.ensures.seen some
          in record {
            seen = sees_both (IsIn c.args.marks) (IsPosition c.in-Some.position) (IsIn c.args.marks) (λ q h. h)
                (λ q e. subst (λ (x : ℕ). IsIn c.args.marks x) (sym e) here) raised.raised.raised.rises
                so.seen (rw c.set_end_at.ensures.heads at seen);
            machines = sees_long seen ∙ so.machines;
            listed = c.raise_route.ensures.listed some;
          };
    }

pub loop-position-preserved : goal.loop-position-preserved
loop-position-preserved g c =
    record {
      raised =
          marks_past c.requires.can.raisable c.loop-position.invariant.raised c.in-Some.ensures
          (λ r v asked. rw (asked.0, asked.1) (let a = c.head.ensures in let b = c.if-head-end.false in omega arith));
      noted = c.loop-position.invariant.noted;
    }

pub returns-clause-raises : goal.returns-clause-raises
returns-clause-raises g c = marks_end c.requires.can.raisable c.in_default.ensures.0 c.loop-position.invariant.raised

pub returns-clause-noted : goal.returns-clause-noted
returns-clause-noted g c = λ some.
    let so = c.loop-position.invariant.noted some
    in record {
      raises = marks_end c.requires.can.raisable c.in_default.ensures.0 c.loop-position.invariant.raised;
      seen = so.seen;
      listed = so.listed;
      machines = so.machines;
    }
