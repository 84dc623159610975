use Rattle.std.proofs.Common.{arith}
use Rattle.shop_states.specs.inner.Watchers.{no_floor}
use Rattle.shop_states.proofs.BehindRaises.{free_last, free_other, late_all, late_begins, late_can}
use Rattle.shop_states.proofs.BehindRaises.{late_ends, late_marked, late_on, late_waits}
use Rattle.shop_states.proofs.{MarkedRaises.blocks_end, RaisedMachines.note_on, Watching.{watch_both, watch_none}}
use Rattle.shop_states.proofs.late_raises.raise_late.Goals.{then-position-late, else-position-late}
use Rattle.shop_states.proofs.late_raises.raise_late.Goals as goal

pub loop-from-init : goal.loop-from-init
loop-from-init g c = grind (arith, late_begins, watch_none)

pub loop-position-init : goal.loop-position-init
loop-position-init g c = record {
  raises = late_marked c.requires.can c.loop-from.invariant.raises c.marks_end-to.ensures c.below-todo.ensures;
  noted = c.loop-from.invariant.noted;
  listed = c.loop-from.invariant.listed;
}

pub raise_behind-requires-clause-waits : goal.raise_behind-requires-clause-waits
raise_behind-requires-clause-waits g c =
    late_waits c.requires.can c.loop-from.invariant.raises c.marks_end-to.ensures c.below-todo.ensures
    c.loop-position.invariant.raises c.in-Some.ensures

pub raise_behind-requires-clause-ends : goal.raise_behind-requires-clause-ends
raise_behind-requires-clause-ends g c =
    late_ends c.requires.can c.loop-from.invariant.raises c.marks_end-to.ensures c.below-todo.ensures
    c.loop-position.invariant.raises c.in-Some.ensures (elim c.if-position-late.branch [
      | then-position-late w ↦ free_last c.args.late.last c.args.late.latest w.if-position-late.true w.free-is
      | else-position-late w ↦ free_other c.args.late.last c.args.late.latest w.if-position-late.false w.free-is
    ])

pub raise_behind-requires-clause-can : goal.raise_behind-requires-clause-can
raise_behind-requires-clause-can g c =
    late_can c.requires.can c.loop-from.invariant.raises c.marks_end-to.ensures c.below-todo.ensures
    c.loop-position.invariant.raises c.in-Some.ensures (elim c.if-position-late.branch [
      | then-position-late w ↦ free_last c.args.late.last c.args.late.latest w.if-position-late.true w.free-is
      | else-position-late w ↦ free_other c.args.late.last c.args.late.latest w.if-position-late.false w.free-is
    ])

pub raise_behind-requires-clause-note : goal.raise_behind-requires-clause-note
raise_behind-requires-clause-note g c = note_on c.requires.note c.loop-position.invariant.noted.long
    c.loop-position.invariant.listed

pub loop-position-preserved : goal.loop-position-preserved
loop-position-preserved g c =
    let so = c.loop-position.invariant in let more = c.raise_behind.ensures
    in record {
      raises = late_on c.requires.can c.loop-from.invariant.raises c.marks_end-to.ensures c.below-todo.ensures
          so.raises c.in-Some.ensures (elim c.if-position-late.branch [
            | then-position-late w ↦ free_last c.args.late.last c.args.late.latest w.if-position-late.true w.free-is
            | else-position-late w ↦ free_other c.args.late.last c.args.late.latest w.if-position-late.false w.free-is
          ]) more.raises;
      noted = watch_both no_floor _ _ _ _ more.raises.raised.raised.rises so.noted more.noted;
      listed = more.listed;
    }

pub loop-from-preserved : goal.loop-from-preserved
loop-from-preserved g c =
    let so = c.loop-position.invariant
    in record {
      raises = late_all c.requires.can c.loop-from.invariant.raises c.marks_end-to.ensures c.below-todo.ensures
          so.raises c.in_default.ensures.0;
      noted = so.noted;
      listed = so.listed;
    }

pub returns : goal.returns
returns g c =
    let so = c.loop-from.invariant in let up = so.raises.within in let past = c.loop-from-test.false
    in record { raises = blocks_end so.raises (omega arith); noted = so.noted; listed = so.listed }
