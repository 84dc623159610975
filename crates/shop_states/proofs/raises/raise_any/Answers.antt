use Rattle.std.proofs.Common.{◌≡◌, ◌+◌, get_or, min, arith}
use Rattle.shop_states.proofs.MarkedRaises.{blocks_end, delayed_begin, delayed_on, marks_can_raise, marks_wait}
use Rattle.shop_states.proofs.{MarkedRaises.{raised_begins, raised_ends, raised_on}, RaisedMachines.note_on}
use Rattle.shop_states.proofs.raises.raise_any.Goals as goal

pub loop-from-init : goal.loop-from-init
loop-from-init g c = record {
  blocks = grind (arith, delayed_begin);
  marked = grind arith;
  noted = λ some. (let note = c.requires.note some in (grind (arith, raised_begins), grind arith));
}

pub raise_marked-requires-clause-marks : goal.raise_marked-requires-clause-marks
raise_marked-requires-clause-marks g c =
    marks_wait c.requires.can c.loop-from.invariant.blocks c.loop-from.invariant.marked

pub raise_marked-requires-clause-can : goal.raise_marked-requires-clause-can
raise_marked-requires-clause-can g c = rw c.routes-routes.ensures
    (marks_can_raise c.requires.can c.loop-from.invariant.blocks c.loop-from.invariant.marked)

pub raise_marked-requires-clause-note : goal.raise_marked-requires-clause-note
raise_marked-requires-clause-note g c = λ some.
    let so = c.loop-from.invariant.noted some
    in rw c.routes-routes.ensures (note_on (c.requires.note some) so.0.machines so.1)

pub loop-from-preserved : goal.loop-from-preserved
loop-from-preserved g c =
    let so = c.loop-from.invariant
    in let behind = get_or c.args.grid.now.blocks (c.args.dispatch.machine + 1) 0
    in let up = so.blocks.within in let least = c.marks_end-from.ensures in let read = c.block-behind.ensures
    in let moved : min (c.loop-from.from + 8) behind ≡ c.marks_end-from.result = omega arith
    in let more = c.marks_end.ensures in let over = c.if-from-behind.false
    in let next : c.marks_end.result ≡ min (c.marks_end-from.result + 8) behind = omega arith
    in record {
      blocks = rw moved at (delayed_on c.requires.can so.blocks so.marked
          (rw c.routes-routes.ensures at c.raise_marked.ensures.raises));
      marked = grind arith;
      noted = λ some.
          let noted = rw c.routes-routes.ensures at (c.raise_marked.ensures.noted some)
          in (rw moved at (raised_on c.requires.can so.blocks so.marked (so.noted some).0 noted), noted.listed);
    }

pub returns-clause-raises : goal.returns-clause-raises
returns-clause-raises g c =
    let so = c.loop-from.invariant
    in let up = so.blocks.within in let least = c.marks_end-from.ensures in let read = c.block-behind.ensures
    in let over = c.if-from-behind.true
    in blocks_end (delayed_on c.requires.can so.blocks so.marked
    (rw c.routes-routes.ensures at c.raise_marked.ensures.raises)) (omega arith)

pub returns-clause-noted : goal.returns-clause-noted
returns-clause-noted g c = λ some.
    let so = c.loop-from.invariant
    in let up = so.blocks.within in let least = c.marks_end-from.ensures in let read = c.block-behind.ensures
    in let over = c.if-from-behind.true
    in let noted = rw c.routes-routes.ensures at (c.raise_marked.ensures.noted some)
    in raised_ends c.requires.can (omega arith)
    (raised_on c.requires.can so.blocks so.marked (so.noted some).0 noted) noted.listed
