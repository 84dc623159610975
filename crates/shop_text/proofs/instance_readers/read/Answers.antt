use Rattle.std.proofs.{Common.{[], arith, refl}, lemmas.Result.err_from_is_err_and}
use Rattle.shop_text.proofs.{Passing.{line_taken, line_refused, end_read}, ReaderTurns.nothing_read}
use Rattle.shop_text.proofs.instance_readers.read.Goals as goal

pub loop-rest-preserved : goal.loop-rest-preserved
loop-rest-preserved c =
    let w = c.loop-rest.invariant
    in let taken = c.in_ok-take_line.ensures w.front w.read
    in line_taken c.args.text.now c.loop-rest.number c.loop-rest.rest.now c.next_line.result.0.now
    c.next_line.result.1.now
    c.args.format c.loop-rest.reader c.take_line.new.self w c.next_line.ensures.cut c.next_line.ensures.shorter taken.0
    taken.1

pub returns-in_err-take_line : goal.returns-in_err-take_line
returns-in_err-take_line c =
    let p = err_from_is_err_and c.from_residual.result c.from_residual.ensures.1
    in let w = c.loop-rest.invariant
    in rw (p.1, p.2) (line_refused c.args.text.now c.loop-rest.number c.loop-rest.rest.now c.next_line.result.0.now
    c.next_line.result.1.now
    c.args.format c.loop-rest.reader c.in_err-take_line.field-0.0 w (omega arith) c.next_line.ensures.cut
    (c.in_err-take_line.ensures w.front w.read))

pub returns : goal.returns
returns c =
    end_read c.args.text.now c.loop-rest.number c.loop-rest.rest.now c.args.format c.loop-rest.reader c.finish.result
    c.loop-rest.invariant (omega arith) (omega arith) c.finish.ensures

pub loop-rest-init : goal.loop-rest-init
loop-rest-init c = record {
  front = [];
  cut = c.from_first_header-number.ensures.left;
  same = refl;
  read = grind (arith, nothing_read);
  behind = c.from_first_header-number.ensures.behind;
}
