use Rattle.std.proofs.{Common.arith, lemmas.Grind.common_steps}
use Rattle.shop_text.proofs.DigitLemmas.{room_for_digit}
use Rattle.shop_text.proofs.lines.leading_digits.Goals as goal

pub overflow_mul-value : goal.overflow_mul-value
overflow_mul-value c =
    let room = room_for_digit c.loop-i.i c.loop-i.value (omega arith) c.loop-i.invariant.fits in omega arith

pub overflow_add-value : goal.overflow_add-value
overflow_add-value c =
    let room = room_for_digit c.loop-i.i c.loop-i.value (omega arith) c.loop-i.invariant.fits
    in omega (arith, c.if-not-is_ascii_digit.ensures.cases.1)

pub loop-i-2-preserved : goal.loop-i-2-preserved
loop-i-2-preserved c = grind (arith, common_steps)

pub loop-i-preserved : goal.loop-i-preserved
loop-i-preserved c = grind (arith, common_steps)
