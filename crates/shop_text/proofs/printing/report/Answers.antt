use Rattle.std.proofs.{Common.{string_bytes, arith}, lemmas.Grind.common_steps, lemmas.List.take_all}
use Rattle.shop_text.proofs.TextLemmas.{text_more, job_lines_more}
use Rattle.shop_text.proofs.printing.report.Goals as goal

pub loop-j-preserved : goal.loop-j-preserved
loop-j-preserved c = grind (arith, text_more, string_bytes, job_lines_more)

pub returns : goal.returns
returns c = grind (arith, common_steps, string_bytes, take_all)
