use Rattle.std.proofs.Common.{◌≡◌, ◌++◌, take, string_bytes}
use Rattle.shop_text.specs.{Writing.{text_of, answer_lines, job_lines}, Reports.reported}
use Rattle.shop_text.proofs.printing.report.Given as goal

abbrev pub invariant-loop-j : goal.invariant-loop-j
invariant-loop-j l = string_bytes l.out
    ≡ text_of (answer_lines (reported l.report)) ++ text_of (job_lines (take l.j l.report.table.now))
