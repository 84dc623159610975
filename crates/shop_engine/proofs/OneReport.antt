-- A written text is read as the one report that it is.
use Rattle.std.proofs.Common.{◌≡◌, ℕ, suc, ◌+◌, true, List, [], ◌∷◌, ◌++◌, length, get_or, drop, map, refl, sym, ◌∙◌}
use Rattle.std.proofs.{Common.{ap, arith}, lemmas.Fmt.decimal_injective}
use Rattle.std.specs.{List.{list_all, join_with_byte}, Fmt.decimal}
use Rattle.shop_text.specs.{Formats.is_visible, Lines.{lines_of, tokens_of, value_of}}
use Rattle.shop_text.specs.Writing.{Reported, text_of, answer_lines, job_line, job_lines, report_lines}
use Rattle.shop_text.proofs.{PrintedLines.{lines_of_front, are_lines_append}, PrintedJobLines.values_read}
use Rattle.shop_text.proofs.PrintedJobLines.{AreSmallStarts, jobs_from, job_lines_are_lines, line_is_tokens}
use Rattle.shop_text.proofs.ReportReading.{answer_is_lines}
use Rattle.shop_engine.{specs.OneReport.OneReport, proofs.Reported.{same_report, chart_of}}

same_row : (j : ℕ) (row other : List ℕ) → AreSmallStarts row → AreSmallStarts other
    → join_with_byte 32 (job_line j row) ≡ join_with_byte 32 (job_line j other) → row ≡ other
same_row j row other small low e =
    let tokens : job_line j row ≡ job_line j other =
    sym (line_is_tokens j row small) ∙ ap tokens_of e ∙ line_is_tokens j other low
    in let starts : map decimal row ≡ map decimal other = ap (drop 2) tokens
    in sym (values_read row small) ∙ ap (map value_of) starts ∙ values_read other low

same_rows : (j : ℕ) (rows others : List (List ℕ)) (x y : List (List ℕ)) → length rows ≡ length others
    → ((i : ℕ) → AreSmallStarts (get_or rows i [])) → ((i : ℕ) → AreSmallStarts (get_or others i []))
    → map (join_with_byte 32) (jobs_from j rows) ++ x ≡ map (join_with_byte 32) (jobs_from j others) ++ y
    → rows ≡ others
same_rows j [] [] x y long small low e = refl
same_rows j [] (other ∷ others) x y long small low e = absurd (omega arith)
same_rows j (row ∷ rows) [] x y long small low e = absurd (omega arith)
same_rows j (row ∷ rows) (other ∷ others) x y long small low e =
    let first = same_row j row other (small 0) (low 0) (ap (λ (ls : List (List ℕ)). get_or ls 0 []) e)
    in let later = same_rows (j + 1) rows others x y (omega arith) (λ i. small (suc i)) (λ i. low (suc i))
    (ap (λ (ls : List (List ℕ)). drop 1 ls) e)
    in ap (λ (r : List ℕ). r ∷ rows) first ∙ ap (λ (rs : List (List ℕ)). other ∷ rs) later

-- the lines of a report and of what is drawn behind it
pub lines_are : (r : Reported) (chart written : List ℕ) → list_all is_visible r.name ≡ true
    → written ≡ text_of (report_lines r) ++ chart
    → lines_of written ≡ map (join_with_byte 32) (report_lines r) ++ lines_of chart
lines_are r chart written visible e = ap lines_of e ∙ lines_of_front (report_lines r) chart
    (are_lines_append (answer_lines r) (job_lines r.table) (answer_is_lines r visible) (job_lines_are_lines 0 r.table))

pub one_report : OneReport
unfolding chart_of
one_report asked gantt written visible x y =
    let r = x.report
    in let s = y.report
    in let named = x.named ∙ sym y.named
    in let e : map (join_with_byte 32) (report_lines r) ++ lines_of (chart_of r gantt)
    ≡ map (join_with_byte 32) (report_lines s) ++ lines_of (chart_of s gantt) =
    sym (lines_are r (chart_of r gantt) written (ap (list_all is_visible) x.named ∙ visible) x.text)
    ∙ lines_are s (chart_of s gantt) written (ap (list_all is_visible) y.named ∙ visible) y.text
    in let p = x.printable
    in let q = y.printable
    in same_report r s named (x.on ∙ sym y.on)
    (same_rows 0 r.table s.table (lines_of (chart_of r gantt)) (lines_of (chart_of s gantt))
    (x.shape.jobs ∙ sym y.shape.jobs) p.starts q.starts (ap (λ (ls : List (List ℕ)). drop 8 ls) e))
    (decimal_injective r.makespan s.makespan p.makespan q.makespan
    (ap (λ (ls : List (List ℕ)). drop 9 (get_or ls 2 [])) e))
    (decimal_injective r.bound s.bound p.bound q.bound (ap (λ (ls : List (List ℕ)). drop 6 (get_or ls 3 [])) e))
    (decimal_injective r.open_nodes s.open_nodes p.open_nodes q.open_nodes
    (ap (λ (ls : List (List ℕ)). drop 5 (get_or ls 5 [])) e))
    (decimal_injective r.rounds s.rounds p.rounds q.rounds (ap (λ (ls : List (List ℕ)). drop 7 (get_or ls 6 [])) e))
    (decimal_injective r.nodes s.nodes p.nodes q.nodes (ap (λ (ls : List (List ℕ)). drop 6 (get_or ls 7 [])) e))
