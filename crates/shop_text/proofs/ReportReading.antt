-- A report, and a Gantt text behind it, read as a schedule text.
use Rattle.std.proofs.{lemmas.Grind.common_steps, Common.{Option, Some, None, refl, sym, ap, ◌∙◌, arith, subst, ◌≡◌, ℕ}}
use Rattle.std.proofs.Common.{◌≤◌, Bool, true, false, ◌||◌, List, [], ◌∷◌, ◌++◌, rules, length, get_or, map}
use Rattle.std.proofs.lemmas.{Bool.{eqb-true, leb-true}, List.{length-append, length-map, Concat.flat_map-append}}
use Rattle.std.{proofs.lemmas.List.FromFn.length-enumerate_from, specs.{Prelude.{filter, codes}, List.enumerate_from}}
use Rattle.std.specs.{List.{list_any, list_all, join_with_byte}, Option.option_map_or}
use Rattle.shop_model.specs.{Shop.{Shop, Starts}, Limits.AreStarts, Checking.HasShape}
use Rattle.shop_text.specs.{Lines.{is_line_feed, tokens_of}, Formats.is_visible, RoundTrip.ReportsAreSchedules}
use Rattle.shop_text.specs.Schedules.{Tokens, is_counted, counted_lines, IsTable}
use Rattle.shop_text.specs.Writing.{report_text, Reported, printed_line, text_of, number_line, status_word}
use Rattle.shop_text.specs.Writing.{answer_lines, report_lines, character_of, machine_line}
use Rattle.shop_text.proofs.{JobLineLemmas.row_at, PrintedLines.{decimal_free, no_line_feed}}
use Rattle.shop_text.proofs.PrintedLines.{IsFree, free_append, AreLines, lines_of_text, are_lines_append, joined_free}
use Rattle.shop_text.proofs.PrintedJobLines.{AreOther, AreRows, job_lines_are_lines, jobs_from, jobs_read, other_line}
use Rattle.shop_text.proofs.PrintedJobLines.{read_from, skip_lines}

-- ---- the lines before the jobs

visible_free : (name : List ℕ) → list_all is_visible name ≡ true → IsFree is_line_feed name
visible_free [] e = refl
visible_free (b ∷ name) e = grind (arith, eqb-true, leb-true, visible_free name)

status_free : (n : ℕ) → IsFree is_line_feed (status_word n)
status_free x = grind arith

number_free : (word : List ℕ) (n : ℕ) → IsFree is_line_feed word
    → IsFree is_line_feed (join_with_byte 32 (number_line word n))
number_free word n free = grind (arith, common_steps, decimal_free, no_line_feed)

pub answer_is_lines : (r : Reported) → list_all is_visible r.name ≡ true → AreLines (answer_lines r)
answer_is_lines r visible =
    grind (arith, common_steps, joined_free, visible_free, decimal_free, no_line_feed, number_free, status_free)

answer_is_other : (r : Reported) → AreOther (answer_lines r)
answer_is_other r = grind (arith, common_steps)

-- ---- Gantt texts

get_free : (p : ℕ → Bool) (xs : List ℕ) (d : ℕ) → IsFree p xs → p d ≡ false → (i : ℕ) → p (get_or xs i d) ≡ false
get_free p y d free none i = grind (arith, common_steps)

shown_free : (o : Option ℕ) → is_line_feed (option_map_or character_of o 46) ≡ false
shown_free None = refl
shown_free (Some j) =
    get_free is_line_feed (codes "0123456789ABCDEFGHIJKLMNOPQRSTUVWXYZabcdefghijklmnopqrstuvwxyz") 35 refl refl j

map_free : (p : ℕ → Bool) (f : ℕ → ℕ) (xs : List ℕ) → ((x : ℕ) → p (f x) ≡ false) → IsFree p (map f xs)
map_free p f [] none = refl
map_free p f (x ∷ xs) none = ap (λ (b : Bool). b || list_any p (map f xs)) (none x) ∙ map_free p f xs none

machine_free : (shop : Shop) (starts : Starts) (machine : ℕ)
    → IsFree is_line_feed (join_with_byte 32 (machine_line shop starts machine))
machine_free shop starts machine =
    grind (arith, common_steps, map_free, shown_free, joined_free, decimal_free, no_line_feed, free_append)

machines_are_lines : (shop : Shop) (starts : Starts) (machines : List ℕ)
    → AreLines (map (machine_line shop starts) machines)
machines_are_lines shop starts [] = tt
machines_are_lines shop starts (machine ∷ machines) =
    grind (arith, common_steps, machine_free, machines_are_lines shop starts machines)

machines_are_other : (shop : Shop) (starts : Starts) (machines : List ℕ)
    → AreOther (map (machine_line shop starts) machines)
machines_are_other shop starts [] = tt
machines_are_other shop starts (machine ∷ machines) = grind (arith, machines_are_other shop starts machines)

-- ---- the law

as_many_lines : (lines : List Tokens) → length lines ≤ length (text_of lines)
as_many_lines [] = omega arith
as_many_lines (line ∷ lines) = grind (arith, common_steps, length-append, as_many_lines lines)

-- other lines behind a report change nothing
read_back : (r : Reported) (others : List Tokens) → list_all is_visible r.name ≡ true → HasShape r.shop r.table
    → AreStarts r.table → AreLines others → AreOther others → length (report_text r ++ text_of others) ≤ 16777216
    → IsTable r.shop (report_text r ++ text_of others) r.table
read_back r others visible shape small lines other short =
    let joined : text_of (report_lines r ++ others) ≡ report_text r ++ text_of others =
    flat_map-append printed_line (report_lines r) others
    in subst (λ (text : List ℕ). IsTable r.shop text r.table) joined (record {
      short = subst (λ (text : List ℕ). length text ≤ 16777216) (sym joined) short;
      lines =
          (let jobs = jobs_from 0 r.table
          in let cut : counted_lines (text_of (report_lines r ++ others))
          ≡ read_from 9 (jobs_from 0 r.table ++ others) =
          ap (λ (ls : List (List ℕ)). filter is_counted (enumerate_from 1 (map tokens_of ls)))
          (lines_of_text (report_lines r ++ others) (are_lines_append (report_lines r) others
          (are_lines_append (answer_lines r) jobs (answer_is_lines r visible) (job_lines_are_lines 0 r.table)) lines))
          ∙ skip_lines 1 (answer_lines r) (jobs ++ others) (answer_is_other r)
          in ap (λ (ls : List (ℕ × Tokens)). map (row_at r.shop) (enumerate_from 0 ls)) cut
          ∙ jobs_read r.shop 9 0 r.table others (rows joined) other);
      jobs = shape.jobs;
    })
  where
    rows : text_of (report_lines r ++ others) ≡ report_text r ++ text_of others → AreRows r.shop 0 r.table
    rows joined = grind (arith, as_many_lines, length-append, length-map, length-enumerate_from)

pub reports_are_schedules : ReportsAreSchedules
reports_are_schedules r false visible shape small short = read_back r [] visible shape small tt tt short
reports_are_schedules r true visible shape small short =
    search (rules, read_back, number_free, machines_are_lines, other_line, machines_are_other)
