-- A report that is right, and determined by a plan's answer, has the numbers of that answer.
use Rattle.std.proofs.{lemmas.Grind.common_steps, Common.{subst, arith}, lemmas.Fmt.decimal_injective}
use Rattle.std.proofs.Common.{◌≡◌, ℕ, zero, suc, ◌≤◌, Bool, List, [], ◌++◌, get_or, drop, map, refl, sym, ◌∙◌, ap}
use Rattle.std.specs.{Prelude.IsTrue, List.{list_all, join_with_byte}}
use Rattle.shop_model.specs.{Shop.{Shop, machine_of, end_of}, Limits.IsWithinLimits, Word.{placed, IsFull}}
use Rattle.shop_model.proofs.{Ends.end_of-le, Unders.after_word, WordLemmas.full_is_word}
use Rattle.shop_model.proofs.WordLengths.{word_length, ready_word}
use Rattle.shop_text.specs.{Formats.is_visible, Lines.lines_of, Texts.NamedShop, Writing.{status_word, report_lines}}
use Rattle.shop_text.proofs.VisibleNames.{asked_visible}
use Rattle.shop_runs.{specs.{Round.Planned, Runs.planned, Answers.answer}, proofs.Trusting.trustworthy}
use Rattle.shop_engine.specs.{Answers.answer_of, Headline.{IsRight, IsDetermined}, AnswerLaws.TellsTheAnswer}
use Rattle.shop_engine.{specs.AnswerLaws.ReportsTellTheAnswer, proofs.{OneReport.lines_are, Reported.chart_of}}
use Rattle.shop_engine.proofs.{SolvedSchedules.one_asked, TextLimits.asked_within}

-- the table of a full word ends within the limit of starts
placed_small : (shop : Shop) (w : List ℕ) → IsWithinLimits shop → IsFull shop w
    → end_of shop (placed shop w) ≤ 1000000000000000
placed_small shop w limits full =
    let word = full_is_word shop w full
    in let a = after_word shop w word
    in let by = ready_word shop limits w
    in let short = word_length shop w limits word
    in end_of-le shop (placed shop w) 1000000000000000 (λ i l op. let e = a.steps i in let f = full i
    in let free = a.sound.free i l (omega arith) in let b = by.free (machine_of shop i l)
    in omega arith)

-- the word of a status says whether a node is open
same_status : (n m : ℕ) → status_word n ≡ status_word m → n ≡ 0 → m ≡ 0
same_status zero zero e h = refl
same_status zero (suc m) e h = grind (arith, common_steps)
same_status (suc n) m e h = absurd (omega arith)

tells : (asked : NamedShop) (plan : Planned) (gantt : Bool) (written : List ℕ) → IsWithinLimits asked.shop
    → IsTrue (list_all is_visible asked.name) → (right : IsRight asked gantt written)
    → IsDetermined asked plan gantt written → TellsTheAnswer plan asked right.report
unfolding chart_of
tells asked plan gantt written limits visible right determined =
    let r = right.report
    in let s = answer_of asked plan
    in let shop = asked.shop
    in let trusted = trustworthy shop plan
    in let p = right.printable
    in let end = placed_small shop (answer shop plan).word limits trusted.full
    in let makespan = trusted.ends
    in let bound = trusted.bound (placed shop (answer shop plan).word) trusted.feasible
    in let e : map (join_with_byte 32) (report_lines r) ++ lines_of (chart_of r gantt)
    ≡ map (join_with_byte 32) (report_lines s) ++ lines_of (chart_of s gantt) =
    sym (lines_are r (chart_of r gantt) written (ap (list_all is_visible) right.named ∙ visible) right.text)
    ∙ lines_are s (chart_of s gantt) written visible determined
    in let status : status_word r.open_nodes ≡ status_word s.open_nodes =
    ap (λ (ls : List (List ℕ)). drop 7 (get_or ls 4 [])) e
    in record {
      limits = limits;
      makespan = decimal_injective r.makespan s.makespan p.makespan (omega arith)
          (ap (λ (ls : List (List ℕ)). drop 9 (get_or ls 2 [])) e);
      bound = decimal_injective r.bound s.bound p.bound (omega arith)
          (ap (λ (ls : List (List ℕ)). drop 6 (get_or ls 3 [])) e);
      status = (same_status r.open_nodes s.open_nodes status, same_status s.open_nodes r.open_nodes (sym status));
    }

pub reports_tell_the_answer : ReportsTellTheAnswer
reports_tell_the_answer args text written solved =
    let right = solved.right
    in let asked = right.asked
    in let determined = solved.determined
    in let same = one_asked args.format _ text determined.asked asked determined.is_asked right.is_asked
    in let is = right.is_asked
    in tells asked (planned args.plan) args.gantt written (asked_within args.format _ text asked is)
    (asked_visible args.format text is.shops _ asked is.is_text is.picked) right.says
    (subst (λ (n : NamedShop). IsDetermined n (planned args.plan) args.gantt written) same determined.says)
