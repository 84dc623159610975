-- What is printed of an answer that can be trusted is right, and is the report of the plan's answer.
use Rattle.std.{proofs.{Common.{arith, ◌≡◌, ℕ, List, [], Bool}, lemmas.Grind.common_steps}, specs.Prelude.if◌then◌else◌}
use Rattle.shop_model.specs.Checking.{starts_of}
use Rattle.shop_text.specs.{Texts.NamedShop, Writing.{Reported, gantt_text, text_with_gantt}}
use Rattle.shop_runs.specs.{Round.Planned, Answers.answer, Runs.{Says, IsTrusted}, declared.runs.Answer.Answer}
use Rattle.shop_engine.specs.{inner.Told.told_by, Answers.answer_of, Headline.{IsPrintable, IsRight, IsDetermined}}

unfoldable pub chart_of : Reported → Bool → List ℕ
chart_of r gantt = if gantt then gantt_text r.shop (starts_of r.table) else []

pub right : (asked : NamedShop) (a : Answer) (gantt : Bool) (written : List ℕ) → IsTrusted asked.shop a
    → IsPrintable (told_by asked a) → written ≡ text_with_gantt (told_by asked a) gantt → IsRight asked gantt written
right asked a gantt written t printable e =
    grind (arith, common_steps, t.shape, t.feasible, t.ends, t.answer_is.bound, t.answer_is.least)

-- reports of equal parts are equal
pub same_report : (r s : Reported) → r.name ≡ s.name → r.shop ≡ s.shop → r.table ≡ s.table → r.makespan ≡ s.makespan
    → r.bound ≡ s.bound → r.open_nodes ≡ s.open_nodes → r.rounds ≡ s.rounds → r.nodes ≡ s.nodes → r ≡ s
same_report r s a b c d e f g h = grind (arith, common_steps)

told_is : (asked : NamedShop) (plan : Planned) (a : Answer) → Says asked.shop (answer asked.shop plan) a
    → told_by asked a ≡ answer_of asked plan
told_is asked plan a says =
    grind (
      arith,
      common_steps,
      same_report,
      says.table,
      says.makespan,
      says.bound,
      says.open_nodes,
      says.rounds,
      says.nodes,
    )

pub determined : (asked : NamedShop) (plan : Planned) (a : Answer) (gantt : Bool) (written : List ℕ)
    → Says asked.shop (answer asked.shop plan) a
    → written ≡ text_with_gantt (told_by asked a) gantt → IsDetermined asked plan gantt written
determined asked plan a gantt written says e = grind (arith, common_steps, told_is)
