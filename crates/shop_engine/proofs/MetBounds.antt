-- A schedule that ends at a bound is a least one.
use Rattle.std.proofs.{lemmas.Grind.common_steps, Common.{◌≡◌, ℕ, ◌<◌, ◌^◌, Bool, List, Option, get_or, subst, arith}}
use Rattle.std.proofs.{lemmas.Fmt.decimal_injective, lemmas.List.append_cancel_right}
use Rattle.shop_model.{specs.{Shop.{Shop, end_of, IsLeast}, Limits.{IsWithinLimits, AreStarts}}, proofs.Ends.end_of-le}
use Rattle.shop_model.specs.{Checking.{EndsAt, starts_of, IsVerdict}, declared.checking.Verdict.Verdict}
use Rattle.shop_model.specs.declared.checking.Verdict.TheVariants.{Feasible, WrongSize, Unreleased, Early, Overlap}
use Rattle.shop_text.specs.{Texts.NamedShop, Writing.verdict_text, declared.formats.Format.Format}
use Rattle.shop_text.proofs.TableRows.{table_within}
use Rattle.shop_engine.specs.{Checking.{IsVerdictOn, IsCheckOf}, Headline.{IsBound, IsRightOf}}
use Rattle.shop_engine.{specs.AnswerLaws.MetBoundsAreLeast, proofs.{SolvedSchedules.one_asked, TextLimits.asked_within}}

-- a table of small starts ends early enough for its end to be printed in full
end_small : (shop : Shop) (rows : List (List ℕ)) → IsWithinLimits shop → AreStarts rows
    → end_of shop (starts_of rows) < 2 ^ 64
end_small shop rows limits small = grind (arith, common_steps, end_of-le, limits.times)

-- the line of a feasible table is no other's
feasible_line : (c d : ℕ) → c < 2 ^ 64 → d < 2 ^ 64 → verdict_text (Feasible d) ≡ verdict_text (Feasible c) → d ≡ c
feasible_line c d small low e = grind (arith, common_steps, decimal_injective, append_cancel_right)

first_byte : List ℕ → ℕ
first_byte line = get_or line 0 0

ends_at : (shop : Shop) (rows : List (List ℕ)) (v : Verdict) (c : ℕ) → IsVerdict shop rows v
    → end_of shop (starts_of rows) < 2 ^ 64 → c < 2 ^ 64 → verdict_text v ≡ verdict_text (Feasible c)
    → EndsAt shop rows c
unfolding first_byte
ends_at shop rows (Feasible d) c h low small e = grind (arith, common_steps, feasible_line, h.2, h.0, h.1)
ends_at shop rows WrongSize c h low small e = grind (arith, common_steps, first_byte)
ends_at shop rows (Unreleased j) c h low small e = grind (arith, common_steps, first_byte)
ends_at shop rows (Early j k) c h low small e = grind (arith, common_steps, first_byte)
ends_at shop rows (Overlap m p q) c h low small e = grind (arith, common_steps, first_byte)

met : (shop : Shop) (schedule line : List ℕ) (feasible : Bool) (c : ℕ) → IsWithinLimits shop → c < 2 ^ 64
    → IsVerdictOn shop schedule feasible line → line ≡ verdict_text (Feasible c) → IsBound shop c → IsLeast shop c
met shop schedule line feasible c limits small v e bound =
    grind (arith, common_steps, ends_at, end_small, table_within, v.rows, v.verdict, v.is_verdict, v.is_table, v.says)

checked : (format : Format) (name : Option (List ℕ)) (text schedule line : List ℕ) (feasible : Bool) (c : ℕ)
    → IsCheckOf format name text schedule feasible line → line ≡ verdict_text (Feasible c)
    → (gantt : Bool) (written : List ℕ) (right : IsRightOf format name gantt text written)
    → right.says.report.bound ≡ c → IsLeast right.asked.shop c
checked format name text schedule line feasible c check e gantt written right is =
    let asked = right.asked
    in let same = one_asked format name text check.asked asked check.is_asked right.is_asked
    in let small = right.says.printable.bound
    in met asked.shop schedule line feasible c (asked_within format name text asked right.is_asked) (omega arith)
    (subst (λ (n : NamedShop). IsVerdictOn n.shop schedule feasible line) same check.says) e
    (subst (IsBound asked.shop) is right.says.bound)

pub met_bounds_are_least : MetBoundsAreLeast
met_bounds_are_least = record {
  reported = λ asked gantt written right none. record {
    table = starts_of right.report.table;
    feasible = right.feasible;
    ends = right.ends;
    least = right.optimal none;
  };
  checked = checked;
}
