-- Reports as schedule texts, and the names in them.
use Rattle.std.specs.{Prelude.{ℕ, ◌≤◌, Bool, IsTrue, List, length}, List.{list_all, AllByRecursion}}
use Rattle.shop_text.specs.{declared.limits.TheConstants.MAX_TEXT, Grammar.Grammar, Formats.is_visible}
use Rattle.shop_text.specs.{Texts.{NamedShop, IsText}, Schedules.IsTable, Writing.{Reported, text_with_gantt}}
use Rattle.shop_model.specs.{Limits.AreStarts, Checking.HasShape}

-- A report whose name has visible bytes alone and whose table has the instance's shape, with no start over the limit,
-- is a schedule text of just its table, alone or with its Gantt text behind it, if it isn't too long.
abbrev pub ReportsAreSchedules : Type 0
ReportsAreSchedules = (r : Reported) (gantt : Bool) → IsTrue (list_all is_visible r.name) → HasShape r.shop r.table
    → AreStarts r.table → length (text_with_gantt r gantt) ≤ MAX_TEXT → IsTable r.shop (text_with_gantt r gantt) r.table

-- Each instance of a text has a name of visible bytes: that of a header, or its number.
abbrev pub NamesAreVisible : Grammar → Type 0
NamesAreVisible grammar = (text : List ℕ) (shops : List NamedShop) → IsText grammar text shops
    → AllByRecursion (λ n. IsTrue (list_all is_visible n.name)) shops
