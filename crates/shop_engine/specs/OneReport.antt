-- What is written says one thing.
use Rattle.std.specs.{Prelude.{◌≡◌, ℕ, Bool, IsTrue, List}, List.list_all}
use Rattle.shop_text.specs.{Formats.is_visible, Texts.NamedShop}
use Rattle.shop_engine.specs.Headline.{IsRight}

-- Two reports by which one text is right are the same report, where the instance's name has visible
-- bytes alone, as each that a reader gives.
abbrev pub OneReport : Type 0
OneReport = (asked : NamedShop) (gantt : Bool) (written : List ℕ) → IsTrue (list_all is_visible asked.name)
    → (x y : IsRight asked gantt written) → x.report ≡ y.report
