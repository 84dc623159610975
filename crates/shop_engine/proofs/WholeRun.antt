-- One whole run, computed from the definitions.
use Rattle.std.proofs.Common.{◌≡◌, ℕ, Bool, true, List, [], ◌∷◌, Option, None, refl, sym, ◌∙◌, ap, subst}
use Rattle.std.specs.{Prelude.codes, Fmt.digits, declared.string.String.String, declared.alloc.Global.Global}
use Rattle.shop_text.specs.{Formats.grammar_of, Texts.{NamedShop, IsText}, declared.formats.Format.Format}
use Rattle.shop_text.specs.{declared.formats.Format.TheVariants.Orlib, Writing.text_with_gantt}
use Rattle.shop_text.proofs.Computing.{is_read_as}
use Rattle.shop_runs.specs.{Round.Planned, Runs.planned}
use Rattle.shop_engine.specs.{Answers.answer_of, Asking.{name_in, IsAsked, OfAsked}, Headline.IsDetermined}
use Rattle.shop_engine.specs.WholeRun.{crossing_text, crossing_report, usual_plan, OneWholeRun}
use Rattle.shop_engine.proofs.SolvedSchedules.{one_asked}

abbrev pub crossing : NamedShop
crossing = record {
  name = codes "1";
  shop = record {
    machines = 2;
    jobs =
        record {
          release = 0;
          route = record { machine = 0; time = 3 } ∷ record { machine = 1; time = 2 } ∷ [];
        } ∷ record {
          release = 0;
          route = record { machine = 1; time = 2 } ∷ record { machine = 0; time = 4 } ∷ [];
        } ∷ [];
  };
}

is_read : IsText (grammar_of Orlib) crossing_text (crossing ∷ [])
unfolding digits
is_read = is_read_as Orlib crossing_text (crossing ∷ []) refl refl refl

pub asked : IsAsked Orlib None crossing_text crossing
asked = record { shops = crossing ∷ []; is_text = is_read; picked = refl }

printed : text_with_gantt (answer_of crossing usual_plan) true ≡ crossing_report
unfolding digits
printed = refl

same_asked : (format : Format) (name : Option (String Global)) (plan : Planned) (gantt : Bool) (written : List ℕ)
    → format ≡ Orlib → name ≡ None → plan ≡ usual_plan → gantt ≡ true
    → OfAsked format (name_in name) crossing_text (λ asked. IsDetermined asked plan gantt written)
    → OfAsked Orlib None crossing_text (λ asked. IsDetermined asked usual_plan true written)
same_asked format name plan gantt written e f g h of =
    subst (λ (x : Bool). OfAsked Orlib None crossing_text (λ asked. IsDetermined asked usual_plan x written)) h
    (subst (λ (x : Planned). OfAsked Orlib None crossing_text (λ asked. IsDetermined asked x gantt written)) g
    (subst (λ (x : Option (String Global)). OfAsked Orlib (name_in x) crossing_text
    (λ asked. IsDetermined asked plan gantt written)) f (subst (λ (x : Format). OfAsked x (name_in name) crossing_text
    (λ asked. IsDetermined asked plan gantt written)) e of)))

no_other : (written : List ℕ) → OfAsked Orlib None crossing_text (λ asked. IsDetermined asked usual_plan true written)
    → written ≡ crossing_report
no_other written of =
    of.says ∙ ap (λ (n : NamedShop). text_with_gantt (answer_of n usual_plan) true)
    (one_asked Orlib None crossing_text of.asked crossing of.is_asked asked) ∙ printed

pub one_whole_run : OneWholeRun
one_whole_run = record {
  given = record { asked = crossing; is_asked = asked; says = sym printed };
  no_other = λ args written e f g h of. no_other written
      (same_asked args.format args.name (planned args.plan) args.gantt written e f g h of);
}
