-- The instance that was picked is the one that is asked for.
use Rattle.std.proofs.{Common.{arith, ◌≡◌, ℕ, List, Option, Some}, lemmas.Grind.common_steps}
use Rattle.shop_text.specs.{Texts.{NamedShop, IsText}, Names.{first_named, shops_of}, declared.names.Named.Named}
use Rattle.shop_text.specs.{declared.formats.Format.Format, Formats.grammar_of}
use Rattle.shop_runs.specs.Runs.{planned}
use Rattle.shop_engine.specs.{Asking.{IsAsked, name_in}, declared.args.SolveArgs.SolveArgs}
use Rattle.shop_engine.specs.{Headline.{IsRight, IsDetermined}, Solving.IsSolution}

pub is_asked : {text : List ℕ} {named slice : List Named} {asked : NamedShop} (format : Format) (name : Option (List ℕ))
    → IsText (grammar_of format) text (shops_of named) → slice ≡ named → first_named (shops_of slice) name ≡ Some asked
    → IsAsked format name text asked
is_asked {named = named} format name is_text same picked = grind (arith, common_steps)

-- the text was seen as a slice
pub is_asked_in : {text seen : List ℕ} {named slice : List Named} {asked : NamedShop} (format : Format)
    (name : Option (List ℕ)) → IsText (grammar_of format) seen (shops_of named) → seen ≡ text → slice ≡ named
    → first_named (shops_of slice) name ≡ Some asked → IsAsked format name text asked
is_asked_in {named = named} format name is_text seen same picked = grind (arith, common_steps, is_asked)

-- and what is right of it is the solution
pub solution : {text out : List ℕ} {asked : NamedShop} (args : SolveArgs)
    → IsAsked args.format (name_in args.name) text asked → IsRight asked args.gantt out
    → IsDetermined asked (planned args.plan) args.gantt out → IsSolution args text out
solution {asked = asked} args picked right determined = record {
  right = record { asked = asked; is_asked = picked; says = right };
  determined = record { asked = asked; is_asked = picked; says = determined };
}
