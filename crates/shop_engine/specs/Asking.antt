-- The instance that is asked for in a text.
use Rattle.std.specs.{Prelude.{◌≡◌, ℕ, ◌⊎◌, List, Option, Some, None, string_bytes}, Option.option_map}
use Rattle.std.specs.{declared.string.String.String, declared.alloc.Global.Global}
use Rattle.shop_text.specs.{Formats.grammar_of, Texts.{NamedShop, IsText, IsTextFault}, Names.first_named}
use Rattle.shop_text.specs.{declared.faults.ReadFault.ReadFault, declared.faults.ReadFault.TheVariants.NoSuchName}
use Rattle.shop_text.specs.declared.formats.Format.{Format}

-- the bytes of a name, if one is given
abbrev pub name_in : Option (String Global) → Option (List ℕ)
name_in name = option_map string_bytes name

-- the text is good, and this is its first instance of the name, or without a name its first one
pub record IsAsked (format : Format) (name : Option (List ℕ)) (text : List ℕ) (asked : NamedShop)
    : Type 0 where
  pub shops : List NamedShop
  pub is_text : IsText (grammar_of format) text shops
  pub picked : first_named shops name ≡ Some asked

-- the text has the instance that is asked for, and this holds of it
pub record OfAsked (format : Format) (name : Option (List ℕ)) (text : List ℕ)
    (Says : NamedShop → Type 0) : Type 0 where
  pub asked : NamedShop
  pub is_asked : IsAsked format name text asked
  pub says : Says asked

-- the text is good, but has no instance of the name
pub record IsMissing (format : Format) (name : Option (List ℕ)) (text : List ℕ) (fault : ReadFault)
    : Type 0 where
  pub shops : List NamedShop
  pub is_text : IsText (grammar_of format) text shops
  pub missing : first_named shops name ≡ None
  pub told : fault ≡ NoSuchName

-- the text has this fault, or no instance of the name
abbrev pub IsAskFault : Format → Option (List ℕ) → List ℕ → ReadFault → Type 0
IsAskFault format name text fault =
    IsMissing format name text fault ⊎ IsTextFault (grammar_of format) text fault
