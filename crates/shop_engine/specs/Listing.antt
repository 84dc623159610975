-- What `list_bytes` and `list_text` do.
--     IsListing args source source' sink sink' result  what `list_text` answers
use Rattle.std.specs.Prelude.{◌≡◌, ℕ, List, Result}
use Rattle.shop_text.specs.{Texts.{NamedShop, IsText, IsTextFault}, Writing.list_text, declared.formats.Format.Format}
use Rattle.shop_text.specs.Formats.{grammar_of}
use Rattle.shop_engine.specs.{declared.args.ListArgs.ListArgs, declared.faults.Fault.Fault}
use Rattle.shop_engine.specs.Devices.{Device, IsTransfer}

-- the text is good for these instances, and this is their list
pub record IsListOf (format : Format) (text out : List ℕ) : Type 0 where
  pub shops : List NamedShop
  pub is_text : IsText (grammar_of format) text shops
  pub list : out ≡ list_text shops

abbrev pub IsListing : ListArgs → Device → Device → Device → Device → Result (Unit {0}) Fault → Type 0
IsListing args source source' sink sink' result =
    IsTransfer (IsListOf args.format) (IsTextFault
    (grammar_of args.format)) source source' sink sink' result
