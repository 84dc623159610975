-- The names that lines give.
use Rattle.std.proofs.{lemmas.Grind.common_steps, Common.{◌≡◌, ℕ, zero, suc, true, List, [], ◌∷◌, Some, arith}}
use Rattle.std.proofs.{lemmas.Bool.{and_parts, leb-true}, lemmas.Str.IsUtf8-from_ascii}
use Rattle.std.specs.{List.list_all, Str.{IsAscii, IsUtf8}}
use Rattle.shop_text.specs.{Lines.Words, Formats.{grammar_of, is_visible, header_of}, declared.formats.Format.Format}

visible_ascii : (bytes : List ℕ) → list_all is_visible bytes ≡ true → IsAscii bytes
visible_ascii [] e i = omega arith
visible_ascii (b ∷ bytes) e zero = grind (arith, common_steps, and_parts, leb-true)
visible_ascii (b ∷ bytes) e (suc i) =
    grind (arith, and_parts, visible_ascii bytes (and_parts (is_visible b) (list_all is_visible bytes) e).1 i)

pub header_visible : (words : List (List ℕ)) (bytes : List ℕ) → header_of (Words words) ≡ Some bytes
    → list_all is_visible bytes ≡ true
header_visible x bytes e = grind arith

-- a name is text
pub header_utf8 : (p : Format) (words : List (List ℕ)) (bytes : List ℕ)
    → (grammar_of p).header (Words words) ≡ Some bytes → IsUtf8 bytes
header_utf8 x words bytes e = grind (arith, IsUtf8-from_ascii, visible_ascii, header_visible)
