use Rattle.std.{proofs.Common.{◌≡◌, ℕ, ◌<◌, false, get_or}, specs.Str.bytes_eq}
use Rattle.shop_text.specs.{Formats.word_of, declared.formats.Format.TheVariants.Orlib}
use Rattle.shop_text.proofs.formats.Format.of_word.Given as goal

-- the formats before this one have other words
abbrev pub invariant-loop-format : goal.invariant-loop-format
invariant-loop-format l =
    (k : ℕ) → k < l.format-index → bytes_eq (word_of (get_or l.format-items k Orlib)) l.word ≡ false
