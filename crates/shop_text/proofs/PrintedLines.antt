-- Printed lines as they are read again: lines, tokens, numbers.
use Rattle.std.proofs.{lemmas.{Grind.common_steps, Bool.{eqb-true, or_parts}, List.Folds.list_any-append}, Common.◌≡◌}
use Rattle.std.proofs.Common.{ℕ, zero, suc, ◌+◌, ◌-◌, ◌*◌, ◌^◌, ◌/◌, ◌%◌, ◌<◌, ◌≤◌, Bool, true, false, not, ◌||◌, cond}
use Rattle.std.proofs.Common.{eqb, ltb, List, [], ◌∷◌, ◌++◌, length, map, refl, sym, ap, ◌∙◌, arith, rules}
use Rattle.std.proofs.lemmas.{Fmt.{decimal_nonempty, digits_decimal, digits_value-decimal}, Str.Parse.IsNumeralModel}
use Rattle.std.proofs.lemmas.{Str.Parse.numerals_by_fold, List.{append_assoc, append-nil, Splits.length-slice_split}}
use Rattle.std.{proofs.lemmas.List.Splits.{slice_split-cons_yes, slice_split-cons_no}, specs.Prelude.{filter, fold}}
use Rattle.std.specs.{List.{slice_split, list_any, join_with_byte}, Fmt.{decimal, digits, digits_onto}}
use Rattle.shop_text.specs.Lines.{is_line_feed, is_separator, is_empty, lines_of, tokens_of, is_number, value_of}
use Rattle.shop_text.{specs.{Schedules.Tokens, Writing.text_of}, proofs.LineLemmas.ended_more}

-- no byte passes the test
abbrev pub IsFree : (ℕ → Bool) → List ℕ → Type 0
IsFree p bytes = list_any p bytes ≡ false

pub free_append : (p : ℕ → Bool) (xs ys : List ℕ) → IsFree p xs → IsFree p ys → IsFree p (xs ++ ys)
free_append p xs ys e f = list_any-append p xs ys ∙ ap (λ (b : Bool). b || list_any p ys) e ∙ f

-- ---- lines

-- a list is cut at the first element that passes
cut_at : (p : ℕ → Bool) (xs : List ℕ) (y : ℕ) (ys : List ℕ) → IsFree p xs → p y ≡ true
    → slice_split p (xs ++ y ∷ ys) ≡ xs ∷ slice_split p ys
cut_at p [] y ys free here = slice_split-cons_yes p y ys here
cut_at p (x ∷ xs) y ys free here = grind (arith, common_steps, or_parts, slice_split-cons_no, cut_at p xs y ys)

cut_none : (p : ℕ → Bool) (xs : List ℕ) → IsFree p xs → slice_split p xs ≡ xs ∷ []
cut_none p [] free = refl
cut_none p (x ∷ xs) free = grind (arith, common_steps, or_parts, slice_split-cons_no, cut_none p xs)

pub line_cut : (line rest : List ℕ) → IsFree is_line_feed line
    → lines_of ((line ++ 10 ∷ []) ++ rest) ≡ line ∷ lines_of rest
line_cut line rest free = grind (arith, common_steps, append_assoc, cut_at, ended_more, length-slice_split)

-- the lines have no line feed inside
abbrev pub AreLines : List Tokens → Type 0
AreLines [] = Unit {0}
AreLines (line ∷ lines) = IsFree is_line_feed (join_with_byte 32 line) × AreLines lines

-- the lines of a text that begins with these
pub lines_of_front : (lines : List Tokens) (rest : List ℕ) → AreLines lines
    → lines_of (text_of lines ++ rest) ≡ map (join_with_byte 32) lines ++ lines_of rest
lines_of_front [] rest are = refl
lines_of_front (line ∷ lines) rest are = grind (arith, append_assoc, line_cut, lines_of_front lines rest are.1)

pub lines_of_text : (lines : List Tokens) → AreLines lines → lines_of (text_of lines) ≡ map (join_with_byte 32) lines
lines_of_text lines are = ap lines_of (sym (append-nil (text_of lines))) ∙ lines_of_front lines [] are
    ∙ append-nil (map (join_with_byte 32) lines)

pub are_lines_append : (lines more : List Tokens) → AreLines lines → AreLines more → AreLines (lines ++ more)
are_lines_append [] more h g = g
are_lines_append (line ∷ lines) more h g = (h.0, are_lines_append lines more h.1 g)

-- the joined tokens have no byte that none of them has
abbrev pub AllFree : (ℕ → Bool) → Tokens → Type 0
AllFree p [] = Unit {0}
AllFree p (token ∷ tokens) = IsFree p token × AllFree p tokens

pub joined_free : (p : ℕ → Bool) → p 32 ≡ false → (tokens : Tokens) → AllFree p tokens
    → IsFree p (join_with_byte 32 tokens)
joined_free p space [] free = refl
joined_free p space (token ∷ []) free = free.0
joined_free p space (token ∷ next ∷ tokens) free =
    grind (arith, common_steps, joined_free p space (next ∷ tokens) free.1)

-- ---- tokens

abbrev is_kept : List ℕ → Bool
is_kept piece = not (is_empty piece)

-- tokens that are read as they are printed: not empty, and with no separator
abbrev pub AreTokens : Tokens → Type 0
AreTokens [] = Unit {0}
AreTokens (token ∷ tokens) = IsFree is_separator token × (is_empty token ≡ false) × AreTokens tokens

kept : (token : List ℕ) (pieces : List (List ℕ)) → is_empty token ≡ false
    → filter is_kept (token ∷ pieces) ≡ token ∷ filter is_kept pieces
kept token pieces e = ap (λ (b : Bool). cond (not b) (token ∷ filter is_kept pieces) (filter is_kept pieces)) e

-- the first token of a line that has another
pub first_token : (token : List ℕ) (rest : List ℕ) → IsFree is_separator token → is_empty token ≡ false
    → tokens_of (token ++ 32 ∷ rest) ≡ token ∷ tokens_of rest
first_token token rest free some = grind (arith, common_steps, cut_at, kept)

pub tokens_of_joined : (tokens : Tokens) → AreTokens tokens → tokens_of (join_with_byte 32 tokens) ≡ tokens
tokens_of_joined [] are = refl
tokens_of_joined (token ∷ []) are = grind (arith, common_steps, cut_none, kept)
tokens_of_joined (token ∷ next ∷ tokens) are = grind (arith, first_token, tokens_of_joined (next ∷ tokens) are.2)

-- ---- numbers

pub numerals : IsNumeralModel (λ ds. is_number ds ≡ true) value_of
numerals = numerals_by_fold (λ ds. is_number ds ≡ true) (search rules)
    (λ n ds. fold (λ m digit. 10 * m + (digit - 48)) n ds) (search rules)

-- the test passes no digit
abbrev pub PassesNoDigit : (ℕ → Bool) → Type 0
PassesNoDigit p = (b : ℕ) → 48 ≤ b → p b ≡ false

glyph : (d : ℕ) → 48 ≤ cond (ltb d 10) (48 + d) (87 + d)
glyph d = grind (arith, common_steps)

free_more : (p : ℕ → Bool) → PassesNoDigit p → (d : ℕ) (acc : List ℕ) → IsFree p acc
    → IsFree p (cond (ltb d 10) (48 + d) (87 + d) ∷ acc)
free_more p none d acc free = ap (λ (b : Bool). b || list_any p acc) (none _ (glyph d)) ∙ free

free_either : (p : ℕ → Bool) (b : Bool) (xs ys : List ℕ) → IsFree p xs → IsFree p ys → IsFree p (cond b xs ys)
free_either p x xs ys f g = grind arith

digits_free : (p : ℕ → Bool) → PassesNoDigit p → (k n : ℕ) (acc : List ℕ) → IsFree p acc
    → IsFree p (digits_onto k 10 false n acc)
digits_free p none zero n acc free = free
digits_free p none (suc k) n acc free =
    let more = free_more p none (n % 10) acc free
    in free_either p (eqb (n / 10) 0) _ _ more (digits_free p none k (n / 10) _ more)

pub decimal_free : (p : ℕ → Bool) → PassesNoDigit p → (n : ℕ) → IsFree p (decimal n)
unfolding digits
decimal_free p none n = digits_free p none 64 n [] refl

not_equal : (b c : ℕ) → c < b → eqb b c ≡ false
not_equal b c h = grind (arith, common_steps, eqb-true)

pub no_line_feed : PassesNoDigit is_line_feed
no_line_feed b h = not_equal b 10 (omega arith)

pub no_separator : PassesNoDigit is_separator
no_separator b h = grind (arith, common_steps, not_equal)

some_bytes : (bytes : List ℕ) → 0 < length bytes → is_empty bytes ≡ false
some_bytes x h = grind arith

pub decimal_some : (n : ℕ) → n < 2 ^ 64 → is_empty (decimal n) ≡ false
decimal_some n h = some_bytes (decimal n) (decimal_nonempty n h)

pub decimal_is_number : (n : ℕ) → n < 2 ^ 64 → is_number (decimal n) ≡ true
decimal_is_number n h = digits_decimal numerals n h

pub decimal_value : (n : ℕ) → n < 2 ^ 64 → value_of (decimal n) ≡ n
decimal_value n h = digits_value-decimal numerals n h
