-- Digits at the front of a text.
use Rattle.std.proofs.{lemmas.Grind.common_steps, Common.{get_or, take, drop, Some, None, refl, ap, arith, take_all}}
use Rattle.std.proofs.Common.{◌≡◌, ℕ, zero, suc, ◌+◌, ◌-◌, ◌*◌, ◌^◌, ◌<◌, ◌≤◌, true, false, not, List, [], ◌∷◌, length}
use Rattle.std.proofs.{Math.Nat.pow-le-pow_right, lemmas.Bool.{and_parts, lt-ltb, le-ltb}}
use Rattle.std.proofs.lemmas.List.Sums.{position_or_len_is}
use Rattle.std.specs.{Prelude.position, Char.is_ascii_digit, List.position_or_len}
use Rattle.shop_text.{specs.Lines.{is_number, value_of, is_separator}, proofs.LineLemmas.{tokens_at, tokens_to_end}}
use Rattle.shop_text.specs.inner.LineReading.{capped, number_in, AreLeadingDigits, IsNumberCut}

-- behind at most 18 digits there is room for one more
pub room_for_digit : (i value : ℕ) → i < 19 → value < 10 ^ i → 10 * value + 9 < 18446744073709551616
room_for_digit i value few below = grind (arith, common_steps, pow-le-pow_right)

-- ---- where the digits end

pub before_digits_end : (text : List ℕ) (n : ℕ) → is_number (take n text) ≡ true → n ≤ length text → (k : ℕ) → k < n
    → is_separator (get_or text k 0) ≡ false
before_digits_end text zero e h k lt = absurd (omega arith)
before_digits_end [] (suc n) e h k lt = absurd (omega arith)
before_digits_end (b ∷ text) (suc n) e h zero lt = grind (arith, common_steps, and_parts)
before_digits_end (b ∷ text) (suc n) e h (suc k) lt =
    grind (arith, and_parts, before_digits_end text n (and_parts (is_ascii_digit b) (is_number (take n text)) e).1)

-- the digits end the text
pub no_end : (text : List ℕ) (n : ℕ) → is_number (take n text) ≡ true → n ≡ length text
    → position is_separator text ≡ None
no_end text n e h =
    let at : position_or_len is_separator text ≡ n = position_or_len_is is_separator text n 0 (omega arith)
    (before_digits_end text n e (omega arith)) (λ lt. absurd (omega arith))
    in rw (le-ltb (position_or_len is_separator text) (length text) (omega arith)) refl

-- or a separator stands behind them
pub end_here : (text : List ℕ) (n : ℕ) → is_number (take n text) ≡ true → n < length text
    → is_separator (get_or text n 0) ≡ true → position is_separator text ≡ Some n
end_here text n e h here =
    let at : position_or_len is_separator text ≡ n = position_or_len_is is_separator text n 0 (omega arith)
    (before_digits_end text n e (omega arith)) (λ lt. here)
    in rw (lt-ltb (position_or_len is_separator text) (length text) (omega arith)) (ap (λ (i : ℕ). Some i) at)

-- ---- a number cut off

value_read : (token : List ℕ) (value : ℕ) → is_number token ≡ true → value ≡ capped (value_of token)
    → Some value ≡ number_in token
value_read token value are is = grind (arith, common_steps)

pub cut_to_end : (line : List ℕ) (start value n : ℕ) → position (λ b. not (is_separator b)) line ≡ Some start
    → AreLeadingDigits (take (length line - start) (drop start line)) value n
    → n ≡ length (take (length line - start) (drop start line)) → IsNumberCut line (Some value)
    (take (length (take (length line - start) (drop start line)) - length
    (take (length line - start) (drop start line)))
    (drop (length (take (length line - start) (drop start line))) (take (length line - start) (drop start line))))
cut_to_end line start value n e l h = grind (arith, common_steps, take_all, tokens_to_end, no_end, value_read)

pub cut_at : (line : List ℕ) (start value n : ℕ) → position (λ b. not (is_separator b)) line ≡ Some start
    → AreLeadingDigits (take (length line - start) (drop start line)) value n
    → n < length (take (length line - start) (drop start line))
    → is_separator (get_or (take (length line - start) (drop start line)) n 0) ≡ true → IsNumberCut line (Some value)
    (take (length (take (length line - start) (drop start line)) - (n + 1))
    (drop (n + 1) (take (length line - start) (drop start line))))
cut_at line start value n e l h here = grind (arith, common_steps, tokens_at, end_here, value_read)
