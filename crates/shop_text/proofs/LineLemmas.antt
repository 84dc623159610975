-- Cutting a text into lines, and a line into tokens, at the first byte of a kind.
use Rattle.std.proofs.{lemmas.Grind.common_steps, lemmas.Bool.{cases_lt, lt-ltb, not-false, not-true}}
use Rattle.std.proofs.Common.{true≢false, add-one, length, get_or, Option, false, arith, subst, zero, Bool, true, List}
use Rattle.std.proofs.Common.{take, drop, Some, None, refl, ◌≡◌, suc, ◌+◌, ◌-◌, ◌<◌, ◌≤◌, not, ◌∷◌, sym, ◌∙◌, [], ap, ℕ}
use Rattle.std.proofs.{lemmas.List.{take_rest, drop_all, length-drop, get_or-drop}, lemmas.List.Sums.fails_before_first}
use Rattle.std.proofs.lemmas.List.Quantifiers.{position-Some}
use Rattle.std.proofs.lemmas.List.Splits.{length-slice_split, slice_split-cons_yes, slice_split-cons_no}
use Rattle.std.specs.{Prelude.{position, filter}, List.{slice_split, onto_first}}
use Rattle.shop_text.specs.Lines.{is_line_feed, is_separator, is_empty, ended, lines_of, tokens_of}

-- where no position is found, no element passes
pub position_none : (p : ℕ → Bool) (xs : List ℕ) → position p xs ≡ None → (k : ℕ) → k < length xs
    → p (get_or xs k 0) ≡ false
position_none p xs e k h = grind (arith, common_steps, cases_lt, lt-ltb, fails_before_first)

split_here : (p : ℕ → Bool) (xs : List ℕ) (i : ℕ) → i < length xs → p (get_or xs i 0) ≡ true
    → ((k : ℕ) → k < i → p (get_or xs k 0) ≡ false) → slice_split p xs ≡ take i xs ∷ slice_split p (drop (suc i) xs)
split_here p [] i lt here before = absurd (omega arith)
split_here p (x ∷ xs) zero lt here before = slice_split-cons_yes p x xs here
split_here p (x ∷ xs) (suc i) lt here before =
    slice_split-cons_no p x xs (before 0 (omega arith))
    ∙ ap (onto_first x) (split_here p xs i (omega arith) here (λ k h. before (suc k) (omega arith)))

split_none : (p : ℕ → Bool) (xs : List ℕ) → ((k : ℕ) → k < length xs → p (get_or xs k 0) ≡ false)
    → slice_split p xs ≡ xs ∷ []
split_none p [] none = refl
split_none p (x ∷ xs) none =
    slice_split-cons_no p x xs (none 0 (omega arith))
    ∙ ap (onto_first x) (split_none p xs (λ k h. none (suc k) (omega arith)))

pub ended_more : (piece : List ℕ) (pieces : List (List ℕ)) → 0 < length pieces
    → ended (piece ∷ pieces) ≡ piece ∷ ended pieces
ended_more piece x some = grind arith

-- the first line ends at the first LF
pub lines_at : (text : List ℕ) (i : ℕ) → position is_line_feed text ≡ Some i
    → lines_of text ≡ take i text ∷ lines_of (take (length text - (i + 1)) (drop (i + 1) text))
lines_at text i e = grind (arith, position-Some, split_here, ended_more, length-slice_split, take_rest, add-one)

-- without LF there is one line
pub lines_alone : (text : List ℕ) → 0 < length text → position is_line_feed text ≡ None
    → lines_of text ≡ text ∷ lines_of (take (length text - length text) (drop (length text) text))
lines_alone text some e = grind (arith, common_steps, take_rest, drop_all, split_none, position_none)

-- ---- tokens

-- separators before the first token don't matter
tokens_skip : (xs : List ℕ) (i : ℕ) → i ≤ length xs → ((k : ℕ) → k < i → is_separator (get_or xs k 0) ≡ true)
    → tokens_of xs ≡ tokens_of (drop i xs)
tokens_skip xs zero h all = refl
tokens_skip [] (suc i) h all = absurd (omega arith)
tokens_skip (x ∷ xs) (suc i) h all =
    ap (filter (λ piece. not (is_empty piece))) (slice_split-cons_yes is_separator x xs (all 0 (omega arith)))
    ∙ tokens_skip xs i (omega arith) (λ k lt. all (suc k) (omega arith))

-- a token at the beginning
token_at : (xs : List ℕ) (i : ℕ) → 0 < i → i < length xs → is_separator (get_or xs i 0) ≡ true
    → ((k : ℕ) → k < i → is_separator (get_or xs k 0) ≡ false) → tokens_of xs ≡ take i xs ∷ tokens_of (drop (suc i) xs)
token_at xs i some lt here before = grind (arith, split_here)

token_alone : (xs : List ℕ) → 0 < length xs → ((k : ℕ) → k < length xs → is_separator (get_or xs k 0) ≡ false)
    → tokens_of xs ≡ xs ∷ []
token_alone y some none = grind (arith, split_none)

abbrev is_in_token : ℕ → Bool
is_in_token b = not (is_separator b)

pub no_tokens : (line : List ℕ) → position (λ b. not (is_separator b)) line ≡ None → tokens_of line ≡ []
no_tokens line e =
    let none = position_none is_in_token line e
    in tokens_skip line (length line) (omega arith) (λ k lt. not-false (is_separator (get_or line k 0)) (none k lt))
    ∙ ap tokens_of (drop_all (length line) line (omega arith))

-- the first token begins here, and ends at a separator
pub tokens_at : (line : List ℕ) (start end : ℕ) → position (λ b. not (is_separator b)) line ≡ Some start
    → position is_separator (take (length line - start) (drop start line)) ≡ Some end → tokens_of line
    ≡ take end (take (length line - start) (drop start line)) ∷ tokens_of
    (take (length (take (length line - start) (drop start line)) - (end + 1))
    (drop (end + 1) (take (length line - start) (drop start line))))
tokens_at line start end e f =
    let begins = position-Some is_in_token line start 0 e
    in let rest = take (length line - start) (drop start line)
    in let rest_at : rest ≡ drop start line = take_rest line start
    in let ends = position-Some is_separator rest end 0 f
    in let skipped : tokens_of line ≡ tokens_of rest = tokens_skip line start (omega arith)
    (λ k lt. not-false (is_separator (get_or line k 0)) (begins.2 k lt)) ∙ sym (ap tokens_of rest_at)
    in let first : is_separator (get_or rest 0 0) ≡ false = ap (λ (xs : List ℕ). is_separator (get_or xs 0 0)) rest_at
    ∙ ap is_separator (get_or-drop start line 0 0 ∙ ap (λ (i : ℕ). get_or line i 0) (omega arith))
    ∙ not-true (is_separator (get_or line start 0)) begins.1
    in let some : 0 < end = positive end (λ zero_is. true≢false (sym (subst (λ (i : ℕ). is_separator (get_or rest i 0)
    ≡ true) zero_is ends.1) ∙ first))
    in skipped ∙ token_at rest end some ends.0 ends.1 ends.2
    ∙ ap (λ (xs : List ℕ). take end rest ∷ tokens_of xs) (ap (λ (i : ℕ). drop i rest) (sym (add-one end))
    ∙ sym (take_rest rest (end + 1)))
  where
    positive : (n : ℕ) → (n ≡ 0 → ⊥) → 0 < n
    positive n h = omega arith

-- or it ends with the line
pub tokens_to_end : (line : List ℕ) (start : ℕ) → position (λ b. not (is_separator b)) line ≡ Some start
    → position is_separator (take (length line - start) (drop start line)) ≡ None → tokens_of line
    ≡ take (length line - start) (drop start line) ∷ tokens_of
    (take (length (take (length line - start) (drop start line)) - length
    (take (length line - start) (drop start line)))
    (drop (length (take (length line - start) (drop start line))) (take (length line - start) (drop start line))))
tokens_to_end line start e f =
    let begins = position-Some is_in_token line start 0 e
    in let rest = take (length line - start) (drop start line)
    in let rest_at : rest ≡ drop start line = take_rest line start
    in let some : 0 < length rest = rw rest_at (omega (arith, length-drop start line))
    in let skipped : tokens_of line ≡ tokens_of rest = tokens_skip line start (omega arith)
    (λ k lt. not-false (is_separator (get_or line k 0)) (begins.2 k lt)) ∙ sym (ap tokens_of rest_at)
    in skipped ∙ token_alone rest some (position_none is_separator rest f)
    ∙ ap (λ (xs : List ℕ). rest ∷ tokens_of xs) (sym (take_rest rest (length rest)
    ∙ drop_all (length rest) rest (omega arith)))

pub none_left : (o : Option ℕ) → ((n : ℕ) → o ≡ Some n → ⊥) → o ≡ None
none_left x h = grind arith
