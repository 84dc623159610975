-- Texts made of lines, and lines made of tokens.
use Rattle.std.proofs.{lemmas.Grind.common_steps, Common.{◌∙◌, arith}, lemmas.List.FromFn.map-range_with_len_more}
use Rattle.std.proofs.Common.{◌≡◌, ℕ, ◌+◌, ◌<◌, List, [], ◌∷◌, ◌++◌, length, get_or, take, map, Result, refl, sym, ap}
use Rattle.std.proofs.lemmas.List.{append_assoc, append-nil, map-append, take_more, length-take-le}
use Rattle.std.specs.{Prelude.{flat_map, codes, OnOk, IfOk}, List.{join_with_byte, range_with_len}, Fmt.decimal}
use Rattle.shop_text.specs.{Schedules.Tokens, Writing.{printed_line, text_of, job_line, job_lines}}
use Rattle.shop_text.proofs.JobLineLemmas.{enumerate_push}

-- a space before each token
abbrev pub behind_space : List ℕ → List ℕ
behind_space token = 32 ∷ token

-- the first token, and a space before each other one
pub joined_is : (token : List ℕ) (tokens : Tokens)
    → join_with_byte 32 (token ∷ tokens) ≡ token ++ flat_map behind_space tokens
joined_is token [] = sym (append-nil token)
joined_is token (next ∷ tokens) = ap (λ (rest : List ℕ). token ++ 32 ∷ rest) (joined_is next tokens)

flat_map-map : (f : ℕ → List ℕ) (xs : List ℕ) → flat_map behind_space (map f xs) ≡ flat_map (λ x. 32 ∷ f x) xs
flat_map-map f [] = refl
flat_map-map f (x ∷ xs) = ap (λ (rest : List ℕ). 32 ∷ f x ++ rest) (flat_map-map f xs)

-- the line of a job, as it is written: its beginning, the starts, the end
pub job_line_is : (j : ℕ) (starts : List ℕ)
    → ((codes "job " ++ (decimal j ++ codes ":")) ++ flat_map (λ start. 32 ∷ decimal start) starts) ++ 10 ∷ []
    ≡ printed_line (job_line j starts)
job_line_is j starts = grind (arith, common_steps, joined_is, flat_map-map)

-- one more line behind what is written
pub text_more : (old new start : List ℕ) (lines : List Tokens) (line : Tokens) → old ≡ start ++ text_of lines
    → new ≡ old ++ printed_line line → new ≡ start ++ text_of (lines ++ line ∷ [])
text_more old new start lines line e f = grind (arith, common_steps, append_assoc)

pub job_lines_more : (rows : List (List ℕ)) (j : ℕ) → j < length rows
    → job_lines (take (j + 1) rows) ≡ job_lines (take j rows) ++ job_line j (get_or rows j []) ∷ []
job_lines_more rows j h = grind (arith, common_steps, take_more, enumerate_push, map-append, length-take-le)

-- eight more lines, one behind the other
pub eight_lines : (s s1 s2 s3 s4 s5 s6 s7 t a b c d e f g h : List ℕ) → s1 ≡ s ++ a → s2 ≡ s1 ++ b → s3 ≡ s2 ++ c
    → s4 ≡ s3 ++ d → s5 ≡ s4 ++ e → s6 ≡ s5 ++ f → s7 ≡ s6 ++ g → t ≡ s7 ++ h
    → t ≡ s ++ (a ++ (b ++ (c ++ (d ++ (e ++ (f ++ (g ++ (h ++ []))))))))
eight_lines s s1 s2 s3 s4 s5 s6 s7 t a b c d e f g h i1 i2 i3 i4 i5 i6 i7 i8 =
    i8 ∙ rw (i7, i6, i5, i4, i3, i2, i1) (simp (append_assoc, append-nil))

-- one more line behind a first one
pub line_more : (old new : List ℕ) (first : Tokens) (line : ℕ → Tokens) (n : ℕ)
    → old ≡ text_of (first ∷ map line (range_with_len 0 n)) → new ≡ old ++ printed_line (line n)
    → new ≡ text_of (first ∷ map line (range_with_len 0 (n + 1)))
line_more old new first line n e f =
    text_more old new [] (first ∷ map line (range_with_len 0 n)) (line n) e f
    ∙ ap (λ (lines : List Tokens). text_of (first ∷ lines)) (sym (map-range_with_len_more line 0 n n (omega arith)))

-- ---- what a call that may want memory has written

pub written : {X E : Type 0} (r : Result X E) (P Q : Type 0) → OnOk r P → (P → Q) → OnOk r Q
written y z u h f = grind arith

pub same_text : {X E : Type 0} (bytes : X → List ℕ) (r : Result X E) (a b : List ℕ) → IfOk r (λ x. bytes x ≡ a) → a ≡ b
    → IfOk r (λ x. bytes x ≡ b)
same_text bytes y a b h e = grind arith

-- ---- verdicts

abbrev pub early_tokens : List ℕ → List ℕ → List ℕ → Tokens
early_tokens j k before = codes "infeasible:" ∷ codes "job" ∷ j ∷ codes "step" ∷ k ∷ codes "begins" ∷ codes "before"
    ∷ codes "step" ∷ before ∷ codes "ends" ∷ []

pub early_is : (j k before : List ℕ) → codes "infeasible: job " ++ (j ++ (codes " step " ++ (k
    ++ (codes " begins before step " ++ (before ++ codes " ends\n"))))) ≡ printed_line (early_tokens j k before)
early_is j k before = simp append_assoc

pub overlap_is : (m j k i l : List ℕ) → codes "infeasible: machine " ++ (m ++ (codes " overlap of job "
    ++ (j ++ (codes " step " ++ (k ++ (codes " and job " ++ (i ++ (codes " step " ++ (l ++ codes "\n")))))))))
    ≡ printed_line (codes "infeasible:" ∷ codes "machine" ∷ m ∷ codes "overlap" ∷ codes "of" ∷ codes "job" ∷ j
    ∷ codes "step" ∷ k ∷ codes "and" ∷ codes "job" ∷ i ∷ codes "step" ∷ l ∷ [])
overlap_is m j k i l = simp append_assoc

pub unreleased_is : (j : List ℕ) → codes "infeasible: job " ++ (j ++ codes " step 0 begins before its release\n")
    ≡ printed_line (codes "infeasible:" ∷ codes "job" ∷ j ∷ codes "step" ∷ codes "0" ∷ codes "begins"
    ∷ codes "before" ∷ codes "its" ∷ codes "release" ∷ [])
unreleased_is j = simp append_assoc
