-- The job lines of a report, read as those of a schedule text.
use Rattle.std.proofs.{lemmas.Grind.common_steps, Common.{length, get_or, map, Option, Some, refl, ap, ◌∙◌, arith, ◌≡◌}}
use Rattle.std.proofs.Common.{ℕ, suc, ◌+◌, ◌^◌, ◌<◌, ◌≤◌, true, false, cond, leb, List, rules, [], ◌∷◌, ◌++◌}
use Rattle.std.proofs.lemmas.{Bool.{and_from, eq-eqb, le-leb, lt-ltb}, List.{length-append, length-map, take_at}}
use Rattle.std.{proofs.lemmas.Slice.Eq.bytes_eq-Decides, specs.{Prelude.{filter, codes}, List.enumerate_from}}
use Rattle.std.specs.{List.{list_all, join_with_byte}, Str.bytes_eq, Fmt.decimal}
use Rattle.shop_model.specs.Shop.{Shop, route_of}
use Rattle.shop_text.specs.Lines.{is_line_feed, is_separator, is_empty, tokens_of, is_number, value_of}
use Rattle.shop_text.specs.Schedules.{Tokens, begins_with_job, is_counted, is_label, is_start, row_in}
use Rattle.shop_text.specs.Writing.{job_line}
use Rattle.shop_text.proofs.{JobLineLemmas.row_at, PrintedLines.{decimal_is_number, decimal_value}}
use Rattle.shop_text.proofs.PrintedLines.{IsFree, free_append, AreLines, AllFree, joined_free, AreTokens, first_token}
use Rattle.shop_text.proofs.PrintedLines.{tokens_of_joined, decimal_free, no_line_feed, no_separator, decimal_some}

-- ---- the starts of a job

pub small_number : (s : ℕ) → s ≤ 1000000000000000 → s < 2 ^ 64
small_number s h = omega arith

abbrev pub AreSmallStarts : List ℕ → Type 0
AreSmallStarts row = (k : ℕ) → get_or row k 0 ≤ 1000000000000000

pub starts_read : (row : List ℕ) → AreSmallStarts row → list_all is_start (map decimal row) ≡ true
starts_read [] small = refl
starts_read (s ∷ row) small =
    let fits = small_number s (small 0)
    in let start : is_start (decimal s) ≡ true =
    and_from (is_number (decimal s)) (leb (value_of (decimal s)) 1000000000000000) (decimal_is_number s fits)
    (ap (λ (v : ℕ). leb v 1000000000000000) (decimal_value s fits) ∙ le-leb s 1000000000000000 (small 0))
    in and_from (is_start (decimal s)) (list_all is_start (map decimal row)) start
    (starts_read row (λ k. small (suc k)))

pub values_read : (row : List ℕ) → AreSmallStarts row → map value_of (map decimal row) ≡ row
values_read [] small = refl
values_read (s ∷ row) small =
    ap (λ (v : ℕ). v ∷ map value_of (map decimal row)) (decimal_value s (small_number s (small 0)))
    ∙ ap (λ (vs : List ℕ). s ∷ vs) (values_read row (λ k. small (suc k)))

-- ---- the label of a job

pub label_read : (j : ℕ) → j < 2 ^ 64 → is_label j (decimal j ++ codes ":") ≡ true
label_read j fits =
    grind (arith, take_at, length-append, bytes_eq-Decides, decimal_some, decimal_is_number, eq-eqb, decimal_value)

pub row_read : (shop : Shop) (j : ℕ) (row : List ℕ) → j < length shop.jobs → j < 2 ^ 64
    → length row ≡ length (route_of shop j) → AreSmallStarts row → row_in shop j (job_line j row) ≡ Some row
row_read shop j row job fits steps small =
    grind (arith, common_steps, lt-ltb, label_read, and_from, eq-eqb, length-map, starts_read, values_read)

-- ---- the tokens of a job's line

pub behind_some : (xs : List ℕ) (y : ℕ) (ys : List ℕ) → is_empty (xs ++ y ∷ ys) ≡ false
behind_some [] y ys = refl
behind_some (x ∷ xs) y ys = refl

pub starts_are_tokens : (row : List ℕ) → AreSmallStarts row → AreTokens (map decimal row)
starts_are_tokens [] small = tt
starts_are_tokens (s ∷ row) small = (
  decimal_free is_separator no_separator s,
  decimal_some s (small_number s (small 0)),
  starts_are_tokens row (λ k. small (suc k)),
)

pub line_is_tokens : (j : ℕ) (row : List ℕ) → AreSmallStarts row
    → tokens_of (join_with_byte 32 (job_line j row)) ≡ job_line j row
line_is_tokens j row small =
    search (rules, tokens_of_joined, free_append, decimal_free, no_separator, behind_some, starts_are_tokens)

pub starts_free : (row : List ℕ) → AllFree is_line_feed (map decimal row)
starts_free [] = tt
starts_free (s ∷ row) = (decimal_free is_line_feed no_line_feed s, starts_free row)

pub job_line_free : (j : ℕ) (row : List ℕ) → IsFree is_line_feed (join_with_byte 32 (job_line j row))
job_line_free j row = grind (arith, common_steps, joined_free, free_append, decimal_free, no_line_feed, starts_free)

-- ---- the counted lines

abbrev pub read_from : ℕ → List Tokens → List (ℕ × Tokens)
read_from n lines = filter is_counted (enumerate_from n (map tokens_of (map (join_with_byte 32) lines)))

abbrev pub IsOther : Tokens → Type 0
IsOther line = begins_with_job (tokens_of (join_with_byte 32 line)) ≡ false

abbrev pub AreOther : List Tokens → Type 0
AreOther [] = Unit {0}
AreOther (line ∷ lines) = IsOther line × AreOther lines

pub other_line : (word next : List ℕ) (more : Tokens) → IsFree is_separator word → is_empty word ≡ false
    → bytes_eq word (codes "job") ≡ false → IsOther (word ∷ next ∷ more)
other_line word next more free some ne = grind (arith, common_steps, first_token)

pub skip_line : (n : ℕ) (line : Tokens) (lines : List Tokens) → IsOther line
    → read_from n (line ∷ lines) ≡ read_from (n + 1) lines
skip_line n line lines other = grind (arith, common_steps)

pub skip_lines : (n : ℕ) (others lines : List Tokens) → AreOther others
    → read_from n (others ++ lines) ≡ read_from (n + length others) lines
skip_lines n [] lines are = grind (arith, common_steps)
skip_lines n (line ∷ others) lines are = grind (arith, common_steps, skip_line, skip_lines (n + 1) others lines are.1)

pub skip_all : (n : ℕ) (others : List Tokens) → AreOther others → read_from n others ≡ []
skip_all n [] are = refl
skip_all n (line ∷ others) are = skip_line n line others are.0 ∙ skip_all (n + 1) others are.1

-- the lines of jobs from j on
abbrev pub jobs_from : ℕ → List (List ℕ) → List Tokens
jobs_from j rows = map (λ row. job_line row.0 row.1) (enumerate_from j rows)

-- the rows are those of jobs from j on
pub record AreRows (shop : Shop) (j : ℕ) (rows : List (List ℕ)) : Type 0 where
  pub jobs : j + length rows ≤ length shop.jobs
  pub few : j + length rows < 2 ^ 64
  pub steps : (i : ℕ) → i < length rows → length (get_or rows i []) ≡ length (route_of shop (j + i))
  pub small : (i : ℕ) → AreSmallStarts (get_or rows i [])

pub later_rows : (shop : Shop) (j : ℕ) (row : List ℕ) (rows : List (List ℕ)) → AreRows shop j (row ∷ rows)
    → AreRows shop (j + 1) rows
later_rows shop j row rows h = record {
  jobs = (let jobs = h.jobs in omega arith);
  few = (let few = h.few in omega arith);
  steps = λ i below. h.steps (suc i) (omega arith) ∙ ap (λ (k : ℕ). length (route_of shop k)) (omega arith);
  small = λ i. h.small (suc i);
}

pub jobs_read : (shop : Shop) (n j : ℕ) (rows : List (List ℕ)) (others : List Tokens) → AreRows shop j rows
    → AreOther others → map (row_at shop) (enumerate_from j (read_from n (jobs_from j rows ++ others))) ≡ map Some rows
jobs_read shop n j [] others h are = grind (arith, row_at, skip_all)
jobs_read shop n j (row ∷ rows) others h are =
    let later = read_from (n + 1) (jobs_from (j + 1) rows ++ others)
    in let here : read_from n (jobs_from j (row ∷ rows) ++ others) ≡ (n, job_line j row) ∷ later =
    ap (λ (line : Tokens). cond (begins_with_job line) ((n, line) ∷ later) later) (line_is_tokens j row (h.small 0))
    in ap (λ (lines : List (ℕ × Tokens)). map (row_at shop) (enumerate_from j lines)) here
    ∙ ap (λ (r : Option (List ℕ)). r ∷ map (row_at shop) (enumerate_from (j + 1) later))
    (row_read shop j row (let jobs = h.jobs in omega arith) (let few = h.few in omega arith)
    (h.steps 0 (omega arith) ∙ ap (λ (k : ℕ). length (route_of shop k)) (omega arith)) (h.small 0))
    ∙ ap (λ (rs : List (Option (List ℕ))). Some row ∷ rs) (jobs_read shop (n + 1) (j + 1) rows others
    (later_rows shop j row rows h) are)

pub job_lines_are_lines : (j : ℕ) (rows : List (List ℕ)) → AreLines (jobs_from j rows)
job_lines_are_lines j [] = tt
job_lines_are_lines j (row ∷ rows) = (job_line_free j row, job_lines_are_lines (j + 1) rows)
