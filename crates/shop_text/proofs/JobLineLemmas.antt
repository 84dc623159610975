-- The lines of jobs in a schedule text: labels, and what is read so far.
use Rattle.std.proofs.{lemmas.Grind.common_steps, lemmas.Bool.{cases_eq, eq-eqb, eqb-true, ltb-true}}
use Rattle.std.proofs.Common.{◌≡◌, ℕ, ◌+◌, ◌-◌, ◌<◌, ◌≤◌, Bool, true, false, not, ◌&&◌, cond, eqb, List, [], ◌∷◌, ◌++◌}
use Rattle.std.proofs.Common.{length, get_or, take, Option, Some, None, sym, arith, Vec, Global}
use Rattle.std.proofs.lemmas.List.{get_or_at, length-take-le, map-append, length-map, append_assoc, length_push}
use Rattle.std.proofs.{lemmas.List.FromFn.length-enumerate_from, lemmas.Slice.Eq.bytes_eq-Decides}
use Rattle.std.specs.{Prelude.codes, List.enumerate_from, Option.option_eq, Str.bytes_eq}
use Rattle.shop_model.specs.Shop.{Shop}
use Rattle.shop_text.specs.{Lines.{lines_of, tokens_of, is_empty, is_number, value_of}, inner.LineReading.capped}
use Rattle.shop_text.specs.{inner.LineReading.number_in, Schedules.{Tokens, is_label, row_in, AreJobLines, IsBadAt}}
use Rattle.shop_text.{specs.inner.ScheduleReading.{IsReadSoFar, rows_held}, proofs.Passing.one_behind}

-- ---- labels

colon_last : (token : List ℕ) (i : ℕ) → length token ≡ i + 1 → get_or token i 0 ≡ 58
    → bytes_eq token (take i token ++ codes ":") ≡ true
colon_last token i e at = grind (arith, common_steps, bytes_eq-Decides)

no_colon : (token : List ℕ) (i : ℕ) → length token ≡ i + 1 → (get_or token i 0 ≡ 58 → ⊥) → (b : Bool)
    → bytes_eq token (take i token ++ codes ":") ≡ b → b ≡ false
no_colon token i e ne x same = grind (arith, bytes_eq-Decides, get_or_at, length-take-le)

not_first : (a b c d : Bool) → a ≡ false → (a && b && c && d) ≡ false
not_first x b c d e = grind arith

only_last : (a b c d : Bool) → a ≡ true → b ≡ true → c ≡ true → (a && b && c && d) ≡ d
only_last x b c d e f g = grind arith

pub no_label : (j : ℕ) (token : List ℕ) → 2 ≤ length token → (get_or token (length token - 1) 0 ≡ 58 → ⊥)
    → false ≡ is_label j token
no_label j token long ne = grind (arith, not_first, no_colon)

some_bytes : (bytes : List ℕ) → 0 < length bytes → not (is_empty bytes) ≡ true
some_bytes x h = grind arith

from_number : (b : Bool) (m n : ℕ) → Some n ≡ cond b (Some m) None → (b ≡ true) × (n ≡ m)
from_number x m n e = grind arith

-- a number that isn't capped
capped_is : (v j : ℕ) → j ≤ 1000 → eqb (capped v) j ≡ eqb v j
capped_is v j small = grind (arith, common_steps, cases_eq, eq-eqb, eqb-true)

pub label_is : (j : ℕ) (token : List ℕ) (n : ℕ) → j ≤ 1000 → 2 ≤ length token → get_or token (length token - 1) 0 ≡ 58
    → Some n ≡ cond (is_number (take (length token - 1) token)) (Some
    (capped (value_of (take (length token - 1) token)))) None → eqb n j ≡ is_label j token
label_is j token n small long at number =
    grind (arith, common_steps, from_number, capped_is, only_last, colon_last, some_bytes, length-take-le)

not_third : (a b c d : Bool) → c ≡ false → (a && b && c && d) ≡ false
not_third a b x d e = grind arith

pub label_by : (j : ℕ) (token : List ℕ) (number : Option ℕ) → j ≤ 1000 → 2 ≤ length token
    → get_or token (length token - 1) 0 ≡ 58 → number ≡ number_in (take (length token - 1) token)
    → option_eq eqb number (Some j) ≡ is_label j token
label_by j token None small long at e = grind (arith, common_steps, not_third)
label_by j token (Some n) small long at e = label_is j token n small long at e

-- ---- what is read so far

pub enumerate_push : {X : Type 0} (k : ℕ) (xs : List X) (x : X)
    → enumerate_from k (xs ++ x ∷ []) ≡ enumerate_from k xs ++ (k + length xs, x) ∷ []
enumerate_push k [] x = grind (arith, common_steps)
enumerate_push k (y ∷ xs) x = grind (arith, common_steps, enumerate_push (k + 1) xs x)

abbrev pub row_at : Shop → ℕ × (ℕ × Tokens) → Option (List ℕ)
row_at shop place = row_in shop place.0 place.1.1

pub as_many : (shop : Shop) (lines : List (ℕ × Tokens)) (rows : List (List ℕ)) → AreJobLines shop lines rows
    → length lines ≡ length rows
as_many shop lines rows good = grind (arith, common_steps, length-enumerate_from, length-map)

pub good_more : (shop : Shop) (lines : List (ℕ × Tokens)) (rows : List (List ℕ)) (line : ℕ × Tokens) (row : List ℕ)
    → AreJobLines shop lines rows
    → row_in shop (length rows) line.1 ≡ Some row → AreJobLines shop (lines ++ line ∷ []) (rows ++ row ∷ [])
good_more shop lines rows line row good is = grind (arith, common_steps, enumerate_push, map-append, as_many)

pub chosen : {X : Type 0} (b : Bool) (x : Option X) (y : X) → cond b x None ≡ Some y → (b ≡ true) × (x ≡ Some y)
chosen z x y e = grind arith

pub is_job_of : (shop : Shop) (j : ℕ) (tokens : Tokens) (row : List ℕ) → row_in shop j tokens ≡ Some row
    → j < length shop.jobs
is_job_of shop j tokens row e = grind (arith, common_steps, ltb-true)

-- a counted line that is none of the job that waits
pub bad_line : (shop : Shop) (text : List ℕ) (passed : ℕ) (rest line after : List ℕ) (behind : Tokens)
    (rows : List (List ℕ)) → IsReadSoFar shop text passed rest rows
    → lines_of rest ≡ line ∷ lines_of after → tokens_of line ≡ codes "job" ∷ behind
    → None ≡ row_in shop (length rows) (codes "job" ∷ behind) → IsBadAt shop text (passed + 1)
bad_line shop text passed rest line after behind rows so_far cut is none = grind (arith, as_many)

-- a line is missed at the end
pub missed_line : (shop : Shop) (text : List ℕ) (passed : ℕ) (rest : List ℕ) (rows : List (List ℕ))
    → IsReadSoFar shop text passed rest rows
    → length rest ≡ 0 → length rows < length shop.jobs → IsBadAt shop text (passed + 1)
missed_line shop text passed x rows so_far none few = grind (arith, common_steps, as_many)

-- a line of the job that waits
pub one_more : (shop : Shop) (text : List ℕ) (passed : ℕ) (rest line after : List ℕ) (behind : Tokens)
    (rows : List (List ℕ)) (row : List ℕ) → IsReadSoFar shop text passed rest rows
    → lines_of rest ≡ line ∷ lines_of after → length after < length rest → tokens_of line ≡ codes "job" ∷ behind
    → Some row ≡ row_in shop (length rows) (codes "job" ∷ behind)
    → IsReadSoFar shop text (passed + 1) after (rows ++ row ∷ [])
one_more shop text passed rest line after behind rows row so_far cut shorter is row_is = record {
  before = so_far.before ++ (passed + 1, codes "job" ∷ behind) ∷ [];
  cut = grind (arith, append_assoc);
  good = good_more shop so_far.before rows (passed + 1, codes "job" ∷ behind) row so_far.good (sym row_is);
  jobs = grind (arith, is_job_of, length_push);
  behind = one_behind text passed rest line after so_far.behind cut shorter;
}

pub rows_push : (before after : Vec (Vec ℕ Global) Global) (row : Vec ℕ Global)
    → after.items ≡ before.items ++ row ∷ [] → rows_held after ≡ rows_held before ++ row.items ∷ []
rows_push before after row e = grind (arith, common_steps, map-append)
