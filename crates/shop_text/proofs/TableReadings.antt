-- Each schedule text gives exactly one table, or has exactly one fault.
use Rattle.std.proofs.{lemmas.Grind.common_steps, Common.{sym, ap, ◌∙◌, arith, inl, inr, subst, ◌≡◌, ℕ, ◌+◌, ◌<◌, ◌≤◌}}
use Rattle.std.proofs.{Common.{◌⊎◌, List, [], ◌∷◌, ◌++◌, length, map, Option, Some, None, refl}, lemmas.Bool.cases_lt}
use Rattle.std.{proofs.lemmas.List.{append-nil, append_assoc, length_push}, specs.List.enumerate_from}
use Rattle.shop_model.specs.Shop.{Shop}
use Rattle.shop_text.specs.{Lines.lines_of, Schedules.{IsTableFault, OneTable, SomeTable, Tokens, counted_lines}}
use Rattle.shop_text.specs.Schedules.{row_in, AreJobLines, IsTable, GoesWrong, IsBadAt}
use Rattle.shop_text.specs.declared.faults.ReadFault.{ReadFault, TheVariants.{TooLong, BadTable}}
use Rattle.shop_text.proofs.JobLineLemmas.{row_at, as_many, good_more, is_job_of}

-- a counted line with its number
abbrev Line : Type 0
Line = ℕ × Tokens

-- the lines from job `first` on give the rows
abbrev GivesFrom : Shop → ℕ → List Line → List (List ℕ) → Type 0
GivesFrom shop first lines rows = map (row_at shop) (enumerate_from first lines) ≡ map Some rows

-- the rows of the lines before the first bad one, and the lines from that one on
abbrev next_row : Shop → ℕ → Line → List Line → Option (List ℕ) → List (List ℕ) × List Line → List (List ℕ) × List Line
next_row shop first line lines None rest = ([], line ∷ lines)
next_row shop first line lines (Some row) rest = (row ∷ rest.0, rest.1)

abbrev reading : Shop → ℕ → List Line → List (List ℕ) × List Line
reading shop first [] = ([], [])
reading shop first (line ∷ lines) =
    next_row shop first line lines (row_in shop first line.1) (reading shop (first + 1) lines)

-- no line of the later ones is that of the job that waits
abbrev IsStopped : Shop → ℕ → List Line → Type 0
IsStopped shop j [] = Unit {0}
IsStopped shop j (line ∷ later) = row_in shop j line.1 ≡ None

-- a reading is found again
is_reading : (shop : Shop) (first : ℕ) (before : List Line) (rows : List (List ℕ)) (later : List Line)
    → GivesFrom shop first before rows → IsStopped shop (first + length before) later
    → reading shop first (before ++ later) ≡ (rows, later)
is_reading shop first [] [] [] good stopped = refl
is_reading shop first [] [] (line ∷ later) good stopped = grind arith
is_reading shop first [] (row ∷ rows) later good stopped = absurd cc
is_reading shop first (line ∷ before) [] later good stopped = absurd cc
is_reading shop first (line ∷ before) (row ∷ rows) later good stopped =
    grind (arith, is_reading shop (first + 1) before rows later)

bad_reading : (shop : Shop) (text : List ℕ) (n : ℕ) (bad : IsBadAt shop text n)
    → reading shop 0 (counted_lines text) ≡ (bad.rows, bad.later)
bad_reading shop text n bad = grind (arith, common_steps, is_reading)

good_reading : (shop : Shop) (text : List ℕ) (rows : List (List ℕ)) → IsTable shop text rows
    → reading shop 0 (counted_lines text) ≡ (rows, [])
good_reading shop text rows table = ap (reading shop 0) (sym (append-nil (counted_lines text)))
    ∙ is_reading shop 0 (counted_lines text) rows [] table.lines tt

-- ---- one at most

same_place : (shop : Shop) (last i j m n : ℕ) (later others : List Line) → later ≡ others
    → GoesWrong shop last i later m → GoesWrong shop last j others n → m ≡ n
same_place shop last i j m n z u e x y = grind arith

same_bad : (shop : Shop) (text : List ℕ) (m n : ℕ) → IsBadAt shop text m → IsBadAt shop text n → m ≡ n
same_bad shop text m n x y =
    same_place shop _ _ _ m n x.later y.later (ap (λ (r : List (List ℕ) × List Line). r.1)
    (sym (bad_reading shop text m x) ∙ bad_reading shop text n y)) x.wrong y.wrong

-- a line for each job, and a job that waits
none_waits : (shop : Shop) (last j n : ℕ) (later : List Line) → later ≡ [] → j ≡ length shop.jobs
    → GoesWrong shop last j later n → ⊥
none_waits shop last j n x e all wrong = grind arith

never_both : (shop : Shop) (text : List ℕ) (rows : List (List ℕ)) (n : ℕ) → IsTable shop text rows
    → IsBadAt shop text n → ⊥
never_both shop text rows n table bad =
    let same : (rows, []) ≡ (bad.rows, bad.later) =
    sym (good_reading shop text rows table) ∙ bad_reading shop text n bad
    in let all : length bad.rows ≡ length shop.jobs =
    ap (λ (r : List (List ℕ) × List Line). length r.0) (sym same) ∙ table.jobs
    in none_waits shop _ _ n bad.later (ap (λ (r : List (List ℕ) × List Line). r.1) (sym same))
    (as_many shop bad.before bad.rows bad.good ∙ all) bad.wrong

same_fault : (shop : Shop) (text : List ℕ) (x y : ReadFault) → IsTableFault shop text x → IsTableFault shop text y
    → x ≡ y
same_fault shop text x y (inl long) (inl longer) = long.told ∙ sym longer.told
same_fault shop text x y (inl long) (inr bad) = absurd (omega (arith, long.long, bad.2))
same_fault shop text x y (inr bad) (inl long) = absurd (omega (arith, long.long, bad.2))
same_fault shop text x y (inr bad) (inr worse) =
    bad.1 ∙ ap (λ (n : ℕ). BadTable n) (same_bad shop text bad.0 worse.0 bad.3 worse.3) ∙ sym worse.1

not_good : (shop : Shop) (text : List ℕ) (rows : List (List ℕ)) (x : ReadFault) → IsTable shop text rows
    → IsTableFault shop text x → ⊥
not_good shop text rows x table (inl long) = (let short = table.short in omega (arith, long.long))
not_good shop text rows x table (inr bad) = never_both shop text rows bad.0 table bad.3

pub one_table : (shop : Shop) → OneTable shop
one_table shop = record {
  one_table = λ text rows others x y. ap (λ (r : List (List ℕ) × List Line). r.0)
      (sym (good_reading shop text rows x) ∙ good_reading shop text others y);
  one_fault = same_fault shop;
  not_both = not_good shop;
}

-- ---- and one at least

abbrev Outcome : Shop → List ℕ → Type 0
Outcome shop text = ((rows : List (List ℕ)) × IsTable shop text rows) ⊎ ((x : ReadFault) × IsTableFault shop text x)

-- the lines before are those of the first jobs
pub record IsBegun (shop : Shop) (text : List ℕ) (before : List Line) (rows : List (List ℕ)) (later : List Line) : Type
    0 where
  pub short : length text ≤ 16777216
  pub cut : counted_lines text ≡ before ++ later
  pub good : AreJobLines shop before rows
  pub jobs : length rows ≤ length shop.jobs

at_end : (shop : Shop) (text : List ℕ) (before : List Line) (rows : List (List ℕ)) → IsBegun shop text before rows []
    → Outcome shop text
at_end shop text before rows s = elim (cases_lt (length rows) (length shop.jobs)) [
  | inl few ↦ inr (
    BadTable (length (lines_of text) + 1),
    inr (
      length (lines_of text) + 1,
      refl,
      s.short,
      record {
        before = before;
        rows = rows;
        later = [];
        cut = s.cut;
        good = s.good;
        wrong = (subst (λ (j : ℕ). j < length shop.jobs) (sym (as_many shop before rows s.good)) few, refl);
      },
    ),
  )
  | inr all ↦ inl (
    rows,
    record {
      short = s.short;
      lines = subst (λ (lines : List Line). AreJobLines shop lines rows) (sym (s.cut ∙ append-nil before)) s.good;
      jobs = (let jobs = s.jobs in omega arith);
    },
  )
]

at_line : (shop : Shop) (text : List ℕ) (before : List Line) (rows : List (List ℕ)) (line : Line) (later : List Line)
    → IsBegun shop text before rows (line ∷ later) → (o : Option (List ℕ)) → row_in shop (length rows) line.1 ≡ o
    → ((row : List ℕ) → IsBegun shop text (before ++ line ∷ []) (rows ++ row ∷ []) later → Outcome shop text)
    → Outcome shop text
at_line shop text before rows line later s None e go = inr (
  BadTable line.0,
  inr (
    line.0,
    refl,
    s.short,
    record {
      before = before;
      rows = rows;
      later = line ∷ later;
      cut = s.cut;
      good = s.good;
      wrong = (ap (λ (j : ℕ). row_in shop j line.1) (as_many shop before rows s.good) ∙ e, refl);
    },
  ),
)
at_line shop text before rows line later s (Some row) e go = go row (record {
  short = s.short;
  cut = s.cut ∙ sym (append_assoc before (line ∷ []) later);
  good = good_more shop before rows line row s.good e;
  jobs = (let job = is_job_of shop (length rows) line.1 row e in omega (arith, length_push rows row));
})

outcome : (shop : Shop) (text : List ℕ) (before : List Line) (rows : List (List ℕ)) (later : List Line)
    → IsBegun shop text before rows later → Outcome shop text
outcome shop text before rows [] s = at_end shop text before rows s
outcome shop text before rows (line ∷ later) s =
    at_line shop text before rows line later s (row_in shop (length rows) line.1) refl
    (λ row t. outcome shop text (before ++ line ∷ []) (rows ++ row ∷ []) later t)

pub some_table : (shop : Shop) → SomeTable shop
some_table shop text = elim (cases_lt 16777216 (length text)) [
  | inl long ↦ inr (TooLong, inl (record { long = long; told = refl }))
  | inr short ↦ outcome shop text [] [] (counted_lines text) (record
      { short = short; cut = refl; good = refl; jobs = omega arith })
]
