-- Worked schedule texts, computed: two jobs of two steps each, behind the three lines of their instance.
use Rattle.std.{proofs.Common.{◌≡◌, ℕ, ◌≤◌, inr, List, [], ◌∷◌, ◌++◌, length, None, refl, arith}, specs.Prelude.codes}
use Rattle.shop_text.specs.Schedules.{Tokens, counted_lines, row_in, AreJobLines, IsTable, IsTableFault}
use Rattle.shop_text.specs.declared.faults.ReadFault.TheVariants.{BadTable}
use Rattle.shop_text.proofs.WrittenRows.{crossing, crossing_rows}

abbrev behind_instance : List ℕ → List ℕ
behind_instance schedule = codes "2 2\n0 3 1 2\n1 2 0 4\n" ++ schedule

-- ---- texts that give a table

plain : IsTable crossing (behind_instance (codes "job 0: 0 3\njob 1: 0 3\n")) crossing_rows
plain = record { short = omega arith; lines = refl; jobs = refl }

leading_zeros : IsTable crossing (behind_instance (codes "job 00: 0 3\njob 1: 0 3\n")) crossing_rows
leading_zeros = record { short = omega arith; lines = refl; jobs = refl }

other_words_are_skipped : IsTable crossing (behind_instance (codes
    "job0: 9 9\njob 0: 0 3\n\n 5 job\n\tjob  1: 00 3 \r\n")) crossing_rows
other_words_are_skipped = record { short = omega arith; lines = refl; jobs = refl }

the_latest_start : IsTable crossing (behind_instance (codes "job 0: 0 3\njob 1: 0 1000000000000000\n"))
    ((0 ∷ 3 ∷ []) ∷ (0 ∷ 1000000000000000 ∷ []) ∷ [])
the_latest_start = record { short = omega arith; lines = refl; jobs = refl }

-- the printed makespan isn't looked at
a_report : IsTable crossing (codes "instance 1\nsize 2 2\nmakespan 3\nbound 7\nstatus optimal\n"
    ++ codes "open 0\nrounds 1\nnodes 6\njob 0: 0 3\njob 1: 0 3\n") crossing_rows
a_report = record { short = omega arith; lines = refl; jobs = refl }

-- ---- faults

-- the counted lines before give these rows, and the next one is none of the job that waits
wrong_at : (text : List ℕ) (n : ℕ) (before : List (ℕ × Tokens)) (rows : List (List ℕ)) (line : Tokens)
    (later : List (ℕ × Tokens)) → length text ≤ 16777216 → counted_lines text ≡ before ++ (n, line) ∷ later
    → AreJobLines crossing before rows → row_in crossing (length before) line ≡ None
    → IsTableFault crossing text (BadTable n)
wrong_at text n before rows line later short cut good wrong = grind arith

abbrev tokens : List ℕ → List ℕ → Tokens
tokens label start = codes "job" ∷ label ∷ codes "0" ∷ start ∷ []

abbrev first_line : ℕ × Tokens
first_line = (4, tokens (codes "0:") (codes "3"))

abbrev second_line : ℕ × Tokens
second_line = (5, tokens (codes "1:") (codes "3"))

abbrev first_row : List (List ℕ)
first_row = (0 ∷ 3 ∷ []) ∷ []

too_late_a_start : IsTableFault crossing (behind_instance (codes "job 0: 0 3\njob 1: 0 1000000000000001\n"))
    (BadTable 5)
too_late_a_start = wrong_at _ 5 (first_line ∷ []) first_row (tokens (codes "1:") (codes "1000000000000001")) []
    (omega arith) refl refl refl

far_too_late_a_start : IsTableFault crossing (behind_instance (codes "job 0: 0 3\njob 1: 0 18446744073709551616\n"))
    (BadTable 5)
far_too_late_a_start = wrong_at _ 5 (first_line ∷ []) first_row (tokens (codes "1:") (codes "18446744073709551616")) []
    (omega arith) refl refl refl

a_space_before_the_colon : IsTableFault crossing (behind_instance (codes "job 0 : 0 3\njob 1: 0 3\n")) (BadTable 4)
a_space_before_the_colon = wrong_at _ 4 [] []
    (codes "job" ∷ codes "0" ∷ codes ":" ∷ codes "0" ∷ codes "3" ∷ []) (second_line ∷ []) (omega arith) refl refl refl

a_job_twice : IsTableFault crossing (behind_instance (codes "job 0: 0 3\njob 0: 0 3\n")) (BadTable 5)
a_job_twice = wrong_at _ 5 (first_line ∷ []) first_row (tokens (codes "0:") (codes "3")) [] (omega arith) refl refl refl

a_line_too_many : IsTableFault crossing (behind_instance (codes "job 0: 0 3\njob 1: 0 3\njob 2: 0\n")) (BadTable 6)
a_line_too_many = wrong_at _ 6 (first_line ∷ second_line ∷ []) crossing_rows
    (codes "job" ∷ codes "2:" ∷ codes "0" ∷ []) [] (omega arith) refl refl refl

a_start_is_missing : IsTableFault crossing (behind_instance (codes "job 0: 0 3\njob 1: 0\n")) (BadTable 5)
a_start_is_missing = wrong_at _ 5 (first_line ∷ []) first_row (codes "job" ∷ codes "1:" ∷ codes "0" ∷ []) []
    (omega arith) refl refl refl

a_line_is_missing : IsTableFault crossing (behind_instance (codes "job 0: 0 3\n")) (BadTable 5)
a_line_is_missing = inr (
  5,
  refl,
  omega arith,
  record {
    before = first_line ∷ [];
    rows = first_row;
    later = [];
    cut = refl;
    good = refl;
    wrong = (omega arith, refl);
  },
)
