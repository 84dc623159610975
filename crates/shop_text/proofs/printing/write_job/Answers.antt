use Rattle.std.proofs.{Common.{◌≡◌, ◌++◌, ◌∷◌, [], ℕ, List, string_bytes, arith}, lemmas.List.{append_assoc, take_all}}
use Rattle.std.{proofs.lemmas.Grind.common_steps, specs.{Prelude.{flat_map, codes}, Fmt.decimal}}
use Rattle.shop_text.{specs.Writing.{printed_line, job_line}, proofs.TextLemmas.{written, job_line_is}}
use Rattle.shop_text.proofs.printing.write_job.Goals as goal

line_at : (old : List ℕ) (j : ℕ) (starts : List ℕ)
    → ((old ++ (codes "job " ++ (decimal j ++ codes ":"))) ++ flat_map (λ start. 32 ∷ decimal start) starts) ++ 10 ∷ []
    ≡ old ++ printed_line (job_line j starts)
line_at old j starts = grind (arith, append_assoc, job_line_is)

pub returns : goal.returns
returns c = grind (arith, string_bytes, written, take_all, line_at)

pub loop-start-preserved : goal.loop-start-preserved
loop-start-preserved c = grind (arith, common_steps)
