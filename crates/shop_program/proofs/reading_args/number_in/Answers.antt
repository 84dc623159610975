use Rattle.std.proofs.Common.{ℕ, ◌<◌, ◌^◌}
use Rattle.clap.specs.Words.{found_of, rows_of}
use Rattle.shop_program.{specs.CommandLine.HasNumber, proofs.Getters.{has_number, unless, no_number}}
use Rattle.shop_program.proofs.reading_args.number_in.Goals as goal

pub returns-in-Some-clause-ok : goal.returns-in-Some-clause-ok
returns-in-Some-clause-ok c =
    has_number (found_of c.args.found.now) c.args.id.now c.in-Some.number c.in-Some.ensures.none
    (λ t e. let read = c.in-Some.ensures.value t e in (read.0.0.0, read.0.1))

pub returns-in-None-clause-err : goal.returns-in-None-clause-err
returns-in-None-clause-err c =
    unless ((n : ℕ) → n < 2 ^ 64 → HasNumber (rows_of (found_of c.args.found.now)) c.args.id.now n → ⊥)
    c.misread.result (λ n fits has. no_number (found_of c.args.found.now) c.args.id.now n
    (λ t e. (c.in-None.ensures.value t e).1.0) fits has)
