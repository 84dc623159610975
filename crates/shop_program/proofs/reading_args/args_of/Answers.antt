use Rattle.std.proofs.{Common.{◌∙◌, ap, sym, codes, map}, lemmas.Result.err_from_is_err_and}
use Rattle.std.specs.Prelude.{Some, string_bytes}
use Rattle.clap.specs.Words.{found_of, rows_of}
use Rattle.shop_program.{specs.CommandLine.IsUnread, proofs.{Getters.unless, LineReads.{told, unread_of}}}
use Rattle.shop_program.proofs.{LineReads.{unread_without, untaken}, Refusals.no_command}
use Rattle.shop_program.proofs.reading_args.args_of.Goals as goal

pub returns-in-list : goal.returns-in-list
returns-in-list c =
    let read = told (map string_bytes c.args.words.now) c.in_ok-matches.matches c.in_ok-command.field-0 (codes "list")
    (rows_of (found_of c.in-Some.found.now)) c.list_args.result c.in_ok-command.ensures c.in_ok-matches.ensures.matches
    (ap Some (sym c.in-list.is) ∙ c.in-Some.ensures.name) c.in-Some.ensures.rows c.list_args.ensures in
    record { ok = read.0; err = read.1 }

pub returns-in-check : goal.returns-in-check
returns-in-check c =
    let read = told (map string_bytes c.args.words.now) c.in_ok-matches.matches c.in_ok-command.field-0 (codes "check")
    (rows_of (found_of c.in-Some.found.now)) c.check_args.result c.in_ok-command.ensures c.in_ok-matches.ensures.matches
    (ap Some (sym c.in-check.is) ∙ c.in-Some.ensures.name) c.in-Some.ensures.rows c.check_args.ensures in
    record { ok = read.0; err = read.1 }

pub returns-in-solve : goal.returns-in-solve
returns-in-solve c =
    let read = told (map string_bytes c.args.words.now) c.in_ok-matches.matches c.in_ok-command.field-0 (codes "solve")
    (rows_of (found_of c.in-Some.found.now)) c.solve_args.result c.in_ok-command.ensures c.in_ok-matches.ensures.matches
    (ap Some (sym c.in-solve.is) ∙ c.in-Some.ensures.name) c.in-Some.ensures.rows c.solve_args.ensures in
    record { ok = read.0; err = read.1 }

pub returns-in_err-matches-clause-err : goal.returns-in_err-matches-clause-err
returns-in_err-matches-clause-err c =
    let failed = err_from_is_err_and c.from_residual-in_err-matches.result c.from_residual-in_err-matches.ensures.1 in
    rw (failed.1, failed.2)
    (untaken (map string_bytes c.args.words.now) c.in_ok-command.field-0 c.in_err-matches.field-0.0
    c.in_ok-command.ensures c.in_err-matches.ensures.passes)

pub returns-in_default-clause-err : goal.returns-in_default-clause-err
returns-in_default-clause-err c =
    let words = map string_bytes c.args.words.now in
    unless (IsUnread words) c.misread.result
    (unread_without words c.in_ok-matches.matches c.in_ok-command.field-0 c.in_ok-command.ensures
    c.in_ok-matches.ensures.matches c.in_default.ensures.rows)

pub returns-clause-err : goal.returns-clause-err
returns-clause-err c =
    let words = map string_bytes c.args.words.now in
    let name = c.in-Some.name.now in
    let rows = rows_of (found_of c.in-Some.found.now) in
    let other = c.in_default-name in
    unless (IsUnread words) c.misread-in_default-name.result
    (unread_of words c.in_ok-matches.matches c.in_ok-command.field-0 name rows
    c.in_ok-command.ensures c.in_ok-matches.ensures.matches c.in-Some.ensures.name
    c.in-Some.ensures.rows (no_command name rows other.not-list other.not-check other.not-solve))
