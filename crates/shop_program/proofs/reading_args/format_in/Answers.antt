use Rattle.std.proofs.Common.{codes, sym}
use Rattle.clap.specs.Words.{found_of, rows_of}
use Rattle.shop_text.specs.{declared.formats.Format.Format, Formats.word_of}
use Rattle.shop_program.{specs.CommandLine.HasText, proofs.Getters.{has_text, unless, no_value, other_value, or_unread}}
use Rattle.shop_program.proofs.reading_args.format_in.Goals as goal

pub returns-in_default : goal.returns-in_default
returns-in_default c =
    unless ((format : Format) → HasText (rows_of (found_of c.args.found.now)) (codes "format") (word_of format) → ⊥)
    c.misread.result (λ format has. no_value (found_of c.args.found.now) (codes "format") (word_of format)
    (sym c.in_default.ensures) has)

pub returns : goal.returns
returns c =
    let found = found_of c.args.found.now in
    let word = c.in-Some.word.now in
    or_unread (λ (format : Format). HasText (rows_of found) (codes "format") (word_of format)) c.of_word.result
    c.ok_or_else.result c.ok_or_else.ensures.variant (λ format is. rw is at c.ok_or_else.ensures.cases)
    (λ format is. has_text found (codes "format") word (word_of format) c.in-Some.ensures
    (sym (rw is at c.of_word.ensures)))
    (λ none format has. other_value found (codes "format") word (word_of format) (sym c.in-Some.ensures)
    (λ e. (rw none at c.of_word.ensures) format (sym e)) has)
