use Rattle.std.proofs.Common.{rules, ◌∙◌, Some, refl, sym}
use Rattle.shop_text.proofs.{Headers.header_utf8, ReaderTurns.{words_read, no_header, one_header}}
use Rattle.shop_text.proofs.instance_readers.Reader.take_words.Goals as goal

pub returns-in_ok-from_utf8_lossy : goal.returns-in_ok-from_utf8_lossy
returns-in_ok-from_utf8_lossy c = λ front words read header.
    let reader = c.args.self.now
    in let name = c.in_ok-from_utf8_lossy.field-0
    in let bytes = c.in-Some.name.now
    in let given = rw c.in-Some.is at header
    in let same = c.in_ok-from_utf8_lossy.ensures.ok (header_utf8 reader.format words bytes given)
    in (
      refl,
      words_read reader (Some name) c.args.line words front read
          (sym (c.skips_text.ensures _ read.draft_holds) ∙ c.if-not-skips_text.false)
          (one_header reader c.args.line words front read bytes name given same),
    )

pub returns-in_default : goal.returns-in_default
returns-in_default c = λ front words read header.
    let reader = c.args.self.now
    in let none = rw c.in_default.is at header
    in (
      refl,
      words_read reader reader.name c.args.line words front read
          (sym (c.skips_text.ensures _ read.draft_holds) ∙ c.if-not-skips_text.false)
          (no_header reader c.args.line words front read none),
    )

pub returns-then-not-skips_text : goal.returns-then-not-skips_text
returns-then-not-skips_text c = search rules
