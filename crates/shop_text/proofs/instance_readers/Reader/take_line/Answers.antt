use Rattle.std.proofs.{Common.{◌≡◌, sym, ap, ◌∙◌, subst, refl, [], Some, None, arith, vec_len}, lemmas.List.append-nil}
use Rattle.std.proofs.lemmas.Bool.{eqb-true, eqb-false}
use Rattle.shop_text.specs.{Lines.{tokens_of, is_number, value_of}, inner.LineReading.{capped, with_tokens}}
use Rattle.shop_text.specs.{inner.InstanceReading.IsReadUpTo, declared.instance_readers.Reader.Reader}
use Rattle.shop_text.proofs.Seeing.{at_word, is_words, is_blank, is_numbers, no_number, none_of}
use Rattle.shop_text.proofs.instance_readers.Reader.take_line.Goals as goal

pub returns-in_default-number : goal.returns-in_default-number
returns-in_default-number c = λ front read.
    let cut = c.in-Some.ensures.cut
    in let same = sym c.loop-number.invariant.same
    in let none = no_number (is_number cut.0) (capped (value_of cut.0)) c.in-Some.number cut.2
    c.in_default-number.not-Some
    in let stops : with_tokens [] (tokens_of c.args.bytes.now) ≡ None = sym c.loop-number.invariant.left
    ∙ ap (with_tokens c.loop-number.numbers.items) cut.1
    ∙ at_word c.loop-number.numbers.items cut.0 (tokens_of c.in-Some.after.now) none
    in let e = is_words (tokens_of c.args.bytes.now) stops
    in let held = subst (λ (reader : Reader). IsReadUpTo reader front) same read
    in rw (e, same) (c.take_words.ensures front (tokens_of c.args.bytes.now) held c.header_in.ensures)

pub returns-then-is_empty : goal.returns-then-is_empty
returns-then-is_empty c = λ front read.
    let all : with_tokens [] (tokens_of c.args.bytes.now) ≡ Some c.loop-number.numbers.items = grind (arith, none_of)
    in let e = is_blank (tokens_of c.args.bytes.now) c.loop-number.numbers.items all (grind (arith, vec_len, eqb-true))
    in rw (e, append-nil front, c.loop-number.invariant.same) (refl, read)

pub returns : goal.returns
returns c = λ front read.
    let same = sym c.loop-number.invariant.same
    in let all : with_tokens [] (tokens_of c.args.bytes.now) ≡ Some c.loop-number.numbers.items = grind (arith, none_of)
    in let row = is_numbers (tokens_of c.args.bytes.now) c.loop-number.numbers.items all
    (grind (arith, vec_len, eqb-false))
    in let held = subst (λ (reader : Reader). IsReadUpTo reader front) same read
    in rw (row.1, same) (c.take_numbers.ensures front row.0 held (c.as_slice.ensures.value ∙ row.2))
