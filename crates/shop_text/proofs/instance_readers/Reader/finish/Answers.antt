use Rattle.std.proofs.{Common.{◌≡◌, inl, length, sym, ◌∙◌, arith, vec_len}, lemmas.Bool.{eqb-true, eqb-false}}
use Rattle.shop_text.proofs.ReaderTurns.{all_read, none_read}
use Rattle.shop_text.proofs.instance_readers.Reader.finish.Goals as goal

pub returns-then-is_empty : goal.returns-then-is_empty
returns-then-is_empty c = λ lines read.
    let reader = c.args.self
    in let fresh = eqb-true reader.draft.jobs_wanted 0 (sym c.is_fresh.ensures ∙ c.if-not-is_fresh.false)
    in let none : length reader.named.items ≡ 0 =
    (let e = eqb-true (vec_len reader.named) 0 (sym c.is_empty.ensures ∙ c.if-is_empty.true)
    in omega (arith, reader.named.ok.0, e))
    in inl (none_read reader lines read fresh none)

pub returns : goal.returns
returns c = grind (arith, eqb-true, eqb-false, vec_len, all_read)
