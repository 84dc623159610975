use Rattle.std.proofs.Common.{◌≡◌, ◌+◌, String, Global, length, refl, string_bytes, arith}
use Rattle.std.{proofs.lemmas.Result.err_from_is_err_and, specs.Fmt.decimal}
use Rattle.shop_text.specs.{inner.InstanceReading.name_or, declared.instance_readers.Reader.Reader}
use Rattle.shop_text.proofs.ReaderTurns.{row_read, part_read, row_refused}
use Rattle.shop_text.proofs.instance_readers.Reader.take_numbers.Goals as goal
use Rattle.shop_text.proofs.instance_readers.Reader.take_numbers.Goals.{in-Some-take, in-None+in_ok-name-in-None}

pub returns-in_err-instance : goal.returns-in_err-instance
returns-in_err-instance c =
    let p = err_from_is_err_and c.from_residual.result c.from_residual.ensures.1
    in rw (p.1, p.2) (λ front written read numbers.
    row_refused c.args.self.now c.args.line written front read c.in_err-instance.field-0.0
    (c.in_err-instance.ensures _ written read.draft_holds numbers))

pub returns-in_ok-push : goal.returns-in_ok-push
returns-in_ok-push c = λ front written read numbers.
    let reader = c.args.self.now
    in let name : String Global = c.match-take.name
    in let later : Reader =
    record {
      format = reader.format;
      named = c.push.new.self;
      name = c.take.new.self;
      draft
          = c.take_row.new.self;
    }
    in let taken = c.in_ok-instance.ensures _ written read.draft_holds numbers
    in let last = rw c.in-Some.is at taken
    in let named : string_bytes name ≡ name_or (decimal (length reader.named.items + 1)) reader.name =
    elim c.match-take.branch [
      | in-Some-take w ↦ grind arith
      | in-None+in_ok-name-in-None w ↦ grind (arith, reader.named.ok.0)
    ]
    in (
      refl,
      part_read reader later c.in-Some.instance name c.args.line written front read last named
          c.in_ok-push.ensures.items c.take.ensures.after,
    )

pub returns-in_default : goal.returns-in_default
returns-in_default c = grind (arith, row_read)
