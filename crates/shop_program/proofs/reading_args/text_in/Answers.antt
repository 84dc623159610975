use Rattle.std.{proofs.Common.{◌∙◌, ap}, specs.Prelude.{Some, None, string_bytes}}
use Rattle.clap.specs.Words.{found_of}
use Rattle.shop_program.proofs.Getters.{may_have}
use Rattle.shop_program.proofs.reading_args.text_in.Goals as goal

pub returns-in_ok-to_string-in-Some : goal.returns-in_ok-to_string-in-Some
returns-in_ok-to_string-in-Some c = may_have (found_of c.args.found.now) c.args.id.now (Some (string_bytes
    c.in_ok-to_string-in-Some.field-0)) (ap Some c.in_ok-to_string-in-Some.ensures.ok ∙ c.in-Some.ensures)

pub returns-in-None : goal.returns-in-None
returns-in-None c = may_have (found_of c.args.found.now) c.args.id.now None c.in-None.ensures
