use Rattle.std.proofs.Common.{length}
use Rattle.shop_text.{specs.{Formats.grammar_of, inner.LineReading.IsBehind}, proofs.Passing.IsBeforeHeader}
use Rattle.shop_text.proofs.instance_readers.from_first_header.Given as goal

abbrev pub invariant-loop-rest : goal.invariant-loop-rest
invariant-loop-rest l = record {
  before : IsBeforeHeader (grammar_of l.format) l.text l.number l.rest;
  behind : IsBehind l.text l.number l.rest;
}

abbrev pub decreases-loop-rest : goal.decreases-loop-rest
decreases-loop-rest l = length l.rest
