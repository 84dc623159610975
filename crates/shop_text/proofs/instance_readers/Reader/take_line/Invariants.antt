use Rattle.std.proofs.Common.{◌≡◌, [], length}
use Rattle.shop_text.specs.{Lines.tokens_of, inner.LineReading.with_tokens}
use Rattle.shop_text.proofs.instance_readers.Reader.take_line.Given as goal

abbrev pub invariant-loop-number : goal.invariant-loop-number
invariant-loop-number l = record {
  same : l.self ≡ l.initial.self;
  left : with_tokens l.numbers.items (tokens_of l.rest) ≡ with_tokens [] (tokens_of l.bytes);
}

abbrev pub decreases-loop-number : goal.decreases-loop-number
decreases-loop-number l = length l.rest
