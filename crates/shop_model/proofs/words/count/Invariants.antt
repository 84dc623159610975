use Rattle.std.proofs.Common.{◌≡◌, ◌≤◌, take}
use Rattle.shop_model.specs.Word.{count_of}
use Rattle.shop_model.proofs.words.count.Given as goal

abbrev pub invariant-loop-index : goal.invariant-loop-index
invariant-loop-index l = record {
  so_far : l.count ≡ count_of l.job (take l.index l.word);
  few : l.count ≤ l.index;
}
