use Rattle.std.{proofs.Common.{◌≡◌, ◌*◌, ◌≤◌, length, vec_len}, specs.Prelude.{flat_map, replicate}}
use Rattle.std.specs.List.{range_with_len}
use Rattle.shop_model.specs.Shop.{route_of}
use Rattle.shop_model.proofs.words.start_word.Given as goal

abbrev pub invariant-loop-j : goal.invariant-loop-j
invariant-loop-j l = record {
  so_far : l.entries.items ≡ flat_map (λ i. replicate (length (route_of l.instance i)) i) (range_with_len 0 l.j);
  small : vec_len l.entries ≤ l.j * 100;
}
