use Rattle.std.proofs.Common.{◌≡◌, ◌-◌, ◌*◌, ◌++◌, true, length, drop}
use Rattle.shop_runs.specs.{Round.cut_into, Nodes.numbered, inner.{NodeLists.nodes_in, Stores.{open_list, order_of}}}
use Rattle.shop_runs.proofs.rounds.cut_pieces.Given as goal

abbrev pub invariant-loop-number : goal.invariant-loop-number
invariant-loop-number l = record {
  many : length l.pieces.items ≡ l.number;
  numbers : numbered 0 l.pieces.items ≡ true;
  nodes : nodes_in l.pieces.items ++ cut_into (256 - l.number) l.size (open_list l.store)
      ≡ cut_into 256 l.size (open_list l.fn.store);
  left : open_list l.store ≡ drop (l.number * l.size) (open_list l.fn.store);
  order : order_of l.store ≡ order_of l.fn.store;
}
