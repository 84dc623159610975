use Rattle.std.proofs.Common.{◌≡◌, take, drop}
use Rattle.shop_runs.specs.inner.Stores.{open_list, order_of}
use Rattle.shop_runs.proofs.open_nodes.OpenNodes.take.Given as goal

abbrev pub invariant-loop : goal.invariant-loop
invariant-loop l = record {
  order : order_of l.self ≡ order_of l.fn.self;
  taken : l.taken.items ≡ take l.counter (open_list l.fn.self);
  left : open_list l.self ≡ drop l.counter (open_list l.fn.self);
}
