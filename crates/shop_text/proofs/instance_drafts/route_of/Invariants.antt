use Rattle.std.proofs.Common.{◌≡◌, ◌*◌, ◌++◌, drop, vec_len}
use Rattle.shop_model.specs.Limits.{IsRouteWithin}
use Rattle.shop_text.specs.Formats.{pairs_fault, pairs_of}
use Rattle.shop_text.proofs.instance_drafts.route_of.Given as goal

abbrev pub invariant-loop-i : goal.invariant-loop-i
invariant-loop-i l = record {
  fault : pairs_fault l.machines (drop (2 * l.i) l.row) ≡ pairs_fault l.machines l.row;
  route : l.route.items ++ pairs_of (drop (2 * l.i) l.row) ≡ pairs_of l.row;
  within : IsRouteWithin l.machines l.route.items;
  len : vec_len l.route ≡ l.i;
}
