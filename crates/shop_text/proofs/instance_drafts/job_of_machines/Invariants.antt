use Rattle.std.{proofs.Common.{◌≡◌, ◌++◌, drop, vec_len, map}, specs.List.{list_all, zip}}
use Rattle.shop_model.specs.Limits.{IsRouteWithin}
use Rattle.shop_text.specs.Formats.{is_between, taillard_op}
use Rattle.shop_text.proofs.instance_drafts.job_of_machines.Given as goal

abbrev pub invariant-loop-i : goal.invariant-loop-i
invariant-loop-i l = record {
  fault : list_all (λ n. is_between 1 l.machines n) (drop l.i l.row) ≡ list_all (λ n. is_between 1 l.machines n) l.row;
  route : l.route.items ++ map taillard_op (zip (drop l.i l.times) (drop l.i l.row))
      ≡ map taillard_op (zip l.times l.row);
  within : IsRouteWithin l.machines l.route.items;
  len : vec_len l.route ≡ l.i;
}
