use Rattle.std.{proofs.Common.{◌≡◌, ◌*◌, ◌<◌, ◌≤◌, length}, specs.Prelude.{sum_by, take}}
use Rattle.shop_model.proofs.instances.Instance.operations.Given as goal

abbrev pub invariant-loop-j : goal.invariant-loop-j
invariant-loop-j l = record {
  so_far : l.count ≡ sum_by (λ job. length job.route) (take l.j l.self.jobs);
  small : l.count ≤ l.j * 100;
  few : 0 < l.j → length l.self.jobs ≤ 1000;
}
