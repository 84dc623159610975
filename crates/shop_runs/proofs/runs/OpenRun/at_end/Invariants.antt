use Rattle.std.specs.Prelude.{◌≡◌, IfSome}
use Rattle.shop_runs.{specs.Plans.planned, proofs.Ways.OnTheWay}
use Rattle.shop_runs.proofs.runs.OpenRun.at_end.Given as goal

abbrev pub invariant-loop-done : goal.invariant-loop-done
invariant-loop-done g l = record {
  way : OnTheWay l.instance (planned l.plan) l.done l.run;
  layout : IfSome l.layout (λ laid. laid.asked ≡ l.instance);
}
