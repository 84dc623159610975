use Rattle.std.proofs.Common.{◌≡◌}
use Rattle.shop_layout.specs.Legs.{leg_index}
use Rattle.shop_states.proofs.PlacedNexts.{AreBegun}
use Rattle.shop_states.proofs.placing.place_none.Given as goal

abbrev pub invariant-loop-job : goal.invariant-loop-job
invariant-loop-job g l = record {
  begun : AreBegun l.laid_out.shop l.laid_out.layout l.job l.next_legs l.ready;
  first_is : l.first ≡ leg_index l.laid_out.layout l.job 0;
}
