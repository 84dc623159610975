use Rattle.std.{proofs.Common.{◌≡◌, List, ℕ, ◌++◌, length}, specs.Io.KnownBytes.Appends}
use Rattle.shop_engine.specs.Devices.{HasWorked}
use Rattle.shop_engine.proofs.devices.write_all.Given as goal

abbrev pub invariant-loop-rest : goal.invariant-loop-rest
invariant-loop-rest g l = record {
  gone : List ℕ;
  cut : l.text ≡ gone ++ l.rest;
  took : Appends (g.K.Sink.device l.initial.sink).bytes (g.K.Sink.device l.sink).bytes gone;
  worked : HasWorked (g.K.Sink.device l.initial.sink) (g.K.Sink.device l.sink);
}

abbrev pub decreases-loop-rest : goal.decreases-loop-rest
decreases-loop-rest g l = length l.rest
