use Rattle.std.{proofs.Common.{◌≤◌, ◌-◌, length}, specs.Io.KnownBytes.Consumes}
use Rattle.shop_engine.specs.Devices.{HasWorked, GoesOn}
use Rattle.shop_engine.proofs.devices.read_all.Given as goal

abbrev pub invariant-loop-buffer : goal.invariant-loop-buffer
invariant-loop-buffer g l = record {
  most : length l.text.items ≤ 16777217;
  taken : Consumes (g.S.Source.device l.initial.source).bytes (g.S.Source.device l.source).bytes l.text.items;
  untold : GoesOn (g.S.Source.device l.initial.source) (g.S.Source.device l.source);
  worked : HasWorked (g.S.Source.device l.initial.source) (g.S.Source.device l.source);
}

abbrev pub decreases-loop-buffer : goal.decreases-loop-buffer
decreases-loop-buffer g l = 16777217 - length l.text.items
