use Rattle.shop_layout.specs.Positions.{AreMachinesOf}
use Rattle.shop_layout.proofs.positions.machines_of.Given as goal

abbrev pub invariant-loop-machine : goal.invariant-loop-machine
invariant-loop-machine l = AreMachinesOf l.blocks l.machine l.machines.items
