use Rattle.std.proofs.Common.{◌≡◌, ◌-◌, length, subst, refl, arith}
use Rattle.shop_layout.{specs.Positions.AreMachinesOf, proofs.LaidLists.machines_turn}
use Rattle.shop_layout.proofs.positions.machines_of.Goals as goal

pub loop-machine-preserved : goal.loop-machine-preserved
loop-machine-preserved c =
    let here = c.loop-machine-test.true
    in let old = c.loop-machine.machines.ok.0
    in let new = c.resize.new.self.ok.0
    in let long = c.in_ok-resize.ensures.len
    in machines_turn c.args.blocks.now c.loop-machine.machine c.loop-machine.machines.items c.resize.new.self.items
    _ c.loop-machine.invariant refl (c.requires.ordered c.loop-machine.machine (omega arith))
    (λ m below. c.requires.ordered m (omega arith)) (omega arith)
    (λ k d a b. c.in_ok-resize.ensures.by_index.0 k d a (omega arith))
    (λ k d a b. c.in_ok-resize.ensures.by_index.1 k d refl (omega arith) b)

pub returns : goal.returns
returns c =
    let all : c.loop-machine.machine ≡ length c.args.blocks.now - 1 = omega arith
    in subst (λ n. AreMachinesOf c.args.blocks.now n c.loop-machine.machines.items) all c.loop-machine.invariant
