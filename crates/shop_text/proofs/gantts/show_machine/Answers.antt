use Rattle.std.proofs.Common.{◌<◌, add-one, arith, length}
use Rattle.shop_text.proofs.ServedJobs.{all_shown}
use Rattle.shop_text.proofs.gantts.show_machine.Goals as goal

pub loop-j-preserved : goal.loop-j-preserved
loop-j-preserved c column here =
    let before : column < length c.loop-j.cells = omega (arith, c.show_job.auto.cells)
    in rw (add-one c.loop-j.j, ← c.loop-j.invariant column before) (c.show_job.ensures column before)

pub returns : goal.returns
returns c = grind (arith, all_shown)
