use Rattle.std.proofs.Common.{◌∙◌}
use Rattle.shop_lanes.proofs.Maxima.{behind_turned, turns_are}
use Rattle.shop_lanes.specs.declared.blocks.Move.TheVariants.{DownOne, DownTwo, DownFour}
use Rattle.shop_lanes.proofs.folds.greatest_behind.Goals as goal

pub returns : goal.returns
returns g c =
    let n = g.B.Block.numbers
    in turns_are DownOne DownTwo DownFour (n c.args.block) (n c.moved-ones.result) (n c.moved.result)
    (n c.greater-pairs.result) (n c.moved-2.result) (n c.greater-fours.result) (n c.moved-3.result)
    (n c.greater.result) c.moved-ones.ensures c.moved.ensures c.greater-pairs.ensures c.moved-2.ensures
    c.greater-fours.ensures c.moved-3.ensures c.greater.ensures
    ∙ behind_turned (n c.args.block) c.requires
