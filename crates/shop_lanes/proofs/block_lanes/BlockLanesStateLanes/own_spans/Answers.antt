use Rattle.std.proofs.{Common.{ap, arith, map}, lemmas.{Grind.common_steps, List.length-map}}
use Rattle.shop_lanes.proofs.{OwnRows.owns_of_cut, RowValues.{lanes_of_cut, long_cut}}
use Rattle.shop_lanes.proofs.block_lanes.BlockLanesStateLanes.own_spans.Goals as goal

pub own_spans-requires : goal.own_spans-requires
own_spans-requires g c = grind (arith, long_cut, lanes_of_cut)

pub returns-clause-owns : goal.returns-clause-owns
returns-clause-owns g c = owns_of_cut g.B.Block.value c.blocks-2.ensures c.rows.ensures.heads
    (ap (map g.B.Block.value) c.rows.ensures.times) (ap (map g.B.Block.value) c.rows.ensures.tails) c.requires.blocks
    c.own_spans.new.owns c.own_spans.ensures.owns

pub blocks-requires-clause-within : goal.blocks-requires-clause-within
blocks-requires-clause-within g c = grind (arith, length-map)

pub rows-requires : goal.rows-requires
rows-requires g c = grind (arith, common_steps)
