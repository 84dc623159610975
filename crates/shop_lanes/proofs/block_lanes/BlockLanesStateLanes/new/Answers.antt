use Rattle.std.proofs.Common.{arith}
use Rattle.shop_lanes.proofs.EmptyRows.{is_empty}
use Rattle.shop_lanes.proofs.block_lanes.BlockLanesStateLanes.new.Goals as goal

pub returns-clause-heads : goal.returns-clause-heads
returns-clause-heads g c = grind (arith, is_empty)

pub returns-clause-ends : goal.returns-clause-ends
returns-clause-ends g c = grind (arith, is_empty)

pub invariant_of-result : goal.invariant_of-result
invariant_of-result g c =
    let empty = is_empty g.B.Block.value g.B.Block.GREATEST c.args.positions c.args.jobs
    c.in_ok-empty_row.field-0.items c.in_ok-empty_row.ensures.empty
    in record {
      room = c.in_ok-empty_row.ensures.room;
      long = empty.long;
      greatest_behind = empty.behind;
      ends_are_padded = empty.padded;
    }
