use Rattle.std.proofs.{Common.{◌∙◌, ◌++◌, sym, ap, length, drop, arith, take}, lemmas.List.{length-map, length-take-le}}
use Rattle.shop_lanes.proofs.EmptyRows.{is_empty, is_cleared}
use Rattle.shop_lanes.proofs.block_lanes.BlockLanesStateLanes.clear.Goals as goal

pub invariant_of-self : goal.invariant_of-self
invariant_of-self g c =
    let self = c.args.self.now
    in let made = c.clear_row.new.row
    in let rest = drop (length made) self.row.items
    in let empty = is_empty g.B.Block.value g.B.Block.GREATEST self.positions self.jobs
    (take self.row.len (made ++ rest)) (is_cleared g.B.Block.value g.B.Block.GREATEST self.positions self.jobs
    self.row.len (length c.deref_mut.result.now) made rest (ap length c.deref_mut.ensures.value ∙ self.long)
    (sym c.deref_mut.ensures.len) c.clear_row.ensures)
    in record {
      room = (let a = empty.long in let b = self.long in let d = self.room in omega arith);
      long = empty.long;
      greatest_behind = empty.behind;
      ends_are_padded = empty.padded;
    }

pub returns : goal.returns
returns g c = grind (arith, is_empty, is_cleared, length-map, length-take-le)
