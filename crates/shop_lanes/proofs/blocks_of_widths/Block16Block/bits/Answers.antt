use Rattle.std.proofs.{Common.{arith, w16, eqb}, lemmas.Simd.bitmask_splat}
use Rattle.shop_lanes.proofs.VectorBits.{bits_between_are}
use Rattle.shop_lanes.proofs.blocks_of_widths.Block16Block.bits.Goals as goal

pub returns-then-equal : goal.returns-then-equal
returns-then-equal c = rw c.if-equal.true (bitmask_splat w16 eqb c.args.block.0 8 c.args.number c.requires.eight
    (omega arith))

pub returns-else-equal : goal.returns-else-equal
returns-else-equal c = rw c.if-equal.false (bits_between_are w16 8 0 c.args.number
    c.args.block.0 c.requires.eight (omega arith))
