use Rattle.std.proofs.{Common.{ℕ, ◌*◌, ◌==◌, ◌∙◌, List, ap, arith, drop, eqb, map, sym, take, w16}, lemmas.List.map-id}
use Rattle.std.proofs.lemmas.Simd.{bitmask_splat, length-chunk}
use lib.Lanes.{chunk, mask_l}
use Rattle.shop_lanes.{specs.Eights.is_between, proofs.VectorBits.bits_between_are}
use Rattle.shop_lanes.proofs.blocks_of_widths.Block16Block.pair_bits.Goals as goal

pub returns-then-equal : goal.returns-then-equal
returns-then-equal c =
    let row = c.args.row.now
    in rw c.if-equal.true (bitmask_splat w16 eqb (chunk (16 * c.args.pair) 16 row) 16 c.args.number
    (length-chunk (16 * c.args.pair) 16 row (omega arith)) (omega arith)
    ∙ ap (λ (xs : List ℕ). mask_l (map (λ x. x == c.args.number) (take 16 (drop (16 * c.args.pair) xs))))
    (sym (map-id row)))

pub returns-else-equal : goal.returns-else-equal
returns-else-equal c =
    let row = c.args.row.now
    in rw c.if-equal.false (bits_between_are w16 16 0 c.args.number (chunk (16 * c.args.pair) 16 row)
    (length-chunk (16 * c.args.pair) 16 row (omega arith)) (omega arith)
    ∙ ap (λ (xs : List ℕ). mask_l (map (is_between 0 c.args.number) (take 16 (drop (16 * c.args.pair) xs))))
    (sym (map-id row)))
