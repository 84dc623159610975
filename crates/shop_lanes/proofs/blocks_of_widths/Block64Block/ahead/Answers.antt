use Rattle.std.proofs.{Common.{ℕ, ◌-◌, ◌*◌, ◌^◌, ◌∙◌, List, ap, arith, drop, map, sym, take, w64}, lemmas.List.map-id}
use Rattle.std.proofs.lemmas.Simd.{below_from_Fits, chunk-fits, length-chunk}
use lib.Lanes.{chunk}
use Rattle.shop_lanes.{specs.Eights.{ahead_of, first_of}, proofs.Comparisons.ahead_told_is}
use Rattle.shop_lanes.proofs.blocks_of_widths.Block64Block.ahead.Goals as goal

pub returns : goal.returns
returns c =
    let row = c.args.row.now
    in let from = first_of c.args.from.0
    in ahead_told_is (2 ^ 64) (chunk (8 * c.args.block) 8 row) c.args.from.0
    (length-chunk (8 * c.args.block) 8 row (omega arith)) c.requires.from (omega arith)
    (below_from_Fits w64 (chunk (8 * c.args.block) 8 row) (chunk-fits w64 (8 * c.args.block) 8 row c.type_inv.row))
    ∙ ap (λ (xs : List ℕ). map (ahead_of (2 ^ 64 - 1) from) (take 8 (drop (8 * c.args.block) xs))) (sym (map-id row))
