use Rattle.std.proofs.{Common.{◌∙◌, ap, arith, map, take}, lemmas.List.{length-map, length-take}}
use lib.Lanes.{mask_l}
use Rattle.shop_lanes.{specs.{Eights.is_between, Rows.blocks}, proofs.{Padding.marks_below, RowValues.values_of_blocks}}
use Rattle.shop_lanes.proofs.block_lanes.BlockLanesStateLanes.below.Goals as goal

pub returns : goal.returns
returns g c =
    let row = map g.B.Block.value (take c.args.self.now.positions c.args.self.now.row.items)
    in let within = c.requires.within
    in marks_below row c.args.from c.args.to c.args.limit c.saturating_sub.result c.bits_up_to.result c.new.result
    within c.requires.few c.saturating_sub.ensures c.new.ensures
    (c.bits_up_to.ensures ∙ ap (λ l. mask_l (map (is_between 0 c.saturating_sub.result) l))
    (ap (λ hs. map g.B.Block.value (blocks c.args.from c.args.to hs)) c.heads.ensures
    ∙ values_of_blocks g.B.Block.value (take c.args.self.now.positions c.args.self.now.row.items) c.args.from
    c.args.to))

pub overflow_mul-first : goal.overflow_mul-first
overflow_mul-first g c = grind (arith, length-map, length-take)

pub overflow_mul-end : goal.overflow_mul-end
overflow_mul-end g c = grind (arith, length-map, length-take)

pub offset_bounds-heads-first : goal.offset_bounds-heads-first
offset_bounds-heads-first g c = grind (arith, length-map)

pub slice_bounds-bits_up_to-end : goal.slice_bounds-bits_up_to-end
slice_bounds-bits_up_to-end g c = grind (arith, length-map)

pub new-requires : goal.new-requires
new-requires g c = grind (arith, length-map, length-take)
