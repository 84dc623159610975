use Rattle.std.proofs.Common.{◌∙◌, ◌≡◌, ◌/◌, length, ap, map, sym, arith}
use Rattle.shop_layout.proofs.{CellLemmas.cells_turn, SlotLists.items_read}
use Rattle.shop_layout.proofs.positions.cells_of.Goals as goal

pub add_blocks-requires : goal.add_blocks-requires
add_blocks-requires c = grind (arith, items_read)

pub overflow_cast-len : goal.overflow_cast-len
overflow_cast-len c = grind (arith, items_read)

pub loop-m-preserved : goal.loop-m-preserved
loop-m-preserved c =
    let last : c.len.result / 8 ≡ length c.add_blocks.new.slots.items / 8 =
    ap (λ n. n / 8) (c.len.ensures ∙ c.add_blocks.new.slots.ok.0)
    in cells_turn (map (λ v. v.items) c.args.lists.now) c.loop-m.m
    c.loop-m.slots.items c.loop-m.blocks.items c.loop-m.invariant c.requires.short c.as_slice-list.result.now
    (c.as_slice-list.ensures.value ∙ sym (items_read c.args.lists.now c.loop-m.m c.index-lists-m.result
    c.index-lists-m.result c.loop-m-test.true c.index-lists-m.is)) c.div_ceil.result c.div_ceil.ensures
    c.add_blocks.new.slots.items c.in_ok-add_blocks.ensures (c.len.result / 8) last
    c.push-in-loop-m.new.self.items c.in_ok-push-2.ensures.items

pub returns : goal.returns
returns c = grind arith

pub loop-m-init : goal.loop-m-init
loop-m-init c = grind arith
