use Rattle.std.proofs.{lemmas.List.length-map, Common.{◌≡◌, ℕ, List, max, ◌∙◌, ◌-◌, ap, sym, length, arith}}
use Rattle.shop_lanes.proofs.{BlockMasks.length-block, ColumnTurns.columns_in, OwnColumns.{begins_fit, ends_fit}}
use Rattle.shop_lanes.proofs.OwnColumns.{tails_fit, own_eight, late_eight, served_eight, back_more, noted_fit}
use Rattle.shop_lanes.{proofs.OwnColumns.{begun_long, heads_eight_long, rest_long}, specs.Eights.{added, lessened}}
use lib.Lanes.{zip2}
use Rattle.shop_lanes.proofs.owning.write_back.Goals as goal

-- the own spans of a block, by the two sums and the greater number that make them
own_told : (heads times behind first : List ℕ) {begun less rest own : List ℕ} → begun ≡ added heads times
    → less ≡ lessened behind times → rest ≡ zip2 max first less → own ≡ added begun rest
    → own ≡ added (added heads times) (zip2 max first (lessened behind times))
own_told heads times behind first a b d e = grind arith

pub sum-requires : goal.sum-requires
sum-requires g c =
    let cols = columns_in g.B.Block.value c.args.rows.now c.args.count c.requires.count c.requires.can.whole_blocks
    in noted_fit cols c.requires.can.fits (c.loop-block.block - 1)
    (omega (arith, c.loop-block-test.true)) c.loop-block.invariant c.read-head.ensures c.read-time.ensures
    c.read-tail.ensures c.read-noted.ensures c.splat-one.ensures c.requires.ends.begins c.requires.ends.before

pub greater-first-requires : goal.greater-first-requires
greater-first-requires g c =
    let cols = columns_in g.B.Block.value c.args.rows.now c.args.count c.requires.count c.requires.can.whole_blocks
    in ap length c.requires.ends.before ∙ sym (begun_long cols c.requires.can.fits (c.loop-block.block - 1)
    (omega (arith, c.loop-block-test.true)) c.loop-block.invariant c.read-head.ensures c.read-time.ensures
    c.read-tail.ensures c.read-noted.ensures c.splat-one.ensures c.requires.ends.begins c.requires.ends.before
    c.sum.ensures)

pub sum-requires-in-loop-block : goal.sum-requires-in-loop-block
sum-requires-in-loop-block g c =
    let cols = columns_in g.B.Block.value c.args.rows.now c.args.count c.requires.count c.requires.can.whole_blocks
    in begins_fit cols c.requires.can.fits (c.loop-block.block - 1) (omega (arith, c.loop-block-test.true))
    c.loop-block.invariant c.read-head.ensures c.read-time.ensures c.read-tail.ensures c.read-noted.ensures
    c.splat-one.ensures c.requires.ends.begins c.requires.ends.before c.sum.ensures c.greater-first.ensures

pub sum-requires-in-loop-block-2 : goal.sum-requires-in-loop-block-2
sum-requires-in-loop-block-2 g c =
    let cols = columns_in g.B.Block.value c.args.rows.now c.args.count c.requires.count c.requires.can.whole_blocks
    in rw (c.sum-in-loop-block.ensures, c.greater-rest.ensures, c.difference.ensures)
    (ends_fit cols c.requires.can.fits (c.loop-block.block - 1) (omega (arith, c.loop-block-test.true))
    c.loop-block.invariant c.read-head.ensures c.read-time.ensures c.read-tail.ensures c.read-noted.ensures
    c.splat-one.ensures c.requires.ends.begins c.requires.ends.before c.sum.ensures c.greater-first.ensures)

pub store-requires-clause-eight : goal.store-requires-clause-eight
store-requires-clause-eight g c =
    let cols = columns_in g.B.Block.value c.args.rows.now c.args.count c.requires.count c.requires.can.whole_blocks
    in ap length (own_eight cols c.requires.can.fits (c.loop-block.block - 1)
    (omega (arith, c.loop-block-test.true)) c.loop-block.invariant c.read-head.ensures c.read-time.ensures
    c.read-tail.ensures c.read-noted.ensures c.splat-one.ensures c.requires.ends.begins c.requires.ends.before
    c.sum.ensures c.greater-first.ensures
    (own_told _ _ _ _ c.sum-in-loop-block.ensures c.difference.ensures c.greater-rest.ensures
    c.sum-in-loop-block-2.ensures))

pub sum-late-requires : goal.sum-late-requires
sum-late-requires g c =
    let cols = columns_in g.B.Block.value c.args.rows.now c.args.count c.requires.count c.requires.can.whole_blocks
    in tails_fit cols c.requires.can.fits (c.loop-block.block - 1)
    (omega (arith, c.loop-block-test.true)) c.loop-block.invariant c.read-head.ensures c.read-time.ensures
    c.read-tail.ensures c.read-noted.ensures c.splat-one.ensures c.requires.ends.begins c.requires.ends.before
    c.sum.ensures c.greater-first.ensures c.waiting.ensures

pub greater-behind-requires : goal.greater-behind-requires
greater-behind-requires g c =
    let cols = columns_in g.B.Block.value c.args.rows.now c.args.count c.requires.count c.requires.can.whole_blocks
    in c.loop-block.invariant.behind_long ∙ sym (ap length (late_eight cols c.requires.can.fits (c.loop-block.block - 1)
    (omega (arith, c.loop-block-test.true)) c.loop-block.invariant c.read-head.ensures c.read-time.ensures
    c.read-tail.ensures c.read-noted.ensures c.splat-one.ensures c.requires.ends.begins c.requires.ends.before
    c.sum.ensures c.greater-first.ensures c.waiting.ensures c.sum-late.ensures))

pub difference-clocks-requires : goal.difference-clocks-requires
difference-clocks-requires g c =
    let cols = columns_in g.B.Block.value c.args.rows.now c.args.count c.requires.count c.requires.can.whole_blocks
    in ap length c.loop-block.invariant.clocks_are ∙ sym (ap length
    (served_eight cols c.requires.can.fits (c.loop-block.block - 1) (omega (arith, c.loop-block-test.true))
    c.loop-block.invariant c.read-head.ensures c.read-time.ensures c.read-tail.ensures c.read-noted.ensures
    c.splat-one.ensures c.requires.ends.begins c.requires.ends.before c.sum.ensures c.greater-first.ensures
    c.waiting-in-loop-block.ensures))

pub loop-block-preserved : goal.loop-block-preserved
loop-block-preserved g c =
    let cols = columns_in g.B.Block.value c.args.rows.now c.args.count c.requires.count c.requires.can.whole_blocks
    in back_more cols c.requires.can.fits (c.loop-block.block - 1) (omega (arith, c.loop-block-test.true))
    c.loop-block.invariant c.read-head.ensures c.read-time.ensures c.read-tail.ensures c.read-noted.ensures
    c.splat-one.ensures c.requires.ends.begins c.requires.ends.before c.sum.ensures c.greater-first.ensures
    (own_told _ _ _ _ c.sum-in-loop-block.ensures c.difference.ensures c.greater-rest.ensures
    c.sum-in-loop-block-2.ensures)
    c.waiting.ensures c.sum-late.ensures c.waiting-in-loop-block.ensures c.store.ensures c.greater-behind.ensures
    c.difference-clocks.ensures

pub greater-rest-requires : goal.greater-rest-requires
greater-rest-requires g c =
    let cols = columns_in g.B.Block.value c.args.rows.now c.args.count c.requires.count c.requires.can.whole_blocks
    in rest_long cols c.requires.can.fits (c.loop-block.block - 1) (omega (arith, c.loop-block-test.true))
    c.loop-block.invariant c.read-head.ensures c.read-time.ensures c.read-tail.ensures c.read-noted.ensures
    c.splat-one.ensures c.requires.ends.begins c.requires.ends.before c.sum.ensures c.greater-first.ensures
    c.difference.ensures

pub waiting-requires-in-loop-block-clause-heads : goal.waiting-requires-in-loop-block-clause-heads
waiting-requires-in-loop-block-clause-heads g c =
    let cols = columns_in g.B.Block.value c.args.rows.now c.args.count c.requires.count c.requires.can.whole_blocks
    in heads_eight_long cols c.requires.can.fits (c.loop-block.block - 1)
    (omega (arith, c.loop-block-test.true)) c.loop-block.invariant c.read-head.ensures c.read-time.ensures
    c.read-tail.ensures c.read-noted.ensures c.splat-one.ensures c.requires.ends.begins c.requires.ends.before

pub waiting-requires-clause-heads : goal.waiting-requires-clause-heads
waiting-requires-clause-heads g c = grind (arith, length-map, length-block)

pub difference-requires : goal.difference-requires
difference-requires g c = grind (arith, length-map, length-block)

pub loop-block-init : goal.loop-block-init
loop-block-init g c = grind (arith, length-map, length-block)
