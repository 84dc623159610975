use Rattle.std.proofs.{lemmas.List.Sorted.All-permutation, Common.arith}
use Rattle.shop_model.specs.inner.{Intervals.intervals_of, ClearIntervals.ArePartedIntervals}
use Rattle.shop_model.proofs.{SwappedPairs.AllPairs-permutation, IntervalLemmas.{IsForward, parted_both_ways}}
use Rattle.shop_model.proofs.IntervalLemmas.{parted_pairs, apart_from_pairs, intervals_forward}
use Rattle.shop_model.proofs.ClearIntervalLemmas.{AreClearPair, clear_both_ways, clear_pairs, apart_from_clear}
use Rattle.shop_model.proofs.sorted_overlaps.first_overlap_sorted.Goals as goal

pub returns-then-are_in_turn : goal.returns-then-are_in_turn
returns-then-are_in_turn c =
    let shop = c.args.instance.now
    in let rows = c.args.table.now
    in let sorted = c.sort.new.self.items
    in let moved = rw c.in_ok-intervals.ensures at c.in_ok-sort.ensures.permutation
    in let turns = rw c.as_slice.ensures.value at (c.are_in_turn.ensures.0 c.if-are_in_turn.true)
    in let forward = All-permutation IsForward (intervals_of shop rows) sorted moved (intervals_forward shop rows)
    in apart_from_pairs shop rows
    (AllPairs-permutation ArePartedIntervals parted_both_ways (intervals_of shop rows) sorted moved
    (parted_pairs sorted turns forward))

pub keep_clear-requires : goal.keep_clear-requires
keep_clear-requires c k d below = grind (arith, c.sort.new.self.items)

pub first_unclear_overlap-requires-clause-apart : goal.first_unclear_overlap-requires-clause-apart
first_unclear_overlap-requires-clause-apart c =
    let shop = c.args.instance.now
    in let rows = c.args.table.now
    in let sorted = c.sort.new.self.items
    in let moved = rw c.in_ok-intervals.ensures at c.in_ok-sort.ensures.permutation
    in rw c.as_slice-2.ensures.value
    (apart_from_clear shop rows sorted c.keep_clear.new.intervals.items
    (AllPairs-permutation (AreClearPair sorted) (clear_both_ways sorted) (intervals_of shop rows) sorted moved
    (clear_pairs sorted)) c.keep_clear.ensures)
