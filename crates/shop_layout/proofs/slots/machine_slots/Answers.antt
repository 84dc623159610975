use Rattle.std.proofs.Common.{◌≡◌, ◌∙◌, ◌+◌, ◌<◌, List, ap, length, get_or, map, arith, rules, sym, subst}
use Rattle.std.{proofs.lemmas.{Grind.common_steps, Fn.always_returns_same}, specs.Prelude.IsPermutation}
use Rattle.std.proofs.lemmas.List.{get_or-replicate, length-map, length-replicate}
use Rattle.shop_layout.specs.{declared.slots.Slot.Slot, Ranks.{ranked, ranked_op}}
use Rattle.shop_layout.proofs.SlotLists.{IsSortedUpTo, jobs_written, sorted_more, items_written, items_read}
use Rattle.shop_layout.proofs.RankedShops.{route_ranked}
use Rattle.shop_bound.proofs.{SortedTails.falls_from_sort, TimeSums.times_small}
use Rattle.shop_layout.proofs.slots.machine_slots.Goals as goal

pub add_operations-requires-clause-times : goal.add_operations-requires-clause-times
add_operations-requires-clause-times c = grind (arith, times_small)

pub add_operations-requires-clause-ranks : goal.add_operations-requires-clause-ranks
add_operations-requires-clause-ranks c = grind (arith, length-map)

pub loop-j-preserved : goal.loop-j-preserved
loop-j-preserved c = jobs_written (ranked c.args.ranks.now c.args.instance.now) c.loop-j.j
    (map (ranked_op c.args.ranks.now) c.route.result.now) c.loop-j.lists.items
    c.as_mut_slice.result.now c.add_operations.new.lists c.loop-j.lists.len c.loop-j.invariant
    c.as_mut_slice.ensures.value c.add_operations.auto.lists c.loop-j.lists.ok.0
    (ap (map (ranked_op c.args.ranks.now)) c.route.ensures.route
    ∙ sym (route_ranked c.args.ranks.now c.args.instance.now c.loop-j.j))
    c.in_ok-add_operations.ensures

pub loop-m-preserved : goal.loop-m-preserved
loop-m-preserved c =
    let shop = ranked c.args.ranks.now c.args.instance.now
    in let lists = c.loop-m.lists.items
    in let m = c.loop-m.m
    in let row = c.sort_by_key.new.self.items
    in let here : m < length lists = (let a = c.loop-m-test.true
    in let b = c.len-m-end.ensures in let full = c.loop-j.lists.ok.0 in let before = c.loop-j.invariant.machines
    in let now = c.loop-m.invariant.machines
    in omega (
      arith,
      length-map c.loop-j.lists.items (λ slots. slots.items),
      length-map lists (λ slots. slots.items),
    ))
    in let read : c.index_mut.result.now ≡ get_or lists m c.index_mut.result.now = c.index_mut.ensures.value
    in subst (IsSortedUpTo shop (m + 1))
    (sym (items_written lists m c.index_mut.result.now c.sort_by_key.new.self here read))
    (sorted_more shop m (map (λ slots. slots.items) lists) row c.loop-m.invariant
    (omega (arith, length-map lists (λ slots. slots.items)))
    (subst (λ (xs : List Slot). IsPermutation xs row)
    (sym (items_read lists m c.index_mut.result.now c.sort_by_key.new.self here read))
    c.in_ok-sort_by_key.ensures.permutation)
    (falls_from_sort (λ (s : Slot). s.tail) row
    (c.in_ok-sort_by_key.ensures.sorted (λ (s : Slot). record { 0 = s.tail })
    (always_returns_same _ (λ a k. k ≡ record { 0 = a.0.now.tail }) _ (λ a k f h. search rules)))))

pub add_operations-requires-clause-machines : goal.add_operations-requires-clause-machines
add_operations-requires-clause-machines c = grind (arith, length-map)

pub loop-j-init : goal.loop-j-init
loop-j-init c = grind (arith, length-map, length-replicate, get_or-replicate)

pub loop-preserved : goal.loop-preserved
loop-preserved c = grind (arith, common_steps)
