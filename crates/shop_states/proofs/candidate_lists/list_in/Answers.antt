use Rattle.std.proofs.Common.{◌*◌, List, [], ℕ, ap, get_or, length, map, refl, subst, sym, arith}
use Rattle.std.proofs.lemmas.List.{take_more_set}
use Rattle.shop_states.specs.inner.LaneChoices.{IsAlone}
use Rattle.shop_states.proofs.{ConflictSets.{all_told, can_list, sole, tells}, Listing.{owns_below, sole_below}}
use Rattle.shop_states.proofs.OwnSpans.{nobody}
use Rattle.shop_states.proofs.candidate_lists.list_in.Goals as goal

pub returns-in_default-clause-are : goal.returns-in_default-clause-are
returns-in_default-clause-are g c = λ shop w kept.
    nobody kept (sym (c.in_default.ensures.is shop w kept)) c.args.limit refl [] refl

pub blocks_of-from-requires-clause-small : goal.blocks_of-from-requires-clause-small
blocks_of-from-requires-clause-small g c =
    let small = (c.in-Some.ensures.is c.requires.can.shop c.requires.can.word c.requires.can.kept).blocks.small
    in omega arith

pub blocks_of-from-requires-clause-known : goal.blocks_of-from-requires-clause-known
blocks_of-from-requires-clause-known g c =
    (c.in-Some.ensures.is c.requires.can.shop c.requires.can.word c.requires.can.kept).blocks.known

pub marks_end-to-requires : goal.marks_end-to-requires
marks_end-to-requires g c =
    let a = c.blocks_of-from.ensures.first in let b = c.blocks_of-from.ensures.behind
    in let d = (c.in-Some.ensures.is c.requires.can.shop c.requires.can.word c.requires.can.kept).blocks.ordered
    in omega arith

pub below-below-requires : goal.below-below-requires
below-below-requires g c =
    let a = c.blocks_of-from.ensures.first in let b = c.blocks_of-from.ensures.behind
    in let chosen = c.in-Some.ensures.is c.requires.can.shop c.requires.can.word c.requires.can.kept
    in let d = chosen.blocks.ordered in let e = chosen.blocks.within in let f = c.marks_end-to.ensures
    in record { ordered = omega arith; within = omega arith; few = omega arith; fits = chosen.fits }

pub offset_bounds-next-first : goal.offset_bounds-next-first
offset_bounds-next-first g c =
    let known = (c.in-Some.ensures.is c.requires.can.shop c.requires.can.word c.requires.can.kept).known
    in let few = c.requires.can.kept.kept.limits.jobs in let many = c.requires.can.kept.are_next.jobs in omega arith

pub bounds-next-first : goal.bounds-next-first
bounds-next-first g c =
    let known = (c.in-Some.ensures.is c.requires.can.shop c.requires.can.word c.requires.can.kept).known
    in let same = ap (λ (xs : List ℕ). length xs) c.as_slice-next.ensures.value in omega arith

pub overflow_cast-job : goal.overflow_cast-job
overflow_cast-job g c =
    let known = (c.in-Some.ensures.is c.requires.can.shop c.requires.can.word c.requires.can.kept).known
    in let few = c.requires.can.kept.kept.limits.jobs in let many = c.requires.can.kept.are_next.jobs in omega arith

pub own_spans-requires : goal.own_spans-requires
own_spans-requires g c =
    let kept = c.requires.can.kept
    in let can = tells kept (c.in-Some.ensures.is c.requires.can.shop c.requires.can.word kept)
    c.blocks_of-from.ensures.first c.blocks_of-from.ensures.behind
    in let chosen = c.in-Some.ensures.is c.requires.can.shop c.requires.can.word kept
    in let holds = c.requires.owns c.in-Some.first.machine chosen.blocks.known
    in let from = c.blocks_of-from.ensures.first in let behind = c.blocks_of-from.ensures.behind
    in let times = kept.kept.laid.positions.times in let tails = kept.kept.laid.positions.tails
    in let heads = kept.kept.heads.positions
    in grind arith

pub list_conflict_set-requires-clause-can : goal.list_conflict_set-requires-clause-can
list_conflict_set-requires-clause-can g c =
    let chosen = c.in-Some.ensures.is c.requires.can.shop c.requires.can.word c.requires.can.kept
    in let a = c.blocks_of-from.ensures.first in let b = c.blocks_of-from.ensures.behind
    in let d = chosen.blocks.ordered in let f = c.marks_end-to.ensures
    in can_list c.requires.can.kept chosen a b (omega arith) (omega arith) c.below-below.ensures
    (let holds = c.requires.owns c.in-Some.first.machine chosen.blocks.known in let long = c.own_spans.ensures.long
    in omega arith) c.first_end.ensures.small

pub list_conflict_set-requires-2-clause-can : goal.list_conflict_set-requires-2-clause-can
list_conflict_set-requires-2-clause-can g c =
    let chosen = c.in-Some.ensures.is c.requires.can.shop c.requires.can.word c.requires.can.kept
    in let a = c.blocks_of-from.ensures.first in let b = c.blocks_of-from.ensures.behind
    in let d = chosen.blocks.ordered in let f = c.marks_end-to.ensures
    in can_list c.requires.can.kept chosen a b (omega arith) (omega arith) c.below-below.ensures
    (let holds = c.requires.owns c.in-Some.first.machine chosen.blocks.known in let long = c.own_spans.ensures.long
    in omega arith) c.first_end.ensures.small

pub is_alone-requires : goal.is_alone-requires
is_alone-requires g c =
    let chosen = c.in-Some.ensures.is c.requires.can.shop c.requires.can.word c.requires.can.kept
    in let a = c.blocks_of-from.ensures.first in let b = c.blocks_of-from.ensures.behind
    in let d = chosen.blocks.ordered in let f = c.marks_end-to.ensures
    in (can_list c.requires.can.kept chosen a b (omega arith) (omega arith) c.below-below.ensures
    {count = 8 * c.blocks_of-from.result.1} (omega arith) c.first_end.ensures.small).blocks_are

pub returns-then-is_alone-clause-are : goal.returns-then-is_alone-clause-are
returns-then-is_alone-clause-are g c = λ shop w kept.
    let chosen = c.in-Some.ensures.is shop w kept
    in sole kept chosen c.blocks_of-from.ensures.first c.blocks_of-from.ensures.behind
    (subst (λ (xs : List ℕ). IsAlone (g.L.StateLanes.heads c.args.state.now.lanes) c.blocks_of-from.result.0
    c.blocks_of-from.result.1 c.in-Some.first.end (get_or xs c.in-Some.first.chosen 0))
    c.as_slice-next.ensures.value (c.is_alone.ensures c.if-is_alone.true)) c.args.limit
    (take_more_set c.args.list.now 0 (record { job = c.in-Some.first.chosen; own = 0 })
    (let known = chosen.known in let room = c.requires.room in omega arith))

pub returns-then-next-le-JOBS_PER_NUMBER-clause-are : goal.returns-then-next-le-JOBS_PER_NUMBER-clause-are
returns-then-next-le-JOBS_PER_NUMBER-clause-are g c = λ shop w kept. all_told kept
    (c.in-Some.ensures.is shop w kept) c.blocks_of-from.ensures.first
    c.blocks_of-from.ensures.behind (map g.L.StateLanes.value c.own_spans.new.owns) c.own_spans.ensures.owns
    c.list_conflict_set.ensures.listed

pub returns-clause-are : goal.returns-clause-are
returns-clause-are g c = λ shop w kept. all_told kept (c.in-Some.ensures.is shop w kept) c.blocks_of-from.ensures.first
    c.blocks_of-from.ensures.behind (map g.L.StateLanes.value c.own_spans.new.owns) c.own_spans.ensures.owns
    c.list_conflict_set-2.ensures.listed

pub returns-then-is_alone-clause-low : goal.returns-then-is_alone-clause-low
returns-then-is_alone-clause-low g c =
    let chosen = c.in-Some.ensures.is c.requires.can.shop c.requires.can.word c.requires.can.kept
    in sole_below c.args.limit c.in-Some.first.chosen _
    (take_more_set c.args.list.now 0 (record { job = c.in-Some.first.chosen; own = 0 })
    (let known = chosen.known in let room = c.requires.room in omega arith))

pub returns-then-next-le-JOBS_PER_NUMBER-clause-low : goal.returns-then-next-le-JOBS_PER_NUMBER-clause-low
returns-then-next-le-JOBS_PER_NUMBER-clause-low g c =
    owns_below c.args.limit _ c.list_conflict_set.ensures.listed.listed

pub returns-clause-low : goal.returns-clause-low
returns-clause-low g c = owns_below c.args.limit _ c.list_conflict_set-2.ensures.listed.listed
