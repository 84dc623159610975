use Rattle.std.proofs.{Common.{rules, ◌≡◌, ℕ, ◌+◌, ◌≤◌, ◌<◌, List, length, ◌∙◌, arith}, lemmas.Bool.{eq-eqb, ne_eqb}}
use Rattle.std.proofs.lemmas.List.{length_push, length-map}
use Rattle.shop_nodes.specs.declared.sheets.Sheet.{Sheet}
use Rattle.shop_runs.specs.{Entries.told, Crews.OneForEach, declared.rounds.Round.Round}
use Rattle.shop_runs.specs.declared.{entries.{Entry.Entry, Kind.TheVariants.Done}, outcomes.RoundResult.RoundResult}
use Rattle.shop_runs.proofs.GatherLemmas.{GatheredSoFar, few_here, gathered_turn}
use Rattle.shop_runs.proofs.EntryLemmas.{IsEntryAt, entry_turn, entries_end, entry_done, entry_not_passed}
use Rattle.shop_runs.proofs.OutcomeLemmas.{closed_outcome, open_outcome}
use Rattle.shop_runs.proofs.outcomes.outcome_of.Goals as goal

length_pieces : (r : Round) → length (told r).pieces ≤ 256
length_pieces r = grind (arith, length-map)

-- with one more sheet the count fits
small_sum : (r : Round) (es : List Entry) (e : Entry) (i : ℕ) (s : Sheet) (o : RoundResult) → OneForEach (told r) es
    → IsEntryAt es i e → e.kind ≡ Done s → GatheredSoFar (told r) i o → o.nodes + s.taken < 18446744073709551616
small_sum r es e i s o each at is so_far =
    let small = few_here (told r) i s (entry_done (told r) es i e each at s is) o so_far r.small_budget
    in let inside = at.inside
    in let pieces = length_pieces r
    in let counted = r.counted
    in let left = r.rounds_left
    in omega arith

pub unreachable-requires : goal.unreachable-requires
unreachable-requires c =
    let gives = c.into_iter-entry-iterator.ensures.into_iter_gives
    in let at : IsEntryAt c.args.entries.items (length c.loop-entry.yielded) c.in-Some.entry =
    entry_turn c.into_iter-entry-iterator.result c.loop-entry.entry-iterator c.next.new.self c.args.entries gives.0
    gives.1 c.loop-entry.yielded c.loop-entry.yielded_by c.next.result c.next.ensures.steps
    c.in-Some.entry c.in-Some.is
    in entry_not_passed (told c.args.round.now) c.args.entries.items
    (length c.loop-entry.yielded) c.in-Some.entry c.requires at
    c.in_default.field-0 c.in_default.field-1 c.in_default.is c.loop-entry.invariant.so_far.none_hits

pub returns-then-sheet-round : goal.returns-then-sheet-round
returns-then-sheet-round c = search (rules, entry_turn, entry_done, closed_outcome, length_pieces, eq-eqb)

pub loop-entry-preserved : goal.loop-entry-preserved
loop-entry-preserved c =
    let gives = c.into_iter-entry-iterator.ensures.into_iter_gives
    in let at : IsEntryAt c.args.entries.items (length c.loop-entry.yielded) c.in-Some.entry =
    entry_turn c.into_iter-entry-iterator.result c.loop-entry.entry-iterator c.next.new.self c.args.entries gives.0
    gives.1 c.loop-entry.yielded c.loop-entry.yielded_by c.next.result c.next.ensures.steps
    c.in-Some.entry c.in-Some.is
    in let r = told c.args.round.now
    in let s = c.in-Done.sheet
    in let is = entry_done r c.args.entries.items
    (length c.loop-entry.yielded) c.in-Some.entry c.requires at s c.in-Done.is
    in let turn = gathered_turn r (length c.loop-entry.yielded) s is c.loop-entry.outcome c.loop-entry.invariant.so_far
    c.args.round.now.small_budget c.take_in.new.self (ne_eqb s.makespan r.bound c.if-sheet-round.false)
    c.in_ok-take_in.ensures
    in grind (arith, length_push)

pub returns : goal.returns
returns c =
    let gives = c.into_iter-entry-iterator.ensures.into_iter_gives
    in let all = entries_end c.into_iter-entry-iterator.result c.loop-entry.entry-iterator c.next.new.self
    c.args.entries gives.0 gives.1
    c.loop-entry.yielded c.loop-entry.yielded_by c.next.result c.next.ensures.steps c.in-None.is
    in open_outcome (told c.args.round.now) c.args.round.now.is_round
    (length c.loop-entry.yielded) c.loop-entry.outcome c.loop-entry.invariant.so_far
    c.args.round.now.small_budget (length_pieces c.args.round.now) (all ∙ c.requires.0)

pub overflow_add-result : goal.overflow_add-result
overflow_add-result c =
    let gives = c.into_iter-entry-iterator.ensures.into_iter_gives
    in let at : IsEntryAt c.args.entries.items (length c.loop-entry.yielded) c.in-Some.entry =
    entry_turn c.into_iter-entry-iterator.result c.loop-entry.entry-iterator c.next.new.self c.args.entries gives.0
    gives.1 c.loop-entry.yielded c.loop-entry.yielded_by c.next.result c.next.ensures.steps
    c.in-Some.entry c.in-Some.is
    in let small = small_sum c.args.round.now c.args.entries.items c.in-Some.entry (length c.loop-entry.yielded)
    c.in-Done.sheet c.loop-entry.outcome c.requires at c.in-Done.is c.loop-entry.invariant.so_far
    in omega arith

pub take_in-requires : goal.take_in-requires
take_in-requires c =
    let gives = c.into_iter-entry-iterator.ensures.into_iter_gives
    in let at : IsEntryAt c.args.entries.items (length c.loop-entry.yielded) c.in-Some.entry =
    entry_turn c.into_iter-entry-iterator.result c.loop-entry.entry-iterator c.next.new.self c.args.entries gives.0
    gives.1 c.loop-entry.yielded c.loop-entry.yielded_by c.next.result c.next.ensures.steps
    c.in-Some.entry c.in-Some.is
    in small_sum c.args.round.now c.args.entries.items c.in-Some.entry (length c.loop-entry.yielded) c.in-Done.sheet
    c.loop-entry.outcome c.requires at c.in-Done.is c.loop-entry.invariant.so_far
