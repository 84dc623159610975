use Rattle.std.{proofs.Common.{◌+◌, ◌<◌, ap, ◌∙◌, subst, sym, Some, None, arith}, specs.Prelude.All}
use Rattle.shop_runs.specs.Entries.{told}
use Rattle.shop_workers.specs.{Seats.knows, Works.{AreWon, numbers_of}, inner.Turns.TakesTurn}
use Rattle.shop_workers.proofs.HandledEntries.{all_handled}
use Rattle.shop_workers.proofs.WonEntries.{grows_twice, still_won, one_won, below_next, below_push, known_next}
use Rattle.shop_workers.proofs.working.claim_and_search_all.Goals as goal
use Rattle.shop_workers.proofs.working.claim_and_search_all.Goals.{in-Some+in_ok-push, in_default}

pub loop-number-preserved : goal.loop-number-preserved
loop-number-preserved g c =
    let r = told (g.P.PieceSearch.searched c.args.searcher.now) in
    let i = c.loop-number.invariant in
    let number = c.loop-number.number in
    let first = knows c.args.seat.now in
    let before = knows c.loop-number.seat in
    let after = knows c.claim_and_search.new.seat in
    let es = c.loop-number.entries.items in
    let t = c.claim_and_search.ensures in
    let entry = c.in_ok-entry.field-0 in
    let told_turn : TakesTurn r number before after entry =
    subst (λ round. TakesTurn (told round) number before after entry) i.round c.in_ok-entry.ensures.entry in
    record {
      round = t.round ∙ i.round;
      seat = t.seat;
      grows = grows_twice first before after i.grows t.grows;
      claimed = known_next before after number t.grows i.claimed t.claimed;
      entries = elim c.match-branch-2.branch [
        | in-Some+in_ok-push w ↦
            let it : TakesTurn r number before after (Some w.in-Some.entry) =
            subst (TakesTurn r number before after) w.in-Some.is told_turn in
            subst (AreWon r first after) (sym (ap (λ v. v.items) w.entries-is ∙ w.in_ok-push.ensures.items))
            (one_won r number first before after es w.in-Some.entry t.grows i.entries i.below it.0 (it.1, it.2))
        | in_default w ↦
            let it : TakesTurn r number before after None =
            subst (TakesTurn r number before after) w.in_default.is told_turn in
            subst (AreWon r first after) (sym (ap (λ v. v.items) w.entries-is))
            (still_won r first before after es t.grows it i.entries)
      ];
      below = elim c.match-branch-2.branch [
        | in-Some+in_ok-push w ↦
            let it : TakesTurn r number before after (Some w.in-Some.entry) =
            subst (TakesTurn r number before after) w.in-Some.is told_turn in
            subst (λ l. All (λ x. x < number + 1) (numbers_of l))
            (sym (ap (λ v. v.items) w.entries-is ∙ w.in_ok-push.ensures.items))
            (below_push es w.in-Some.entry number i.below it.1.0.1)
        | in_default w ↦
            subst (λ l. All (λ x. x < number + 1) (numbers_of l)) (sym (ap (λ v. v.items) w.entries-is))
            (below_next es number i.below)
      ];
    }

pub returns-clause-handled : goal.returns-clause-handled
returns-clause-handled g c = grind (arith, all_handled)
