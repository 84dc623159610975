use Rattle.std.proofs.{Common.{◌∙◌, refl, Some, arith}, lemmas.{List.Elements.All-pop, Result.IfOk-at_ok}}
use Rattle.std.specs.Prelude.{IsOk}
use Rattle.shop_runs.specs.Entries.{told}
use Rattle.shop_workers.specs.{Entries.OfRound, inner.{Gathered.HasFilled, Returns.IsReturned}}
use Rattle.shop_workers.specs.declared.seat_lending.Returned.{Returned}
use Rattle.shop_workers.proofs.TakenLists.{still_filled, through_more, through_one}
use Rattle.shop_workers.proofs.seat_lending.join_all.Goals as goal
use Rattle.shop_workers.proofs.seat_lending.join_all.Goals.{in-Some-joined, in-None}

pub join-requires-clause-second : goal.join-requires-clause-second
join-requires-clause-second c = (All-pop (λ (w : Returned). IsReturned c.args.board.now (told c.args.round.now) w.seat
    w.entries) _ _ (Some c.in-Some.field-0) c.in-Some.ensures.items c.loop-seat.invariant.3).1.0

pub put_each-requires-clause-entries : goal.put_each-requires-clause-entries
put_each-requires-clause-entries c = IfOk-at_ok (λ v. OfRound (told c.args.round.now) v.items) c.in_ok-entries.was
    (All-pop (λ (w : Returned). IsReturned c.args.board.now (told c.args.round.now) w.seat w.entries) _ _
    (Some c.in-Some.field-0) c.in-Some.ensures.items c.loop-seat.invariant.3).1.1

pub loop-seat-preserved : goal.loop-seat-preserved
loop-seat-preserved c =
    let parts = All-pop (λ (w : Returned). IsReturned c.args.board.now (told c.args.round.now) w.seat w.entries) _ _
    (Some c.in-Some.field-0) c.in-Some.ensures.items c.loop-seat.invariant.3 in
    let here = parts.1 in
    let granted : IsOk c.in-Some.field-0.entries = rw c.in_ok-entries.was refl in
    let filled : HasFilled c.put_each.new.by_piece.items c.in-Some.field-0.entries =
    rw c.in_ok-entries.was c.put_each.ensures.filled in (
      elim c.match-joined.branch [
        | in-Some-joined w ↦ grind arith
        | in-None w ↦ grind arith
      ],
      c.put_each.ensures.len ∙ c.loop-seat.invariant.1,
      c.put_each.ensures.by_piece,
      parts.0,
      through_one (λ (w : Returned). IsOk w.entries) _ _ _ c.in-Some.field-0 granted c.in-Some.ensures.items
          c.loop-seat.invariant.4,
      through_more (λ (w : Returned). HasFilled c.loop-seat.by_piece.items w.entries)
          (λ (w : Returned). HasFilled c.put_each.new.by_piece.items w.entries) _ _ _ c.in-Some.field-0
          (λ w. still_filled _ _ c.put_each.ensures.stays w.entries) filled c.in-Some.ensures.items
          c.loop-seat.invariant.5,
    )
