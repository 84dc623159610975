use Rattle.std.proofs.{Common.{refl, Some, ◌∙◌}, lemmas.{List.Elements.All-pop, Result.IfOk-at_ok}}
use Rattle.std.specs.Prelude.{IsOk, IfOk}
use Rattle.shop_runs.specs.Entries.{told}
use Rattle.shop_workers.specs.{Entries.{OfRound, Brought}, inner.Gathered.HasFilled}
use Rattle.shop_workers.proofs.TakenLists.{still_filled, through_more, through_one}
use Rattle.shop_workers.proofs.ordering.put_all.Goals as goal

pub loop-entries-preserved : goal.loop-entries-preserved
loop-entries-preserved c =
    let r = told c.args.round.now in
    let granted : IsOk c.in-Some.entries = rw c.in_ok-entries.was refl in
    let filled : HasFilled c.put_each.new.by_piece.items c.in-Some.entries =
    rw c.in_ok-entries.was c.put_each.ensures.filled in (
      c.put_each.ensures.len ∙ c.loop-entries.invariant.0,
      c.put_each.ensures.by_piece,
      (All-pop (λ (l : Brought). IfOk l (λ v. OfRound r v.items)) _ _ (Some c.in-Some.entries)
          c.in-Some.ensures.items c.loop-entries.invariant.2).0,
      through_one (λ (b : Brought). IsOk b) _ _ _ c.in-Some.entries granted
          c.in-Some.ensures.items c.loop-entries.invariant.3,
      through_more (HasFilled c.loop-entries.by_piece.items) (HasFilled c.put_each.new.by_piece.items) _ _ _
          c.in-Some.entries (still_filled _ _ c.put_each.ensures.stays) filled c.in-Some.ensures.items
          c.loop-entries.invariant.4,
    )

pub put_each-requires-clause-entries : goal.put_each-requires-clause-entries
put_each-requires-clause-entries c = IfOk-at_ok (λ v. OfRound (told c.args.round.now) v.items) c.in_ok-entries.was
    (All-pop (λ (l : Brought). IfOk l (λ v. OfRound (told c.args.round.now) v.items)) _ _
    (Some c.in-Some.entries) c.in-Some.ensures.items c.loop-entries.invariant.2).1
