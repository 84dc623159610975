use Rattle.std.proofs.{Common.{arith, length, ◌≡◌, ◌∙◌, None, subst}, lemmas.List.{get_or_read, length-map}}
use Rattle.std.specs.Prelude.{IfSome}
use Rattle.shop_runs.specs.{Crews.IsEntryOf, Entries.told}
use Rattle.shop_workers.proofs.ByPiece.{IsKept, one_written, one_taken_out, one_more}
use Rattle.shop_workers.proofs.ordering.complete.Goals as goal

pub loop-number-preserved : goal.loop-number-preserved
loop-number-preserved g c =
    let r = told (g.P.PieceSearch.searched c.args.searcher.now) in
    let so_far = c.loop-number.invariant in
    let before = c.args.by_piece.items in
    let by_piece = c.loop-number.by_piece.items in
    let number = c.loop-number.number in
    let entries = c.loop-number.entries.items in
    let entry = c.in_ok-or_search.field-0 in
    let value = c.take-entry.ensures.value ∙ get_or_read by_piece number c.index_mut.result.now (omega arith)
    c.index_mut.ensures.value None in
    let kept = subst (λ o. IfSome o (λ x. entry ≡ x)) (value ∙ so_far.5 number (omega arith))
    c.in_ok-or_search.ensures.kept in
    let long : length entries ≡ number = omega (arith, so_far.2, c.loop-number.entries.ok.0) in
    let of = subst (λ s. IsEntryOf (told s) number entry) so_far.4 c.in_ok-or_search.ensures.entry in (
      so_far.0,
      rw c.take-entry.ensures.after (one_written r by_piece number None so_far.1 tt),
      omega (arith, so_far.2, c.in_ok-push.ensures.len),
      rw c.in_ok-push.ensures.items (one_more (IsEntryOf r) entries number entry long so_far.3 of),
      c.in_ok-or_search.ensures.round ∙ so_far.4,
      rw c.take-entry.ensures.after (one_taken_out before by_piece number so_far.5),
      rw c.in_ok-push.ensures.items (one_more (IsKept before) entries number entry long so_far.6 kept),
    )

pub returns-clause-each : goal.returns-clause-each
returns-clause-each g c = grind (arith, length-map)

pub returns-clause-kept : goal.returns-clause-kept
returns-clause-kept g c n e below there = rw there at (c.loop-number.invariant.6 n e (omega arith))
