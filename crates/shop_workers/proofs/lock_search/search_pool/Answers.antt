use Rattle.std.proofs.Common.{arith, length, refl, ◌<◌, ◌≡◌, ◌∙◌, ◌≤◌, true, subst, sym}
use Rattle.shop_runs.specs.{Entries.{told, is_hit}, Crews.IsEntryOf, Hits.{hits_of_round, IsHitOrEnd}}
use Rattle.shop_workers.proofs.TakenEntries.{one_taken}
use Rattle.shop_workers.proofs.lock_search.search_pool.Goals as goal

pub loop-preserved : goal.loop-preserved
loop-preserved g c =
    let same = c.loop.invariant.2 in
    let low = c.search_or_pass.new.low in
    let number = c.in-Some-take.number in
    let entry = c.in_ok-entry.entry in
    let is = subst (λ r. IsEntryOf (told r) number entry) same c.in_ok-entry.ensures.entry in
    let hit = subst (λ r. is_hit (told r) number ≡ true → low ≤ number) same c.in_ok-entry.ensures.hit in (
      tt,
      tt,
      c.search_or_pass.ensures.round ∙ same,
      subst (λ r. IsHitOrEnd (hits_of_round r) low) same c.search_or_pass.ensures.low,
      rw c.in_ok-push.ensures.items (one_taken (told (g.P.PieceSearch.searched c.args.searcher.now))
          c.loop.low low number c.loop.entries.items entry c.loop.invariant.4 c.search_or_pass.ensures.lower is
          c.in_ok-entry.ensures.passed hit),
    )

pub search_or_pass-requires : goal.search_or_pass-requires
search_or_pass-requires g c κs = (
  (refl, tt),
  subst (λ r. (c.in-Some-take.number < length r.pieces.items) × IsHitOrEnd (hits_of_round r) c.loop.low)
      (sym c.loop.invariant.2) (
        subst (λ r. c.in-Some-take.number < length r.pieces.items) c.round.ensures
            (omega (arith, c.len-pieces.ensures, c.if-number-pieces.false)),
        c.loop.invariant.3,
      ),
)
