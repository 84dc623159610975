use Rattle.std.proofs.{Common.{◌∷◌, ◌++◌, [], List, None, Option, arith}, lemmas.Grind.common_steps}
use Rattle.shop_runs.specs.{Entries.told, Round.Told, declared.entries.Entry.Entry}
use Rattle.shop_workers.specs.inner.Gathered.{AreByPiece}
use Rattle.shop_workers.proofs.ordering.none_by_piece.Goals as goal

none_more : (r : Told) (so_far : List (Option Entry)) → AreByPiece r so_far → AreByPiece r (so_far ++ None ∷ [])
none_more r so_far right = grind (arith, common_steps)

pub loop-preserved : goal.loop-preserved
loop-preserved c = (
  omega (arith, c.loop.invariant.0, c.in_ok-push.ensures.len),
  rw c.in_ok-push.ensures.items (none_more (told c.args.round.now) c.loop.by_piece.items c.loop.invariant.1),
)
