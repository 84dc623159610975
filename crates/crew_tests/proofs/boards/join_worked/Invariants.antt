use Rattle.std.proofs.Common.{vec_len, Option}
use Rattle.std.specs.Prelude.{All, IfSome}
use Rattle.shop_workers.specs.declared.boards.Board.{Board}
use Rattle.crew_tests.specs.declared.boards.Worked.{Worked}
use Rattle.crew_tests.specs.inner.Handled.{HasHandledOf}
use Rattle.crew_tests.proofs.boards.join_worked.Given as goal

abbrev HasWorked : Board → Worked → Type 0
HasWorked b w = HasHandledOf b w.seat w.won

abbrev pub invariant-loop-worked : goal.invariant-loop-worked
invariant-loop-worked g l =
    HasWorked l.board l.joined × All (λ (o : Option Worked). IfSome o (HasWorked l.board)) l.all.items

abbrev pub decreases-loop-worked : goal.decreases-loop-worked
decreases-loop-worked g l = vec_len l.all
