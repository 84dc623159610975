use Rattle.std.proofs.Common.{ℕ, ◌+◌, ◌≤◌, ◌<◌, get_or}
use Rattle.shop_layout.proofs.grid.Grid.most_positions.Given as goal

abbrev pub invariant-loop-behind : goal.invariant-loop-behind
invariant-loop-behind g l = record {
  each : (m : ℕ) → m + 1 < l.behind → get_or l.blocks (m + 1) 0 ≤ get_or l.blocks m 0 + l.most;
}
