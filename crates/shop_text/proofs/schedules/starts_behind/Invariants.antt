use Rattle.std.{proofs.Common.{◌≡◌, ◌+◌, ◌≤◌, ◌++◌, length, map}, specs.{Prelude.vec_capacity, List.list_all}}
use Rattle.shop_text.specs.{Lines.{tokens_of, value_of}, Schedules.is_start}
use Rattle.shop_text.proofs.schedules.starts_behind.Given as goal

abbrev pub invariant-loop-number : goal.invariant-loop-number
invariant-loop-number l = record {
  count : length l.starts.items + length (tokens_of l.rest) ≡ length (tokens_of l.behind);
  passed : list_all is_start (tokens_of l.rest) ≡ list_all is_start (tokens_of l.behind);
  values : l.starts.items ++ map value_of (tokens_of l.rest) ≡ map value_of (tokens_of l.behind);
  room : l.steps ≤ vec_capacity l.starts;
  within : length l.starts.items ≤ l.steps;
}

abbrev pub decreases-loop-number : goal.decreases-loop-number
decreases-loop-number l = length l.rest
