-- What the sheets of a round come to.
--     open_of left           the nodes of bounds below its own makespan among what a sheet left
--     left_open lefts        those of some sheets, in order
--     stands_after r o       what stands after the round of this outcome
--     IsOutcome r o          the outcome is that of the round's sheets
use Rattle.std.specs.Prelude.{◌≡◌, ◌+◌, ◌*◌, ◌≤◌, List, [], ◌∷◌, ◌++◌, flat_map, nat_lt, if◌then◌else◌, unwrap_or}
use Rattle.shop_bound.specs.Bound.{lb}
use Rattle.shop_nodes.specs.{Left.{Leaving, open_nodes}, Nodes.{words_of, AreNodes}, declared.nodes.Node.Node}
use Rattle.shop_nodes.specs.declared.sheets.Sheet.{Sheet}
use Rattle.shop_runs.specs.declared.plans.TheConstants.{MAX_BUDGET, MAX_PIECES}
use Rattle.shop_runs.specs.{declared.outcomes.RoundResult.RoundResult, Round.{Told, Stand, gathered, words_below}}

abbrev pub open_of : Leaving → List Node
open_of l = open_nodes l.shop l.makespan l.words

abbrev pub left_open : List Leaving → List Node
left_open lefts = flat_map open_of lefts

abbrev pub stands_after : Told → RoundResult → Stand
stands_after r o = record {
  word = unwrap_or o.found r.word;
  open_words = words_below r.shop o.makespan (words_of (left_open o.left.items) ++ r.rest);
  rounds = r.rounds + 1;
  nodes = o.nodes;
}

pub record IsOutcome (r : Told) (o : RoundResult) : Type 0 where
  pub stands : gathered r ≡ stands_after r o
  pub makespan : o.makespan ≡ lb r.shop (unwrap_or o.found r.word)
  pub nodes_left : AreNodes r.shop (left_open o.left.items)
  -- each piece takes at most its budget
  pub counted : o.nodes ≤ r.nodes + MAX_PIECES * MAX_BUDGET

-- one more sheet is taken in: its word is better if it ends before the best so far
pub record TakesIn (o : RoundResult) (s : Sheet) (t : RoundResult) : Type 0 where
  pub found : t.found ≡ (if nat_lt s.makespan o.makespan then s.found else o.found)
  pub makespan : t.makespan ≡ (if nat_lt s.makespan o.makespan then s.makespan else o.makespan)
  pub left : t.left.items ≡ o.left.items ++ s.left ∷ []
  pub nodes : t.nodes ≡ o.nodes + s.taken
