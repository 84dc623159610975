-- Answers of a run.
pub use Rattle.shop_runs.specs.Plans.{planned, IsPlanMadeOf}
use Rattle.std.specs.Prelude.{◌≡◌, length}
use Rattle.shop_model.specs.{Shop.{Shop, IsFeasible, end_of}, Checking.{HasShape, starts_of}, Word.{placed, rows_of}}
use Rattle.shop_runs.specs.{declared.plans.Plan.Plan, Round.{Stand, makespan_of}, Answers.{answer, bound_of}}
use Rattle.shop_runs.specs.{Trust.IsTrustworthy, declared.runs.Answer.Answer}

-- the answer says what stands
pub record Says (shop : Shop) (s : Stand) (a : Answer) : Type 0 where
  pub word : a.word ≡ s.word
  pub table : a.table ≡ rows_of shop (placed shop s.word)
  pub makespan : a.makespan ≡ makespan_of shop s
  pub bound : a.bound ≡ bound_of shop s
  pub open_nodes : a.open_nodes ≡ length s.open_words
  pub rounds : a.rounds ≡ s.rounds
  pub nodes : a.nodes ≡ s.nodes

-- the answer is the plan's
abbrev pub SaysAnswer : Shop → Plan → Answer → Type 0
SaysAnswer shop plan a = Says shop (answer shop (planned plan)) a

-- what the answer says of all tables is so; its own has a start for each operation, is feasible,
-- and ends at its makespan
pub record IsTrusted (shop : Shop) (a : Answer) : Type 0 where
  pub answer_is : IsTrustworthy shop a.word a.makespan a.bound a.open_nodes
  pub shape : HasShape shop a.table
  pub feasible : IsFeasible shop (starts_of a.table)
  pub ends : end_of shop (starts_of a.table) ≡ a.makespan
