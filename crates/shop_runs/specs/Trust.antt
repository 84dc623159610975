-- What an answer says of all tables.
use Rattle.std.specs.Prelude.{◌≡◌, ℕ, ◌≤◌, List, length}
use Rattle.shop_model.specs.{Shop.{Shop, Starts, IsFeasible, end_of, IsLeast}, Word.{placed, IsFull}}
use Rattle.shop_runs.specs.{Plans.Planned, Round.makespan_of, Answers.{answer, bound_of}}

-- what an answer says of all tables is so
pub record IsTrustworthy (shop : Shop) (word : List ℕ) (makespan lower open_nodes : ℕ) : Type 0 where
  -- the word is full, and its table is feasible and ends at the makespan
  pub full : IsFull shop word
  pub feasible : IsFeasible shop (placed shop word)
  pub ends : end_of shop (placed shop word) ≡ makespan
  -- no feasible table ends before the bound
  pub bound : (starts : Starts) → IsFeasible shop starts → lower ≤ end_of shop starts
  -- where nothing is open, the makespan is least
  pub least : open_nodes ≡ 0 → IsLeast shop makespan

-- so is what the answer of each plan says
abbrev pub AnswersAreTrustworthy : Type 0
AnswersAreTrustworthy = (shop : Shop) (plan : Planned) → let s = answer shop plan
    in IsTrustworthy shop s.word (makespan_of shop s) (bound_of shop s) (length s.open_words)
