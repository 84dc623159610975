-- Jackson's preemptive schedule of one machine, turn by turn.
use Rattle.std.specs.Prelude.{ℕ}

-- the room of a Jackson, and the turns of its last schedule
pub record JacksonState : Type 0 where
  pub room : ℕ
  pub turns : ℕ
