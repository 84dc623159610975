-- A copy of a state.
--     IsAsLong heads ends from to    a state has room for as many heads, ends and next operations
use Rattle.std.specs.Prelude.{◌≡◌, ℕ, List, length}
use Rattle.shop_states.specs.declared.states.State.{State}

pub record IsAsLong {L N : Type 0} (heads ends : L → List ℕ) (from to : State L N) : Type 0 where
  pub positions : length (heads to.lanes) ≡ length (heads from.lanes)
  pub jobs : length (ends to.lanes) ≡ length (ends from.lanes)
  pub nexts : length to.next.items ≡ length from.next.items
