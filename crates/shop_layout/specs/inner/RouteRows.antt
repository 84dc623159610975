-- The rows that are read along routes.
--     AreSmallRows l                 each row takes fewer bytes than memory has
--     AreBelow n numbers             each number is below n
--     AreFirsts legs rows firsts     where the legs of each job begin among those of all
--     AreBehind jobs steps firsts .. at each position where the legs behind its operation begin
--     IsBehind l behind              the same of a layout, where an operation stands
use Rattle.std.specs.Prelude.{◌≡◌, ℕ, ◌+◌, ◌*◌, ◌%◌, ◌<◌, ◌^◌, All, List, [], flat_map, length, take, slice_index}
use Rattle.std.specs.Prelude.{slice_index_or}
use Rattle.shop_layout.specs.{Legs.leg_index, Positions.LayoutState, declared.legs.Leg.Leg}

pub record AreSmallRows (l : LayoutState) : Type 0 where
  pub jobs : 4 * length l.jobs < 2 ^ 64
  pub machines : 4 * length l.machines < 2 ^ 64
  pub times : 8 * length l.times < 2 ^ 64

abbrev pub AreBelow : ℕ → List ℕ → Type 0
AreBelow n numbers = All (λ p. p < n) numbers

pub record AreFirsts (legs : List ℕ → List Leg) (rows : List (List ℕ)) (firsts : List ℕ) : Type 0 where
  pub long : length firsts ≡ length rows
  pub each : (j : ℕ) → j < length firsts → slice_index firsts j ≡ length (flat_map legs (take j rows))

pub record AreBehind (jobs steps firsts behind : List ℕ) : Type 0 where
  pub long : length behind ≡ length jobs
  pub each : (q : ℕ) → q < length behind → slice_index behind q
      ≡ (slice_index firsts (slice_index jobs q) + (slice_index steps q + 1)) % 2 ^ 64

pub record IsBehind (l : LayoutState) (behind : List ℕ) : Type 0 where
  pub long : length behind ≡ length l.jobs
  pub each : (q : ℕ) → q < length l.jobs → slice_index l.jobs q < length l.step_positions
      → slice_index l.steps q < length (slice_index_or l.step_positions (slice_index l.jobs q) [])
      → slice_index behind q ≡ leg_index l (slice_index l.jobs q) (slice_index l.steps q + 1)
