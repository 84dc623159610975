-- The operations of a machine that a word leaves, as a program lists them.
use Rattle.std.specs.Prelude.{◌≡◌, ℕ, ◌≤◌, ◌<◌, max, List, [], ◌++◌, length, slice_index, slice_index_or}
use Rattle.shop_model.specs.{declared.limits.TheConstants.{MAX_START, MAX_STEPS, MAX_TIME}, declared.ops.Op.Op}
use Rattle.shop_model.specs.{Shop.{Shop, no_op, greatest_below}, Word.Placing, Placements.{PlacementState, IsPlacement}}
use Rattle.shop_bound.specs.{Bound.{waiting, waiting_from, triples_on}, OneMachine.one, declared.triples.Triple.Triple}

-- the triples on machine m of one job, whose route goes on by these operations
abbrev pub unplaced_from : ℕ → List ℕ → ℕ → List Op → List Triple
unplaced_from m free ready rest = triples_on m (waiting_from (slice_index free) 0 0 ready rest)

-- each machine's list has the triples of the rest of the route added at its end
abbrev pub Adds : List (List Triple) → List (List Triple) → List ℕ → ℕ → List Op → Type 0
Adds xs ys free ready rest = (m : ℕ) → m < length xs
    → slice_index_or ys m [] ≡ slice_index_or xs m [] ++ unplaced_from m free ready rest

-- for every placing with these ends, each machine's list has the operations that wait for it
abbrev pub AreUnplaced : Shop → PlacementState → List (List Triple) → Type 0
AreUnplaced shop s lists = (p : Placing) → IsPlacement shop p s → (m : ℕ) → m < shop.machines
    → slice_index_or lists m [] ≡ triples_on m (waiting shop p)

-- the rest of a route is on machines that are there and takes times that can be added to all that is ready and free
pub record CanGoOn (free : List ℕ) (ready : ℕ) (rest : List Op) : Type 0 where
  pub short : length rest ≤ MAX_STEPS
  pub on_machines : (k : ℕ) → k < length rest → (slice_index_or rest k no_op).machine < length free
  pub times : (k : ℕ) → (slice_index_or rest k no_op).time ≤ MAX_TIME
  pub ready_small : ready ≤ MAX_START
  pub free_small : (m : ℕ) → m < length free → slice_index free m ≤ MAX_START

-- the greater of when machine m is free and of the bound of what waits for it
abbrev pub bound_on : Shop → Placing → ℕ → ℕ
bound_on shop p m = max (p.free m) (one (triples_on m (waiting shop p)))

-- for every placing with these ends, b is the greatest of the machines' bounds
abbrev pub IsGreatestBound : Shop → PlacementState → ℕ → Type 0
IsGreatestBound shop s b = (p : Placing) → IsPlacement shop p s → b ≡ greatest_below shop.machines (bound_on shop p)
