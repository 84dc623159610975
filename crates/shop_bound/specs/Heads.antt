-- Heads and tails of the operations that are not placed (longest paths in the disjunctive model).
--     tail_of shop j k         what must follow (j, k) in its route
--     WaitingIsWhatIsLeft      the operations that wait are those that aren't placed, with these heads and tails
use Rattle.std.specs.Prelude.{◌≡◌, ℕ, zero, suc, ◌+◌, ◌-◌, ◌^◌, ◌<◌, max, ◌&&◌, nat_le, nat_lt, if◌then◌else◌, Option}
use Rattle.std.specs.Prelude.{Some, None, [], slice_index_or, length, drop, map, sum_by, flat_map, List}
use Rattle.std.specs.List.{range_with_len}
use Rattle.shop_model.specs.{declared.ops.Op.Op, Shop.{Shop, route_of, machine_of, time_of}}
use Rattle.shop_model.specs.Word.{Placing, placing, rows_of}
use Rattle.shop_bound.specs.Bound.{Waiting, waiting}

-- When job j is ready for the n-th, from 0 on, of its steps that aren't placed: at the placed end of the step before it
-- (the release if no step is placed), or else at the head of the step before it and that step's time.
abbrev pub ready_after : Shop → Placing → ℕ → ℕ → ℕ
ready_after shop p j zero = p.ready j
ready_after shop p j (suc n) =
    max (ready_after shop p j n) (p.free (machine_of shop j (p.steps j + n))) + time_of shop j (p.steps j + n)

-- The head of step k of job j, which isn't placed: the greater of when the job is ready for it and
-- of the last placed end on its machine.
abbrev pub head_of : Shop → Placing → ℕ → ℕ → ℕ
head_of shop p j k = max (ready_after shop p j (k - p.steps j)) (p.free (machine_of shop j k))

-- the times of a route, whose sum is below 2 ^ 50
abbrev pub AreTimesSmall : List Op → Type 0
AreTimesSmall route = sum_by (λ o. o.time) route < 2 ^ 50

-- the sum of the times of the steps of the route that are later than k
abbrev pub tail_in : List Op → ℕ → ℕ
tail_in route k = sum_by (λ o. o.time) (drop (k + 1) route)

abbrev pub tail_of : Shop → ℕ → ℕ → ℕ
tail_of shop j k = tail_in (route_of shop j) k

abbrev pub AreTails : Shop → List (List ℕ) → Type 0
AreTails shop rows = rows ≡ rows_of shop (tail_of shop)

-- the head of an operation that isn't placed; none for one that is, and where there is no operation
abbrev pub head_if_left : Shop → Placing → ℕ → ℕ → Option ℕ
head_if_left shop p j k =
    if nat_le (p.steps j) k && nat_lt k (length (route_of shop j)) then Some (head_of shop p j k) else None

-- (j, k) as an operation that waits
abbrev pub waiting_at : Shop → Placing → ℕ → ℕ → Waiting
waiting_at shop p j k = record {
  job = j;
  step = k;
  machine = machine_of shop j k;
  triple = record { head = head_of shop p j k; time = time_of shop j k; tail = tail_of shop j k };
}

-- the steps of job j that aren't placed
abbrev pub steps_left : Shop → Placing → ℕ → List ℕ
steps_left shop p j = range_with_len (p.steps j) (length (route_of shop j) - p.steps j)

abbrev pub WaitingIsWhatIsLeft : Type 0
WaitingIsWhatIsLeft = (shop : Shop) (p : Placing)
    → waiting shop p ≡ flat_map (λ j. map (waiting_at shop p j) (steps_left shop p j))
    (range_with_len 0 (length shop.jobs))

-- the head that stands in the rows, one a job; none beyond the rows
abbrev pub heads_at : List (List (Option ℕ)) → ℕ → ℕ → Option ℕ
heads_at rows j k = slice_index_or (slice_index_or rows j []) k None

-- the rows tell the head of each operation that the word leaves, and none for all else
abbrev pub TellsHeads : Shop → List ℕ → List (List (Option ℕ)) → Type 0
TellsHeads shop w rows = (j k : ℕ) → heads_at rows j k ≡ head_if_left shop (placing shop w) j k
