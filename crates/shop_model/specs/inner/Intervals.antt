-- From when to when each operation takes its machine.
use Rattle.std.specs.Prelude.{◌≡◌, ℕ, ◌+◌, ◌≤◌, ◌<◌, ◌⊎◌, List, [], length, map, flat_map, slice_index, slice_index_or}
use Rattle.std.specs.List.{range_with_len}
use Rattle.shop_model.specs.{declared.ops.Op.Op, declared.intervals.Interval.Interval, Shop.{Shop, route_of}}
use Rattle.shop_model.specs.inner.Steps.{machine_at, finish_at}

-- step k of a job
abbrev pub interval_at : List Op → List ℕ → ℕ → Interval
interval_at route row k = record {
  machine = machine_at route k;
  start = slice_index row k;
  finish = finish_at route row k;
}

-- those of a job, and those of all jobs
abbrev pub intervals_at : List Op → List ℕ → List Interval
intervals_at route row = map (interval_at route row) (range_with_len 0 (length route))

abbrev pub intervals_of : Shop → List (List ℕ) → List Interval
intervals_of shop rows = flat_map (λ j. intervals_at (route_of shop j) (slice_index_or rows j []))
    (range_with_len 0 (length shop.jobs))

-- one interval is on a lower machine, or ends before the other begins
abbrev pub IsInTurn : Interval → Interval → Type 0
IsInTurn a b = (a.machine < b.machine) ⊎ ((a.machine ≡ b.machine) × (a.finish ≤ b.start))

-- so each is with the next
abbrev pub AreInTurn : List Interval → Type 0
AreInTurn intervals = (k : ℕ) (d : Interval) → k + 1 < length intervals
    → IsInTurn (slice_index_or intervals k d) (slice_index_or intervals (k + 1) d)
