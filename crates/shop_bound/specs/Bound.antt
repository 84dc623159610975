-- Heads and tails of the operations that a word leaves, and the lower bound of a word.
use Rattle.std.specs.Prelude.{ℕ, ◌+◌, max, List, [], ◌∷◌, length, drop, map, filter, sum_by, flat_map, ◌==◌}
use Rattle.std.specs.List.{range_with_len}
use Rattle.shop_model.specs.{Shop.{Shop, route_of, finish_of, greatest_below}, declared.ops.Op.Op}
use Rattle.shop_model.specs.Word.{Placing, placing}
use Rattle.shop_bound.specs.{declared.triples.Triple.Triple, OneMachine.one}

-- an operation that isn't in the word: its job and step, its machine, and its head, time and tail
pub record Waiting : Type 0 where
  pub job : ℕ
  pub step : ℕ
  pub machine : ℕ
  pub triple : Triple

-- The steps of job j from k on, if the step before ends at `ready` and what is placed on m at free
-- m. A head is the greater of the end before it (placed, or else that head and time) and the last
-- placed end on its machine; a tail is the sum of the times of the later steps.
abbrev pub waiting_from : (ℕ → ℕ) → ℕ → ℕ → ℕ → List Op → List Waiting
waiting_from free j k ready [] = []
waiting_from free j k ready (o ∷ os) =
    let head = max ready (free o.machine)
    in record {
      job = j;
      step = k;
      machine = o.machine;
      triple = record { head = head; time = o.time; tail = sum_by (λ p. p.time) os };
    }
    ∷ waiting_from free j (k + 1) (head + o.time) os

-- the operations of job j that wait, and those of all jobs
abbrev pub waiting_of : Shop → Placing → ℕ → List Waiting
waiting_of shop p j = waiting_from p.free j (p.steps j) (p.ready j) (drop (p.steps j) (route_of shop j))

abbrev pub waiting : Shop → Placing → List Waiting
waiting shop p = flat_map (λ j. waiting_of shop p j) (range_with_len 0 (length shop.jobs))

-- the triples of the operations that wait for machine m
abbrev pub triples_on : ℕ → List Waiting → List Triple
triples_on m ws = map (λ x. x.triple) (filter (λ x. x.machine == m) ws)

-- the greatest of the placed ends
abbrev pub placed_end : Shop → Placing → ℕ
placed_end shop p =
    greatest_below (length shop.jobs)
    (λ j. greatest_below (p.steps j) (λ k. finish_of shop p.begins j k))

-- the greatest of the placed ends, and of the one-machine bounds of what is left
abbrev pub lb : Shop → List ℕ → ℕ
lb shop w =
    let p = placing shop w
    in max (placed_end shop p)
    (greatest_below shop.machines (λ m. one (triples_on m (waiting shop p))))
