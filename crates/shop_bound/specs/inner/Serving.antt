-- Operations served by Jackson's rule: what was spent on each, and what a turn does.
use Rattle.std.specs.Prelude.{◌≡◌, ℕ, ◌+◌, ◌<◌, ◌≤◌, ◌⊎◌, max, true, false, nat_le, cond, List, length, map, sum_by}
use Rattle.std.specs.Prelude.{slice_index_or}
use Rattle.shop_bound.specs.{declared.triples.Triple.Triple, declared.queues.Work.Work, OneMachine.{one, greatest_of}}
use Rattle.shop_bound.specs.inner.Thresholds.{no_triple, is_above, span_above}

abbrev pub no_work : Work
no_work = record { triple = no_triple; spent = 0; done = false }

abbrev pub work_at : List Work → ℕ → Work
work_at ws i = slice_index_or ws i no_work

abbrev pub triples_of : List Work → List Triple
triples_of ws = map (λ w. w.triple) ws

-- an operation of which nothing is done
abbrev pub fresh : Triple → Work
fresh t = record { triple = t; spent = 0; done = false }

-- operation i is released at the clock, and not done
pub record IsServable (ws : List Work) (clock i : ℕ) : Type 0 where
  pub here : i < length ws
  pub undone : (work_at ws i).done ≡ false
  pub released : (work_at ws i).triple.head ≤ clock

-- i is served: of the first n, released and not done, it has the greatest tail, and the lowest index on ties
pub record IsServed (n : ℕ) (ws : List Work) (clock i : ℕ) : Type 0 where
  pub seen : i < n
  pub undone : (work_at ws i).done ≡ false
  pub released : (work_at ws i).triple.head ≤ clock
  pub greatest : (k : ℕ) → k < n → (work_at ws k).done ≡ false → (work_at ws k).triple.head ≤ clock
      → (work_at ws k).triple.tail ≤ (work_at ws i).triple.tail
  pub lowest : (k : ℕ) → k < i → (work_at ws k).done ≡ false → (work_at ws k).triple.head ≤ clock
      → (work_at ws k).triple.tail < (work_at ws i).triple.tail

-- The turn from the clock on stops at its end, or at the next release (of the first n) if that comes first.
pub record IsStop (n : ℕ) (ws : List Work) (clock end stop : ℕ) : Type 0 where
  pub later : clock ≤ stop
  pub by_end : stop ≤ end
  pub by_release : (k : ℕ) → k < n → clock < (work_at ws k).triple.head → stop ≤ (work_at ws k).triple.head
  pub reason : (stop ≡ end) ⊎ ((k : ℕ) × (k < n) × (clock < (work_at ws k).triple.head)
      × ((work_at ws k).triple.head ≡ stop))

-- of the first n, the least release of those that are not done, all of which are later than the clock
pub record IsLeastRelease (n : ℕ) (ws : List Work) (clock ready : ℕ) : Type 0 where
  pub later : clock < ready
  pub least : (k : ℕ) → k < n → (work_at ws k).done ≡ false → ready ≤ (work_at ws k).triple.head
  pub reason : (k : ℕ) × (k < n) × ((work_at ws k).done ≡ false) × ((work_at ws k).triple.head ≡ ready)

-- the clock where `IsServable` holds of one or all are done, else the next release
abbrev pub IsReady : List Work → ℕ → ℕ → Type 0
IsReady ws clock ready =
    (((k : ℕ) × IsServable ws clock k) × (ready ≡ clock))
    ⊎ (IsLeastRelease (length ws) ws clock ready
    ⊎ (((k : ℕ) → k < length ws → (work_at ws k).done ≡ true)
    × (ready ≡ clock)))

-- the time spent so far on the operations above both thresholds
abbrev pub spent_above : ℕ → ℕ → Work → ℕ
spent_above head tail w = cond (is_above head tail w.triple) w.spent 0

unfoldable pub worked : ℕ → ℕ → List Work → ℕ
worked head tail ws = sum_by (spent_above head tail) ws

-- From some time on the machine did nothing but operations of at least this tail that were released
-- then or later, and all that are released and not done are such.
pub record IsBusy (ws : List Work) (clock tail : ℕ) : Type 0 where
  pub from : ℕ
  pub before : from ≤ clock
  pub released : (i : ℕ) → IsServable ws clock i → tail ≤ (work_at ws i).triple.tail
      → from ≤ (work_at ws i).triple.head
  pub enough : clock ≤ from + worked from tail ws

-- what holds before each turn
pub record IsRun (ws : List Work) (clock best : ℕ) : Type 0 where
  pub spent : (i : ℕ) → i < length ws → (work_at ws i).spent ≤ (work_at ws i).triple.time
  pub done : (i : ℕ) → i < length ws → (work_at ws i).done ≡ true → (work_at ws i).spent ≡ (work_at ws i).triple.time
  pub within : clock ≤ greatest_of (λ t. t.head) (triples_of ws) + worked 0 0 ws
  pub busy : (tail : ℕ) → IsBusy ws clock tail
  pub no_sooner : (head tail : ℕ) → head + worked head tail ws ≤ max clock head
  pub ended : (head tail : ℕ)
      → ((i : ℕ) → i < length ws → is_above head tail (work_at ws i).triple ≡ true
      → (work_at ws i).done ≡ true) → span_above (triples_of ws) head tail ≤ best
  pub reached : best ≤ one (triples_of ws)

-- a bound on the turns left: one for each operation not done, and one for each not released
abbrev pub turns_of : ℕ → Work → ℕ
turns_of clock w = cond w.done 0 1 + cond (nat_le w.triple.head clock) 0 1

unfoldable pub turns_left : List Work → ℕ → ℕ
turns_left ws clock = sum_by (turns_of clock) ws

-- how many operations are not done
abbrev pub undone_of : Work → ℕ
undone_of w = cond w.done 0 1

unfoldable pub undone : List Work → ℕ
undone ws = sum_by undone_of ws
