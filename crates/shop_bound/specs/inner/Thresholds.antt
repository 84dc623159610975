-- The span of the operations above two thresholds.
use Rattle.std.specs.Prelude.{ℕ, ◌+◌, Bool, ◌&&◌, ◌==◌, nat_le, if◌then◌else◌, List, length, filter, sum_by}
use Rattle.std.specs.Prelude.{slice_index_or}
use Rattle.shop_bound.specs.{declared.triples.Triple.Triple, OneMachine.greatest_of}

-- the triple's head and tail are at least `head` and `tail`
abbrev pub is_above : ℕ → ℕ → Triple → Bool
is_above head tail t = nat_le head t.head && nat_le tail t.tail

-- head plus the times of the operations above both plus tail; 0 where no operation is above both
abbrev pub span_above : List Triple → ℕ → ℕ → ℕ
span_above ts head tail = if length (filter (is_above head tail) ts) == 0 then 0 else
    head + sum_by (λ t. t.time) (filter (is_above head tail) ts) + tail

abbrev pub no_triple : Triple
no_triple = record { head = 0; time = 0; tail = 0 }

abbrev pub head_at : List Triple → ℕ → ℕ
head_at ts i = (slice_index_or ts i no_triple).head

abbrev pub tail_at : List Triple → ℕ → ℕ
tail_at ts i = (slice_index_or ts i no_triple).tail

-- the greatest span over all pairs of a head and a tail that occur
abbrev pub greatest_span_of : List Triple → ℕ
greatest_span_of ts = greatest_of (λ first. greatest_of (λ last. span_above ts first.head last.tail) ts) ts
