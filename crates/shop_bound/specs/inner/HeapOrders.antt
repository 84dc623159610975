-- The orders of the two heaps of a queue; a heap has the greatest element on top.
use Rattle.std.specs.{Prelude.ℕ, declared.cmp.Ordering.Ordering, declared.cmp.Reverse.Reverse}
use Rattle.std.specs.Ordering.{nat_cmp, ordering_then}

-- the head and the index of an operation to come; the tail and the index of one that is released
abbrev pub Coming : Type 0
Coming = Reverse ℕ × ℕ

abbrev pub Released : Type 0
Released = ℕ × Reverse ℕ

-- the operation of least head is the greatest
abbrev pub by_head : Coming → Coming → Ordering
by_head x y = ordering_then (nat_cmp y.0.0 x.0.0) (nat_cmp x.1 y.1)

-- the operation of greatest tail is, and of lowest index on ties
abbrev pub by_tail : Released → Released → Ordering
by_tail x y = ordering_then (nat_cmp x.0 y.0) (nat_cmp y.1.0 x.1.0)
