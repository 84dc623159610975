-- Worked rows: lanes served by hand, and the bits of a number.
use Rattle.std.{specs.Prelude.{◌≡◌, ℕ, List, [], ◌∷◌}, proofs.Common.refl}
use Rattle.shop_lanes.specs.{Rows.{Rows, Lane, lanes_between, index_at_rank, by_columns}, Marks.positions_below}
use Rattle.shop_lanes.specs.{Spans.{span, spans_between, own_span}, SetBits.set_bits}

-- three operations with heads of 3, 1 and 6, and a position where nothing waits
abbrev pub three : List Lane
three =
    record { head = 3; time = 4; tail = 9 } ∷ record { head = 1; time = 2; tail = 5 }
    ∷ record { head = 6; time = 3; tail = 1 } ∷ record { head = 0; time = 0; tail = 0 } ∷ []

-- all from 10 on: they end at 14, 16 and 19, with their tails at 23, 21 and 20
pub all_from_10 : span 1 10 three ≡ 23
all_from_10 = refl

-- the first and the third from 0 on: at 4 and 7, with their tails at 13 and 8
pub two_from_0 : span 3 0 three ≡ 13
two_from_0 = refl

pub third_alone : span 6 6 three ≡ 10
third_alone = refl

pub none_so_late : span 7 5 three ≡ 0
none_so_late = refl

-- with equal tails the last one ends last: at 4, 6 and 9, with their tails at 7, 9 and 12
pub last_ends_last :
    span 1 0
    (record { head = 1; time = 4; tail = 3 } ∷ record { head = 1; time = 2; tail = 3 }
    ∷ record { head = 1; time = 3; tail = 3 } ∷ [])
    ≡ 12
last_ends_last = refl

-- from 3 on the first and the third give 16, from 6 on the third gives 10
pub heads_above_1 : spans_between 1 6 three ≡ 16
heads_above_1 = refl

pub heads_above_3 : spans_between 3 6 three ≡ 10
heads_above_3 = refl

-- from 1 on all three: at 5, 7 and 10, with their tails at 14, 12 and 11
pub heads_up_to_2 : spans_between 0 2 three ≡ 14
heads_up_to_2 = refl

pub no_such_heads : spans_between 6 9 three ≡ 0
no_such_heads = refl

-- two blocks: something waits at positions 0, 1, 2, 9 and 15
abbrev pub two_blocks : Rows
two_blocks = record {
  heads = 3 ∷ 1 ∷ 6 ∷ 0 ∷ 0 ∷ 0 ∷ 0 ∷ 0 ∷ 0 ∷ 5 ∷ 0 ∷ 0 ∷ 0 ∷ 0 ∷ 0 ∷ 2 ∷ [];
  times = 4 ∷ 2 ∷ 3 ∷ 0 ∷ 0 ∷ 0 ∷ 0 ∷ 0 ∷ 0 ∷ 7 ∷ 0 ∷ 0 ∷ 0 ∷ 0 ∷ 0 ∷ 1 ∷ [];
  tails = 9 ∷ 5 ∷ 1 ∷ 0 ∷ 0 ∷ 0 ∷ 0 ∷ 0 ∷ 8 ∷ 8 ∷ 0 ∷ 0 ∷ 0 ∷ 0 ∷ 0 ∷ 2 ∷ [];
  ends = 7 ∷ 3 ∷ 3 ∷ 9 ∷ [];
}

pub below_4 : positions_below two_blocks 0 1 4 ≡ 0 ∷ 1 ∷ []
below_4 = refl

-- 3 isn't below 3
pub below_3 : positions_below two_blocks 0 1 3 ≡ 1 ∷ []
below_3 = refl

pub second_block : positions_below two_blocks 1 2 6 ≡ 9 ∷ 15 ∷ []
second_block = refl

-- from 20 on at 27 and 28, with their tails at 35 and 30
pub second_block_from_20 : span 1 20 (lanes_between two_blocks 1 2) ≡ 35
second_block_from_20 = refl

-- in two blocks rank 0 stands in the first lane of the first one, rank 1 in the first lane of the second one
pub second_rank : index_at_rank 2 1 ≡ 8
second_rank = refl

pub last_rank : index_at_rank 2 15 ≡ 15
last_rank = refl

-- in three blocks the sixth rank is the last one of the second lanes
pub sixth_rank : index_at_rank 3 5 ≡ 17
sixth_rank = refl

pub one_block : by_columns {A = ℕ} 1 (3 ∷ 1 ∷ 4 ∷ 1 ∷ 5 ∷ 9 ∷ 2 ∷ 6 ∷ []) ≡ 3 ∷ 1 ∷ 4 ∷ 1 ∷ 5 ∷ 9 ∷ 2 ∷ 6 ∷ []
one_block = refl

pub two_columns :
    by_columns {A = ℕ} 2
    (0 ∷ 1 ∷ 2 ∷ 3 ∷ 4 ∷ 5 ∷ 6 ∷ 7 ∷ 8 ∷ 9 ∷ 10 ∷ 11 ∷ 12 ∷ 13 ∷ 14 ∷ 15 ∷ [])
    ≡ 0 ∷ 8 ∷ 1 ∷ 9 ∷ 2 ∷ 10 ∷ 3 ∷ 11 ∷ 4 ∷ 12 ∷ 5 ∷ 13 ∷ 6 ∷ 14 ∷ 7 ∷ 15 ∷ []
two_columns = refl

-- both blocks by columns from 0 on, positions 0, 1, 9, 2 and 15: at 4, 6, 13, 16 and 17, with their tails at 13, 11,
-- 21, 17 and 19
pub both_blocks : span 1 0 (lanes_between two_blocks 0 2) ≡ 21
both_blocks = refl

-- 10 is 1010 in binary
pub bits_of_10 : set_bits 4 16 10 ≡ 17 ∷ 19 ∷ []
unfolding set_bits
bits_of_10 = refl

-- the first operation of three ends at 7; behind it the second ends at 9 and the third at 12, with their tails at 14
-- and 13, where the second block isn't looked at
pub own_span_of_first : own_span two_blocks.heads two_blocks.times two_blocks.tails 0 1 0 ≡ 14
own_span_of_first = refl

-- the third ends at 9, and then the others at 13 and 15, with their tails at 22 and 20
pub own_span_of_third : own_span two_blocks.heads two_blocks.times two_blocks.tails 0 1 2 ≡ 22
own_span_of_third = refl

-- nothing waits beside it: its end alone
pub own_span_alone : own_span (5 ∷ 0 ∷ 0 ∷ 0 ∷ 0 ∷ 0 ∷ 0 ∷ 0 ∷ []) (7 ∷ 0 ∷ 0 ∷ 0 ∷ 0 ∷ 0 ∷ 0 ∷ 0 ∷ [])
    (9 ∷ 0 ∷ 0 ∷ 0 ∷ 0 ∷ 0 ∷ 0 ∷ 0 ∷ []) 0 1 0
    ≡ 12
own_span_alone = refl
