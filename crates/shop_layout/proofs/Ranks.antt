-- Ranks of a machine and their positions.
use Rattle.std.proofs.Common.{◌≡◌, ℕ, ◌+◌, ◌-◌, ◌*◌, ◌≤◌, ◌<◌, List, get_or, arith}
use Rattle.shop_lanes.proofs.Columns.{index_fits, index_of_rank_of, rank_fits, rank_of_index}
use Rattle.shop_layout.specs.Positions.{position_at_rank}

-- the rank that stands at position q
pub record HasRank (blocks : List ℕ) (m q : ℕ) : Type 0 where
  pub rank : ℕ
  pub within : 8 * get_or blocks m 0 + rank < 8 * get_or blocks (m + 1) 0
  pub at : position_at_rank blocks m rank ≡ q

module _ (blocks : List ℕ) (m : ℕ) where
  abbrev count : ℕ
  count = get_or blocks (m + 1) 0 - get_or blocks m 0

  -- among the positions of the machine
  pub position_within : (i : ℕ) → 8 * get_or blocks m 0 + i < 8 * get_or blocks (m + 1) 0
      → position_at_rank blocks m i < 8 * get_or blocks (m + 1) 0
  position_within i here = let a = index_fits count i (omega arith) in omega (arith, a)

  -- each of which has a rank
  pub rank_at : (q : ℕ) → 8 * get_or blocks m 0 ≤ q → q < 8 * get_or blocks (m + 1) 0 → HasRank blocks m q
  rank_at q low high =
      let p = q - 8 * get_or blocks m 0
      in let inside : p < 8 * count = omega arith
      in let a = rank_fits count p inside
      in let b = index_of_rank_of count p inside
      in grind arith

  -- two ranks don't stand at one position
  pub same_rank : (i k : ℕ) → 8 * get_or blocks m 0 + i < 8 * get_or blocks (m + 1) 0
      → 8 * get_or blocks m 0 + k < 8 * get_or blocks (m + 1) 0
      → position_at_rank blocks m i ≡ position_at_rank blocks m k → i ≡ k
  same_rank i k here there at = grind (arith, rank_of_index count i (omega arith), rank_of_index count k (omega arith))
