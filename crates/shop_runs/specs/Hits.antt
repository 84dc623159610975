-- Which pieces of a round end at the opening bound, in number order.
--     hits_of_round r    for each piece whether it ends at the opening bound
--     is_hit_in hits n   piece n ends at the opening bound
--     IsHitOrEnd hits n  n is the number of a piece that does, or the number of all pieces
--     IsLeastHit hits n  n is the least number of a piece that does; where none does, the number of all pieces
use Rattle.std.specs.Prelude.{◌≡◌, ℕ, ◌<◌, ◌≤◌, List, length, map, Bool, true, false, ◌==◌, ◌⊎◌, slice_index_or}
use Rattle.shop_runs.specs.{Round.{Told, sheet_in}, Entries.told, declared.rounds.Round.Round}

abbrev pub hits_in : Told → List Bool
hits_in r = map (λ piece. (sheet_in r piece).best == r.bound) r.pieces

abbrev pub hits_of_round : Round → List Bool
hits_of_round r = hits_in (told r)

abbrev pub is_hit_in : List Bool → ℕ → Bool
is_hit_in hits n = slice_index_or hits n false

abbrev pub IsHitOrEnd : List Bool → ℕ → Type 0
IsHitOrEnd hits n = (n ≡ length hits) ⊎ (is_hit_in hits n ≡ true)

pub record IsLeastHit (hits : List Bool) (n : ℕ) : Type 0 where
  pub hit : IsHitOrEnd hits n
  pub least : (m : ℕ) → m < length hits → is_hit_in hits m ≡ true → n ≤ m
