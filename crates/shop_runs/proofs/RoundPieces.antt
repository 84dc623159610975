-- The pieces of a round that end at its opening bound.
use Rattle.std.proofs.Common.{◌≡◌, ℕ, zero, suc, ◌<◌, List, [], ◌∷◌, length, map, get_or, Bool, true, false, true≢false}
use Rattle.std.proofs.{Common.{sym, ◌∙◌, arith}, lemmas.List.{length-map, get_or-map}}
use Rattle.shop_runs.specs.Entries as entries
use Rattle.shop_runs.specs.{Entries.told, declared.rounds.Round.Round, Hits.{hits_of_round, is_hit_in, IsHitOrEnd}}

pub hits_length : (r : Round) → length (hits_of_round r) ≡ length r.pieces.items
hits_length r = length-map _ _ ∙ length-map r.pieces.items _

module _ {A : Type 0} (test : A → Bool) where
  mapped_inside : (xs : List A) (n : ℕ) → get_or (map test xs) n false ≡ true → n < length xs
  mapped_inside [] n h = absurd (true≢false (sym h))
  mapped_inside (x ∷ xs) zero h = omega arith
  mapped_inside (x ∷ xs) (suc n) h = let t = mapped_inside xs n h in omega arith

-- the board's hits are the round's
pub same_hit : (r : Round) (hits : List Bool) (n : ℕ) → hits ≡ hits_of_round r → n < length r.pieces.items
    → is_hit_in hits n ≡ entries.is_hit (told r) n
same_hit r hits n e below = grind (arith, length-map, get_or-map)

pub is_piece : (r : Round) (hits : List Bool) (n : ℕ) → hits ≡ hits_of_round r → is_hit_in hits n ≡ true
    → n < length r.pieces.items
is_piece r hits n e h = grind (arith, length-map, mapped_inside)

-- a number that was read, and is below that of a piece, is that of a piece which ends at the opening bound
pub read_hit : (r : Round) (hits : List Bool) (low n : ℕ) → hits ≡ hits_of_round r → IsHitOrEnd hits low → low < n
    → n < length r.pieces.items → entries.is_hit (told r) low ≡ true
read_hit r hits low n e found below inside = grind (arith, hits_length, same_hit)
