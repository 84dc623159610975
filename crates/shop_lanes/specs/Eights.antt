-- Eight numbers moved among their lanes, added, subtracted, and chosen from.
--     moved how xs                     moved up or down by one, two or four lanes, with zeros behind them; or with
--                                      halves, quarters or neighbours exchanged
--     waiting least heads xs           the numbers whose head is at least `least`, 0 in other lanes
--     later_head rest least head       `head` if it is at least `least`, else `rest`
--     ahead_of greatest from x         how far x lies ahead of `from`; 0 follows on `greatest`
--     is_between above upto x          x is above `above` and at most `upto`
--     is_marked equal number x         if `equal`, x is the number; else x is above 0 and at most the number
use Rattle.std.specs.Prelude.{◌≡◌, ℕ, ◌+◌, ◌-◌, ◌≤◌, Bool, ◌&&◌, ◌==◌, List, [], ◌∷◌, ◌++◌, length, replicate, map}
use Rattle.std.specs.{Prelude.{nat_le, nat_lt, if◌then◌else◌, slice_index}, Simd.Lanes.{pick_l, sel_l, zip2, Each2}}
use Rattle.shop_lanes.specs.{declared.blocks.Move.Move, declared.blocks.Move.TheVariants.{UpOne, UpTwo, UpFour}}
use Rattle.shop_lanes.specs.declared.blocks.Move.TheVariants.{DownOne, DownTwo, DownFour, Halves, Quarters, Neighbours}

abbrev pub eight_zeros : List ℕ
eight_zeros = 0 ∷ 0 ∷ 0 ∷ 0 ∷ 0 ∷ 0 ∷ 0 ∷ 0 ∷ []

-- the numbers moved among their lanes
abbrev pub moved : Move → List ℕ → List ℕ
moved UpOne v = pick_l 0 (v ++ eight_zeros) (8 ∷ 0 ∷ 1 ∷ 2 ∷ 3 ∷ 4 ∷ 5 ∷ 6 ∷ [])
moved UpTwo v = pick_l 0 (v ++ eight_zeros) (8 ∷ 8 ∷ 0 ∷ 1 ∷ 2 ∷ 3 ∷ 4 ∷ 5 ∷ [])
moved UpFour v = pick_l 0 (v ++ eight_zeros) (8 ∷ 8 ∷ 8 ∷ 8 ∷ 0 ∷ 1 ∷ 2 ∷ 3 ∷ [])
moved DownOne v = pick_l 0 (v ++ eight_zeros) (1 ∷ 2 ∷ 3 ∷ 4 ∷ 5 ∷ 6 ∷ 7 ∷ 8 ∷ [])
moved DownTwo v = pick_l 0 (v ++ eight_zeros) (2 ∷ 3 ∷ 4 ∷ 5 ∷ 6 ∷ 7 ∷ 8 ∷ 8 ∷ [])
moved DownFour v = pick_l 0 (v ++ eight_zeros) (4 ∷ 5 ∷ 6 ∷ 7 ∷ 8 ∷ 8 ∷ 8 ∷ 8 ∷ [])
moved Halves v = pick_l 0 (v ++ v) (4 ∷ 5 ∷ 6 ∷ 7 ∷ 0 ∷ 1 ∷ 2 ∷ 3 ∷ [])
moved Quarters v = pick_l 0 (v ++ v) (2 ∷ 3 ∷ 0 ∷ 1 ∷ 4 ∷ 5 ∷ 6 ∷ 7 ∷ [])
moved Neighbours v = pick_l 0 (v ++ v) (1 ∷ 0 ∷ 2 ∷ 3 ∷ 4 ∷ 5 ∷ 6 ∷ 7 ∷ [])

abbrev pub added : List ℕ → List ℕ → List ℕ
added = zip2 (λ a b. a + b)

abbrev pub AddsFit : ℕ → List ℕ → List ℕ → Type 0
AddsFit limit = Each2 (λ a b. a + b ≤ limit)

-- 0 where more is taken away than there is
abbrev pub lessened : List ℕ → List ℕ → List ℕ
lessened = zip2 (λ a b. a - b)

abbrev pub first_of : List ℕ → ℕ
first_of xs = slice_index xs 0

-- the same number in each of eight lanes
abbrev pub IsSplat : List ℕ → Type 0
IsSplat xs = xs ≡ replicate 8 (first_of xs)

abbrev pub waiting : ℕ → List ℕ → List ℕ → List ℕ
waiting least heads xs = sel_l (map (nat_le least) heads) xs (replicate (length heads) 0)

abbrev pub later_head : ℕ → ℕ → ℕ → ℕ
later_head rest least head = if nat_le least head then head else rest

abbrev pub ahead_of : ℕ → ℕ → ℕ → ℕ
ahead_of greatest from x = if nat_le from x then x - from else x + greatest + 1 - from

abbrev pub is_between : ℕ → ℕ → ℕ → Bool
is_between above upto x = nat_lt above x && nat_le x upto

abbrev pub is_marked : Bool → ℕ → ℕ → Bool
is_marked equal number x = if equal then x == number else is_between 0 number x
