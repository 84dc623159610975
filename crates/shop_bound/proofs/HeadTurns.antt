-- Heads, as a walk along a route finds them.
use Rattle.std.proofs.Common.{◌≡◌, ℕ, ◌+◌, ◌*◌, ◌-◌, ◌≤◌, ◌<◌, max, List, length, map, get_or, Option, Some, None, refl}
use Rattle.std.proofs.{Common.arith, lemmas.Bool.{cases_lt, lt-leb, lt-ltb, le-leb, Decides.nat_tests}}
use Rattle.std.proofs.lemmas.List.{get_or_past, FromFn.{get_or-map-range_with_len, length-map-range_with_len}}
use Rattle.std.specs.List.{range_with_len}
use Rattle.shop_model.specs.{declared.ops.Op.Op, Limits.IsWithinLimits, Shop.{Shop, no_op, route_of, time_of}}
use Rattle.shop_model.specs.{Word.Placing, Placements.{PlacementState, IsPlacement}}
use Rattle.shop_model.proofs.WordLengths.{word_length, ready_word}
use Rattle.shop_bound.specs.{Heads.{ready_after, head_of, head_if_left, heads_at}, inner.HeadRows.heads_of}
use Rattle.shop_bound.specs.inner.PlacedWords.{IsOfWord}

-- the ends of what a word places are small
pub record AreEndsSmall (shop : Shop) (s : PlacementState) : Type 0 where
  pub ready : (j : ℕ) → j < length shop.jobs → get_or s.ready j 0 ≤ 1000000000000000
  pub free : (m : ℕ) → m < shop.machines → get_or s.free m 0 ≤ 1000000000000000

pub ends_of_word : (shop : Shop) → IsWithinLimits shop → (s : PlacementState) → IsOfWord shop s → AreEndsSmall shop s
ends_of_word shop limits s of = grind (arith, word_length shop of.word limits of.fits, ready_word shop limits of.word)

-- before the first step, and after one that isn't placed
pub ready_first : (shop : Shop) (p : Placing) (j k : ℕ) → k ≤ p.steps j
    → ready_after shop p j (k - p.steps j) ≡ p.ready j
ready_first shop p j k h = let e : k - p.steps j ≡ 0 = omega arith in rw e refl

pub ready_more : (shop : Shop) (p : Placing) (j k : ℕ) → p.steps j ≤ k
    → ready_after shop p j (k + 1 - p.steps j) ≡ head_of shop p j k + time_of shop j k
ready_more shop p j k h = grind arith

-- a head is there just where the operation is one that isn't placed
pub head_none : (shop : Shop) (p : Placing) (j k : ℕ) → k < p.steps j → head_if_left shop p j k ≡ None
head_none shop p j k h = rw (lt-leb (p.steps j) k h) refl

-- one step of the walk
module _ (shop : Shop) (s : PlacementState) (j : ℕ) (job : j < length shop.jobs) (placed : ℕ)
    (placed_is : placed ≡ get_or s.steps j 0)
    (k ready : ℕ) where
  abbrev pub IsReady : Type 0
  IsReady = (p : Placing) → IsPlacement shop p s → ready ≡ ready_after shop p j (k - p.steps j)

  pub placed_turn : IsReady → k < placed → (p : Placing) → IsPlacement shop p s
      → (None ≡ head_if_left shop p j k) × (ready ≡ ready_after shop p j (k + 1 - p.steps j))
  placed_turn known h p is = grind (arith, ready_first, head_none)

  pub left_turn : IsReady → placed ≤ k → (limits : IsWithinLimits shop) → (route : List Op) → route ≡ route_of shop j
      → k < length route
      → (f head : ℕ) → f ≡ get_or s.free (get_or route k no_op).machine 0 → head ≡ max ready f → (p : Placing)
      → IsPlacement shop p s
      → (Some head ≡ head_if_left shop p j k) × (head + (get_or route k no_op).time
      ≡ ready_after shop p j (k + 1 - p.steps j))
  left_turn known h limits route e below f head read greater p is = grind (arith, ready_more, le-leb, lt-ltb)

-- and its sum is small
pub left_small : (shop : Shop) → IsWithinLimits shop → (s : PlacementState) → AreEndsSmall shop s
    → (j : ℕ) (route : List Op)
    → route ≡ route_of shop j → (k ready f head : ℕ) → f ≡ get_or s.free (get_or route k no_op).machine 0
    → head ≡ max ready f
    → ready ≤ 1000000000000000 + k * 1000000000
    → head + (get_or route k no_op).time ≤ 1000000000000000 + (k + 1) * 1000000000
left_small shop limits s small j route e k ready f head read greater so_far = grind arith

-- the rows of the heads, one a job, tell each head
pub rows_tell : (shop : Shop) (p : Placing) (rows : List (List (Option ℕ)))
    → rows ≡ map (heads_of shop p) (range_with_len 0 (length shop.jobs))
    → (j k : ℕ) → heads_at rows j k ≡ head_if_left shop p j k
rows_tell shop p rows e j k =
    grind (arith, cases_lt, get_or-map-range_with_len, get_or_past, length-map-range_with_len, nat_tests)
