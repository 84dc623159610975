-- The operations that wait, as the walk along the routes lists them, have the heads and the tails of their
-- definitions.
use Rattle.std.proofs.Common.{◌≡◌, ℕ, ◌+◌, ◌-◌, ◌≤◌, List, [], ◌∷◌, length, map, drop, refl, arith}
use Rattle.std.{proofs.lemmas.List.length-drop, specs.List.{flat_map, range_with_len}}
use Rattle.shop_model.specs.{declared.ops.Op.Op, Shop.{Shop, route_of}, Word.Placing}
use Rattle.shop_bound.specs.{Bound.{waiting_from, waiting_of, waiting}, Heads.{ready_after, waiting_at, steps_left}}
use Rattle.shop_bound.proofs.{HeadTurns.{ready_first, ready_more}, BoundLaw.front_of}

module _ (shop : Shop) (p : Placing) (j : ℕ) where
  -- from step k on
  walk_from : (k : ℕ) (os : List Op) → drop k (route_of shop j) ≡ os → p.steps j ≤ k
      → waiting_from p.free j k (ready_after shop p j (k - p.steps j)) os
      ≡ map (waiting_at shop p j) (range_with_len k (length os))
  walk_from k [] e h = refl
  walk_from k (o ∷ os) e h = grind (arith, front_of, ready_more, walk_from (k + 1) os)

  waiting_of-is : waiting_of shop p j ≡ map (waiting_at shop p j) (steps_left shop p j)
  waiting_of-is =
      let first = ready_first shop p j (p.steps j) (omega arith)
      in let walk = walk_from (p.steps j) (drop (p.steps j) (route_of shop j)) refl (omega arith)
      in grind (arith, first, walk, length-drop)

flat_map-same : {A : Type 0} (f g : ℕ → List A) (h : (j : ℕ) → f j ≡ g j) → (js : List ℕ)
    → flat_map f js ≡ flat_map g js
flat_map-same f g h [] = refl
flat_map-same f g h (j ∷ js) = grind (arith, flat_map-same f g h js)

pub waiting_is : (shop : Shop) (p : Placing)
    → waiting shop p ≡ flat_map (λ j. map (waiting_at shop p j) (steps_left shop p j))
    (range_with_len 0 (length shop.jobs))
waiting_is shop p = grind (arith, flat_map-same, waiting_of-is)
