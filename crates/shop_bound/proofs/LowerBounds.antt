-- The lower bound of a word, machine by machine.
use Rattle.std.proofs.Common.{rules, ◌≡◌, ◌≤◌, ◌<◌, ◌+◌, ℕ, zero, suc, max, List, [], ◌∷◌, length, map, get_or, set}
use Rattle.std.proofs.{Common.{All, ◌∙◌, add-one, ap, arith}, lemmas.List.{length-set, get_or-map}}
use Rattle.std.specs.{Prelude.{Vec, vec_capacity}, declared.alloc.Global.Global}
use Rattle.shop_bound.specs.{declared.triples.Triple.Triple, Bound.{waiting, triples_on, lb}, OneMachine.{one, IsSmall}}
use Rattle.shop_bound.specs.{declared.lower.BoundRoom.BoundRoom, inner.BoundRooms.IsRoomFor}
use Rattle.shop_bound.specs.{inner.MachineLists.{rows_in, visits_in, HaveRoom}, inner.Unplaced.{bound_on, AreUnplaced}}
use Rattle.shop_model.specs.{Limits.IsWithinLimits, Shop.{Shop, greatest_below}, Word.{IsWord, Placing, placing}}
use Rattle.shop_model.specs.Placements.{PlacementState, IsPlacement}
pub use Rattle.shop_model.proofs.Greatest.{greatest_below-both, greatest_below-equal}
use Rattle.shop_bound.proofs.MachineListTurns.{row_read, row_other, keeps_room, keep_have_room}
use Rattle.shop_bound.proofs.{PlacedEnds.placed_end-free, SmallSums.triples_small}

-- the greatest of what machines and what waits for them say is the bound of the word
pub lower_bound_is : (shop : Shop) (w : List ℕ) → IsWithinLimits shop → IsWord shop w
    → greatest_below shop.machines (bound_on shop (placing shop w)) ≡ lb shop w
lower_bound_is shop w limits word = search (rules, greatest_below-both, placed_end-free)

-- the first n machines are bounded, and what waits for the others is listed still
pub record HasBounded (shop : Shop) (s : PlacementState) (n b : ℕ) (r : BoundRoom) : Type 0 where
  pub bound : (p : Placing) → IsPlacement shop p s → b ≡ greatest_below n (bound_on shop p)
  pub left : (p : Placing) → IsPlacement shop p s → (m : ℕ) → n ≤ m → m < shop.machines
      → get_or (rows_in r.lists.items) m [] ≡ triples_on m (waiting shop p)
  pub few : (m : ℕ) → n ≤ m → m < shop.machines → length (get_or (rows_in r.lists.items) m []) ≤ visits_in shop m
  pub room : IsRoomFor shop r

-- one machine more
module _ (shop : Shop) (s : PlacementState) (n b : ℕ) (r : BoundRoom) (before : HasBounded shop s n b r)
    (known : n < shop.machines) (now : Vec Triple Global) (read : now ≡ get_or r.lists.items n now) where
  here : n < length r.lists.items
  here = let machines = before.room.lists.machines in omega arith

  pub row_of_machine : get_or (rows_in r.lists.items) n [] ≡ now.items
  row_of_machine = row_read r.lists.items n now now here read

  pub one_bounded : (free result : ℕ) (given : List Triple) (new : BoundRoom) (after : Vec Triple Global)
      → free ≡ get_or s.free n 0 → given ≡ now.items → result ≡ max (max b free) (one given)
      → new.lists.items ≡ set r.lists.items n after → vec_capacity now ≤ vec_capacity after
      → new.jackson.room ≡ r.jackson.room → HasBounded shop s (n + 1) result new
  one_bounded free result given new after is_free same is lists more room =
      grind (arith, row_of_machine, add-one, keep_have_room, keeps_room, here, length-set, row_other)

-- a value of a list, where the function has it at the element
mapped_at : {A : Type 0} (f : A → ℕ) (xs : List A) (i v : ℕ) → i < length xs → ((d : A) → f (get_or xs i d) ≡ v)
    → get_or (map f xs) i 0 ≡ v
mapped_at f [] i v here h = absurd (omega arith)
mapped_at f (x ∷ xs) zero v here h = h x
mapped_at f (x ∷ xs) (suc i) v here h = mapped_at f xs i v (omega arith) h

-- the lists of what waits for each machine can be bounded, and their bounds are those of the machines
module _ (shop : Shop) (limits : IsWithinLimits shop) (w : List ℕ) (word : IsWord shop w) (s : PlacementState)
    (is : IsPlacement shop (placing shop w) s) (lists : List (Vec Triple Global)) (room : HaveRoom shop lists)
    (unplaced : AreUnplaced shop s (rows_in lists)) where
  row_of : (m : ℕ) (d : Vec Triple Global) → m < shop.machines → (get_or lists m d).items ≡ get_or (rows_in lists) m []
  row_of m d known = grind (arith, get_or-map)

  left_on : (m : ℕ) (d : Vec Triple Global) → m < shop.machines
      → (get_or lists m d).items ≡ triples_on m (waiting shop (placing shop w))
  left_on m d known = row_of m d known ∙ unplaced (placing shop w) is m known

  pub lists_few : (r : ℕ) → ((m : ℕ) → m < shop.machines → visits_in shop m ≤ r)
      → ((m : ℕ) → m < shop.machines → length (get_or (rows_in lists) m []) ≤ visits_in shop m)
      → All (λ list. length list.items ≤ r) lists
  lists_few r schedule few m d here = grind (arith, row_of)

  pub lists_small : All (λ list. IsSmall list.items) lists
  lists_small m d here = grind (arith, left_on, triples_small shop limits w word m)

  pub lists_bounds : (bounds : List ℕ) → bounds ≡ map (λ list. one list.items) lists → (m : ℕ) → m < shop.machines
      → get_or bounds m 0 ≡ one (triples_on m (waiting shop (placing shop w)))
  lists_bounds bounds e m known =
      ap (λ (ns : List ℕ). get_or ns m 0) e
      ∙ mapped_at (λ (list : Vec Triple Global). one list.items) lists m
      (one (triples_on m (waiting shop (placing shop w)))) (let machines = room.machines in omega arith)
      (λ d. ap (λ (ts : List Triple). one ts) (left_on m d known))
