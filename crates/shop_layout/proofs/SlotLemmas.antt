-- The operations of one more step of a route.
use Rattle.std.proofs.Common.{arith, ◌≡◌, ℕ, ◌+◌, List, [], ◌∷◌, ◌++◌, get_or, map, eqb, append_assoc}
use Rattle.std.proofs.lemmas.{Bool.{eq-eqb, ne_eqb}, List.{append-nil, map-append, Elements.filter-append}}
use Rattle.std.specs.List.{filter, range_with_len}
use Rattle.shop_model.specs.{declared.ops.Op.Op, Shop.no_op}
use Rattle.shop_layout.specs.{declared.slots.Slot.Slot, Slots.slot_at}
use Rattle.shop_bound.{specs.Heads.tail_in, proofs.UnplacedTurns.range_more}

-- one more step of a route: it is on the machine
pub added_in : (route : List Op) (m j k tail : ℕ) (old now new : List Slot)
    → now ≡ old ++ map (slot_at route j) (filter (λ k. eqb (get_or route k no_op).machine m) (range_with_len 0 k))
    → (get_or route k no_op).machine ≡ m → tail ≡ tail_in route k
    → new ≡ now ++ record { job = j; step = k; time = (get_or route k no_op).time; tail = tail } ∷ []
    → new ≡ old ++ map (slot_at route j)
    (filter (λ k. eqb (get_or route k no_op).machine m) (range_with_len 0 (k + 1)))
added_in route m j k tail old now new before here is added =
    grind (arith, range_more, filter-append, eq-eqb, map-append, append_assoc)

-- or on another
pub added_out : (route : List Op) (m j k : ℕ) (old now : List Slot)
    → now ≡ old ++ map (slot_at route j) (filter (λ k. eqb (get_or route k no_op).machine m) (range_with_len 0 k))
    → ((get_or route k no_op).machine ≡ m → ⊥)
    → now ≡ old ++ map (slot_at route j)
    (filter (λ k. eqb (get_or route k no_op).machine m) (range_with_len 0 (k + 1)))
added_out route m j k old now before out = grind (arith, range_more, filter-append, ne_eqb, append-nil)
