-- Worked rows, computed from the definitions.
use Rattle.std.proofs.Common.{◌≡◌, ℕ, [], ◌∷◌, map, refl}
use Rattle.shop_bound.specs.{declared.triples.Triple.Triple, OneMachine.{span_of, one}}

triple : ℕ → ℕ → ℕ → Triple
triple h p q = record { head = h; time = p; tail = q }

-- the one-machine bound: of nothing, of two operations, and of one of two where the whole machine would give only 6
bounds_of_lists : map one ([] ∷ (triple 0 5 3 ∷ triple 1 1 6 ∷ []) ∷ (triple 0 1 0 ∷ triple 10 5 10 ∷ []) ∷ [])
    ≡ 0 ∷ 9 ∷ 25 ∷ []
unfolding triple
bounds_of_lists = refl

whole_machine : span_of (triple 0 1 0 ∷ triple 10 5 10 ∷ []) ≡ 6
unfolding triple
whole_machine = refl

-- what Jackson's schedule has to reach
bounds_of_schedules : map one ((triple 0 4 1 ∷ triple 2 2 5 ∷ []) ∷ (triple 0 4 9 ∷ triple 2 0 1 ∷ [])
    ∷ (triple 3 0 7 ∷ []) ∷ []) ≡ 9 ∷ 13 ∷ 10 ∷ []
unfolding triple
bounds_of_schedules = refl
