-- Branching on the conflict set (Giffler and Thompson 1960).
pub use Rattle.shop_bound.specs.Conflicts.{open_jobs, next_machine, next_head, next_end, chosen_of, conflicts_with}
pub use Rattle.shop_bound.specs.Conflicts.{conflict_among, conflict}
use Rattle.std.specs.Prelude.{ℕ, if◌then◌else◌, List, [], ◌∷◌, ◌++◌, map, nat_le}
use Rattle.shop_model.specs.Shop.{Shop}
use Rattle.shop_bound.specs.Bound.{lb}

-- x before the first element whose key isn't below its own: ties keep their order
abbrev pub insert_by : {A : Type 0} → (A → ℕ) → A → List A → List A
insert_by key x [] = x ∷ []
insert_by key x (y ∷ ys) = if nat_le (key x) (key y) then x ∷ y ∷ ys else y ∷ insert_by key x ys

abbrev pub sort_by : {A : Type 0} → (A → ℕ) → List A → List A
sort_by key [] = []
sort_by key (x ∷ xs) = insert_by key x (sort_by key xs)

-- the children of w, by bound, then by job
abbrev pub branch : Shop → List ℕ → List (List ℕ)
branch shop w = sort_by (lb shop) (map (λ j. w ++ j ∷ []) (conflict shop w))
