-- The search of one piece.
use Rattle.std.specs.Prelude.{ℕ, zero, suc, ◌-◌, Bool, true, false, Option, Some, None, List, [], ◌∷◌, ◌++◌, length}
use Rattle.std.specs.Prelude.{fold, nat_le}
use Rattle.shop_model.specs.Shop.{Shop, operation_count}
use Rattle.shop_bound.specs.Bound.{lb}
use Rattle.shop_nodes.specs.Branching.{branch}

-- What a walk carries: the last word found, the best makespan, the words left, and the budget left.
pub record Walk : Type 0 where
  pub found : Option (List ℕ)
  pub best : ℕ
  pub left : List (List ℕ)
  pub budget : ℕ

-- With no budget the word is left. Else the word is taken, the budget falls by one, and the walk
-- goes on.
abbrev pub taking : ℕ → Walk → List ℕ → (Walk → Walk) → Walk
taking zero s w go = record s { left = s.left ++ w ∷ [] }
taking (suc b) s w go = go (record s { budget = b })

abbrev pub unless_cut : Bool → Walk → (Walk → Walk) → Walk
unless_cut true s go = s
unless_cut false s go = go s

-- how many operations are not in w
abbrev pub operations_left : Shop → List ℕ → ℕ
operations_left shop w = operation_count shop - length w

-- A word is taken, and the walk goes on from it where its bound is below the best.
abbrev pub visiting : Shop → Walk → List ℕ → (Walk → Walk) → Walk
visiting shop s w go = taking s.budget s w (λ t. unless_cut (nat_le t.best (lb shop w)) t go)

-- A word that lacks no operation is found, and is the best; of another the children are walked.
abbrev pub walk_within : Shop → ℕ → Walk → List ℕ → Walk
walk_within shop zero s w = visiting shop s w (λ u. record u { found = Some w; best = lb shop w })
walk_within shop (suc n) s w = visiting shop s w (λ u. fold (walk_within shop n) u (branch shop w))

abbrev pub walk : Shop → Walk → List ℕ → Walk
walk shop s w = walk_within shop (operations_left shop w) s w

abbrev pub sheet : Shop → List (List ℕ) → ℕ → ℕ → Walk
sheet shop piece best budget = fold (walk shop)
    (record { found = None; best = best; left = []; budget = budget }) piece
