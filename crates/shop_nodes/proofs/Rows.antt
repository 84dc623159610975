-- Worked instances, computed: two jobs that cross, a last step of time 0, several steps of time 0.
use Rattle.std.proofs.Common.{◌≡◌, [], ◌∷◌, refl, Some, None, map}
use Rattle.shop_model.proofs.Rows.{shop_a, shop_g}
pub use Rattle.shop_model.proofs.Rows.{shop_z}
use Rattle.shop_bound.specs.Bound.{lb}
use Rattle.shop_nodes.specs.{Branching.{conflict, branch}, Walking.sheet}

pub lb_a : map (lb shop_a) ([] ∷ (1 ∷ []) ∷ (1 ∷ 1 ∷ []) ∷ (1 ∷ 0 ∷ 0 ∷ []) ∷ []) ≡ 7 ∷ 7 ∷ 11 ∷ 7 ∷ []
lb_a = refl

pub lb_g : map (lb shop_g) ([] ∷ (1 ∷ 1 ∷ []) ∷ (1 ∷ 0 ∷ []) ∷ []) ≡ 9 ∷ 10 ∷ 12 ∷ []
lb_g = refl

pub conflict_a : map (conflict shop_a) ([] ∷ (1 ∷ []) ∷ []) ≡ (1 ∷ []) ∷ (0 ∷ 1 ∷ []) ∷ []
conflict_a = refl

-- the chosen operation begins where it can end, and is in the set
pub conflict_z : conflict shop_z [] ≡ 1 ∷ []
conflict_z = refl

-- by bound: 10 and 12
pub branch_g : branch shop_g (1 ∷ []) ≡ (1 ∷ 1 ∷ []) ∷ (1 ∷ 0 ∷ []) ∷ []
branch_g = refl

-- the optimum after 6 nodes, with room for more
pub sheet_a : sheet shop_a ([] ∷ []) 11 100
    ≡ record { found = Some (1 ∷ 0 ∷ 0 ∷ 1 ∷ []); best = 7; left = []; budget = 94 }
sheet_a = refl

-- with 5 a word is left
pub sheet_a_5 : sheet shop_a ([] ∷ []) 11 5
    ≡ record { found = Some (1 ∷ 0 ∷ 0 ∷ 1 ∷ []); best = 7; left = (1 ∷ 1 ∷ []) ∷ []; budget = 0 }
sheet_a_5 = refl

-- with 1 nothing is found
pub sheet_a_1 : sheet shop_a ([] ∷ []) 11 1 ≡ record { found = None; best = 11; left = (1 ∷ []) ∷ []; budget = 0 }
sheet_a_1 = refl

-- makespan 5 after 8 nodes
pub sheet_z : sheet shop_z ([] ∷ []) 10 100
    ≡ record { found = Some (1 ∷ 0 ∷ 0 ∷ 1 ∷ 0 ∷ 1 ∷ []); best = 5; left = []; budget = 92 }
sheet_z = refl

-- makespan 10 after 8 nodes
pub sheet_g : sheet shop_g ([] ∷ []) 16 100
    ≡ record { found = Some (1 ∷ 1 ∷ 0 ∷ 1 ∷ 0 ∷ 0 ∷ []); best = 10; left = []; budget = 92 }
sheet_g = refl

-- with 3 nothing is found, and two words are left, of bounds 10 and 12
pub sheet_g_3 : sheet shop_g ([] ∷ []) 16 3
    ≡ record { found = None; best = 16; left = (1 ∷ 1 ∷ 0 ∷ []) ∷ (1 ∷ 0 ∷ []) ∷ []; budget = 0 }
sheet_g_3 = refl

pub lb_left_g : map (lb shop_g) ((1 ∷ 1 ∷ 0 ∷ []) ∷ (1 ∷ 0 ∷ []) ∷ []) ≡ 10 ∷ 12 ∷ []
lb_left_g = refl

-- what three nodes leave of two pieces
pub sheets_of_3 : map (λ w. sheet shop_g (w ∷ []) 16 3) ((1 ∷ 1 ∷ 0 ∷ []) ∷ (1 ∷ 0 ∷ []) ∷ [])
    ≡ record { found = None; best = 16; left = (1 ∷ 1 ∷ 0 ∷ 1 ∷ 0 ∷ 0 ∷ []) ∷ []; budget = 0 }
    ∷ record { found = None; best = 16; left = (1 ∷ 0 ∷ 1 ∷ 0 ∷ 1 ∷ []) ∷ (1 ∷ 0 ∷ 1 ∷ 0 ∷ 0 ∷ []) ∷ []; budget = 0 }
    ∷ []
sheets_of_3 = refl

-- and of these: makespans 10, 12 and 14 after 1, 2 and 2 nodes
pub sheets_of_full : map (λ w. (sheet shop_g (w ∷ []) 16 3).best)
    ((1 ∷ 1 ∷ 0 ∷ 1 ∷ 0 ∷ 0 ∷ []) ∷ (1 ∷ 0 ∷ 1 ∷ 0 ∷ 1 ∷ []) ∷ (1 ∷ 0 ∷ 1 ∷ 0 ∷ 0 ∷ []) ∷ [])
    ≡ 10 ∷ 12 ∷ 14 ∷ []
sheets_of_full = refl

pub budgets_of_full : map (λ w. (sheet shop_g (w ∷ []) 16 3).budget)
    ((1 ∷ 1 ∷ 0 ∷ 1 ∷ 0 ∷ 0 ∷ []) ∷ (1 ∷ 0 ∷ 1 ∷ 0 ∷ 1 ∷ []) ∷ (1 ∷ 0 ∷ 1 ∷ 0 ∷ 0 ∷ []) ∷ [])
    ≡ 2 ∷ 1 ∷ 1 ∷ []
budgets_of_full = refl
