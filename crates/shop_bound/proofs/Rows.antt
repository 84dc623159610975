-- Worked rows, computed from the definitions.
use Rattle.std.proofs.Common.{◌≡◌, ℕ, [], ◌∷◌, map, refl, Option, Some, None}
use Rattle.shop_model.proofs.Rows.{op, job, shop_a, shop_g, shop_z, shop_r}
use Rattle.shop_model.specs.{Shop.Shop, Word.{placing, rows_of}}
use Rattle.shop_bound.specs.{Bound.{waiting, triples_on, lb}, Heads.{head_if_left, tail_of}, OneMachine.one}

-- two jobs that cross: tails, heads once job 1's first step is placed, and bounds
tails_a : rows_of shop_a (tail_of shop_a) ≡ (2 ∷ 0 ∷ []) ∷ (4 ∷ 0 ∷ []) ∷ []
tails_a = refl

head_a : ℕ → ℕ → Option ℕ
head_a j k = head_if_left shop_a (placing shop_a (1 ∷ [])) j k

heads_a : head_a 0 0 ∷ head_a 0 1 ∷ head_a 1 0 ∷ head_a 1 1 ∷ head_a 0 2 ∷ head_a 2 0 ∷ []
    ≡ Some 0 ∷ Some 3 ∷ None ∷ Some 2 ∷ None ∷ None ∷ []
unfolding head_a
heads_a = refl

bounds_a : map (lb shop_a) ([] ∷ (1 ∷ []) ∷ (1 ∷ 1 ∷ []) ∷ (1 ∷ 0 ∷ []) ∷ (1 ∷ 0 ∷ 0 ∷ []) ∷ [])
    ≡ 7 ∷ 7 ∷ 11 ∷ 7 ∷ 7 ∷ []
bounds_a = refl

-- an operation of time 0
bounds_g : map (lb shop_g) ([] ∷ (1 ∷ []) ∷ (1 ∷ 1 ∷ []) ∷ (1 ∷ 0 ∷ []) ∷ (1 ∷ 1 ∷ 0 ∷ []) ∷ [])
    ≡ 9 ∷ 9 ∷ 10 ∷ 12 ∷ 10 ∷ []
bounds_g = refl

bounds_g_deeper : map (lb shop_g) ((1 ∷ 1 ∷ 0 ∷ 1 ∷ 0 ∷ 0 ∷ []) ∷ (1 ∷ 0 ∷ 1 ∷ 0 ∷ 1 ∷ []) ∷ (1 ∷ 0 ∷ 1 ∷ 0 ∷ 0 ∷ [])
    ∷ []) ≡ 10 ∷ 12 ∷ 14 ∷ []
bounds_g_deeper = refl

bound_z : lb shop_z [] ≡ 5
bound_z = refl

-- a release, and a job without operations
bounds_r : map (lb shop_r) ([] ∷ (0 ∷ 0 ∷ 1 ∷ 1 ∷ []) ∷ []) ≡ 10 ∷ 11 ∷ []
bounds_r = refl

-- Fisher and Thompson's 6 jobs on 6 machines
abbrev pub shop_ft06 : Shop
shop_ft06 = record {
  machines = 6;
  jobs =
      job (op 2 1 ∷ op 0 3 ∷ op 1 6 ∷ op 3 7 ∷ op 5 3 ∷ op 4 6 ∷ [])
      ∷ job (op 1 8 ∷ op 2 5 ∷ op 4 10 ∷ op 5 10 ∷ op 0 10 ∷ op 3 4 ∷ [])
      ∷ job (op 2 5 ∷ op 3 4 ∷ op 5 8 ∷ op 0 9 ∷ op 1 1 ∷ op 4 7 ∷ [])
      ∷ job (op 1 5 ∷ op 0 5 ∷ op 2 5 ∷ op 3 3 ∷ op 4 8 ∷ op 5 9 ∷ [])
      ∷ job (op 2 9 ∷ op 1 3 ∷ op 4 5 ∷ op 5 4 ∷ op 0 3 ∷ op 3 1 ∷ [])
      ∷ job (op 1 3 ∷ op 3 3 ∷ op 5 9 ∷ op 0 10 ∷ op 4 4 ∷ op 2 1 ∷ []) ∷ [];
}

machine_bounds_ft06 : map (λ m. one (triples_on m (waiting shop_ft06 (placing shop_ft06 []))))
    (0 ∷ 1 ∷ 2 ∷ 3 ∷ 4 ∷ 5 ∷ [])
    ≡ 48 ∷ 47 ∷ 47 ∷ 47 ∷ 52 ∷ 49 ∷ []
machine_bounds_ft06 = refl
