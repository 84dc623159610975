-- Machines under other names, and jobs in another order.
use Rattle.std.proofs.{lemmas.Grind.common_steps, Common.{sym, ap, ◌∙◌, arith, ◌≡◌, ℕ, zero, suc, ◌<◌, cond, eqb, inl}}
use Rattle.std.proofs.{Common.{inr, List, [], ◌∷◌, length, get_or, map, refl}, lemmas.Bool.{cases_eq, eq-eqb, ne_eqb}}
use Rattle.std.proofs.lemmas.List.{length-map, Edits.swapped_from_swap, Sorted.{IsPermutation-keeps, IsPermutation-sym}}
use Rattle.std.specs.List.{swap, Sorted.IsPermutation}
use Rattle.shop_model.specs.declared.ops.Op.{Op}
use Rattle.shop_model.specs.Shop.{Shop, ShopJob, no_job, no_op, release_of, route_of, machine_of, time_of, IsOperation}
use Rattle.shop_engine.specs.{Easier.{AsksNoMore, AskTheSame}, Relaxations.{IsRelaxation, shop_with}}
use Rattle.shop_engine.specs.Renaming.{renamed_op, renamed_job, renamed_machines, RenamingAsksTheSame}
use Rattle.shop_engine.proofs.Relaxing.{relaxed, moved_jobs}

-- ---- machines under other names

module _ (f : ℕ → ℕ) where
  route_at : (js : List ShopJob) (j : ℕ)
      → (get_or (map (renamed_job f) js) j no_job).route ≡ map (renamed_op f) (get_or js j no_job).route
  route_at [] j = refl
  route_at (x ∷ js) zero = refl
  route_at (x ∷ js) (suc j) = route_at js j

  release_at : (js : List ShopJob) (j : ℕ)
      → (get_or (map (renamed_job f) js) j no_job).release ≡ (get_or js j no_job).release
  release_at [] j = refl
  release_at (x ∷ js) zero = refl
  release_at (x ∷ js) (suc j) = release_at js j

  time_at : (os : List Op) (l : ℕ) → (get_or (map (renamed_op f) os) l no_op).time ≡ (get_or os l no_op).time
  time_at [] l = refl
  time_at (o ∷ os) zero = refl
  time_at (o ∷ os) (suc l) = time_at os l

  machine_at : (os : List Op) (l : ℕ) → l < length os
      → (get_or (map (renamed_op f) os) l no_op).machine ≡ f (get_or os l no_op).machine
  machine_at [] l h = absurd (omega arith)
  machine_at (o ∷ os) zero h = refl
  machine_at (o ∷ os) (suc l) h = machine_at os l (omega arith)

  machine_is : (shop : Shop) (j k : ℕ) → IsOperation shop j k
      → machine_of (renamed_machines f shop) j k ≡ f (machine_of shop j k)
  machine_is shop j k op = grind (arith, route_at, machine_at)

  length_is : (shop : Shop) (j : ℕ) → length (route_of (renamed_machines f shop) j) ≡ length (route_of shop j)
  length_is shop j = ap length (route_at shop.jobs j) ∙ length-map (route_of shop j) (renamed_op f)

  module _ (one : (m n : ℕ) → f m ≡ f n → m ≡ n) (shop : Shop) where
    time_is : (j k : ℕ) → time_of (renamed_machines f shop) j k ≡ time_of shop j k
    time_is j k = ap (λ (os : List Op). (get_or os k no_op).time) (route_at shop.jobs j) ∙ time_at (route_of shop j) k

    release_is : (j : ℕ) → release_of (renamed_machines f shop) j ≡ release_of shop j
    release_is j = release_at shop.jobs j

    there : (j k : ℕ) → IsOperation shop j k → IsOperation (renamed_machines f shop) j k
    there j k op = let e = length_is shop j in omega arith

    back : (j k : ℕ) → IsOperation (renamed_machines f shop) j k → IsOperation shop j k
    back j k op = let e = length_is shop j in omega arith

    eased : IsRelaxation shop (renamed_machines f shop)
    eased = record {
      job = λ j. j;
      step = λ j k. k;
      operations = there;
      in_order = λ j k op. omega arith;
      different = λ j k i l op other different. different;
      times = λ j k op. let e = time_is j k in omega arith;
      releases = λ j op. let e = release_is j in omega arith;
      machines = λ j k i l op other same. machine_is shop j k op ∙ ap f same ∙ sym (machine_is shop i l other);
    }

    eased_back : IsRelaxation (renamed_machines f shop) shop
    eased_back = record {
      job = λ j. j;
      step = λ j k. k;
      operations = back;
      in_order = λ j k op. omega arith;
      different = λ j k i l op other different. different;
      times = λ j k op. let e = time_is j k in omega arith;
      releases = λ j op. let e = release_is j in omega arith;
      machines = λ j k i l op other same. one (machine_of shop j k) (machine_of shop i l)
          (sym (machine_is shop j k (back j k op)) ∙ same ∙ machine_is shop i l (back i l other));
    }

    machines : AskTheSame shop (renamed_machines f shop)
    machines = (
      relaxed shop (renamed_machines f shop) eased,
      relaxed (renamed_machines f shop) shop eased_back,
    )

-- ---- jobs in another order

-- a and b in each other's place
turned : ℕ → ℕ → ℕ → ℕ
turned a b j = cond (eqb j a) b (cond (eqb j b) a j)

turned_back : (a b j : ℕ) → turned a b (turned a b j) ≡ j
unfolding turned
turned_back a b j = grind (arith, common_steps, cases_eq, eq-eqb, ne_eqb)

turned_one : (a b j i : ℕ) → turned a b j ≡ turned a b i → j ≡ i
turned_one a b j i e = sym (turned_back a b j) ∙ ap (turned a b) e ∙ turned_back a b i

module _ (jobs : List ShopJob) (a b : ℕ) (low : a < length jobs) (high : b < length jobs) where
  turned_same : (j : ℕ) → get_or jobs (turned a b j) no_job ≡ get_or (swap jobs a b) j no_job
  unfolding turned
  turned_same j =
      let moved = swapped_from_swap jobs (swap jobs a b) a b no_job low high refl
      in elim (cases_eq j a) [
        | inl e ↦ rw (eq-eqb j a e) (sym moved.0 ∙ ap (λ (i : ℕ). get_or (swap jobs a b) i no_job) (sym e))
        | inr n ↦ elim (cases_eq j b) [
          | inl e ↦ rw (ne_eqb j a n, eq-eqb j b e)
              (sym moved.1 ∙ ap (λ (i : ℕ). get_or (swap jobs a b) i no_job) (sym e))
          | inr m ↦ rw (ne_eqb j a n, ne_eqb j b m) (sym (moved.2 j n m))
        ]
      ]

any_order : (machines : ℕ) (jobs others : List ShopJob) → IsPermutation jobs others
    → AsksNoMore (shop_with machines others) (shop_with machines jobs)
any_order machines jobs others p =
    IsPermutation-keeps jobs (λ ys. AsksNoMore (shop_with machines ys) (shop_with machines jobs)) (λ c h. h)
    (λ ys a b low high less c h. relaxed (shop_with machines (swap ys a b)) (shop_with machines ys)
    (moved_jobs (shop_with machines (swap ys a b)) (shop_with machines ys) (turned a b) (turned_one a b)
    (turned_same ys a b low high)) c (less c h)) others p

pub renaming_asks_the_same : RenamingAsksTheSame
renaming_asks_the_same = record {
  machines = machines;
  jobs = λ m jobs others p. (any_order m others jobs (IsPermutation-sym jobs others p), any_order m jobs others p);
}
