-- A table of an instance, from its end to its beginning.
use Rattle.std.proofs.Common.{rules, ◌≡◌, ℕ, zero, suc, ◌+◌, ◌-◌, ◌≤◌, ◌<◌, List, [], ◌∷◌, length, get_or, map, refl}
use Rattle.std.proofs.{Common.{ap, ◌∙◌, subst, arith, reverse}, lemmas.Grind.common_steps}
use Rattle.std.proofs.lemmas.List.{get_or-reverse, length-reverse, reverse-reverse}
use Rattle.shop_model.specs.{declared.ops.Op.Op, Shop.{IsOperation, IsFeasible, finish_of}}
use Rattle.shop_model.specs.Shop.{Shop, ShopJob, Starts, no_job, release_of, route_of, op_of, machine_of, time_of}
use Rattle.shop_model.proofs.Ends.{AreDifferent, le-end_of, end_of-le}
use Rattle.shop_engine.specs.{Easier.EndsBy, Reversing.{reversed_job, reversed, ReversingAsksTheSame}}

route_at : (js : List ShopJob) (j : ℕ)
    → (get_or (map reversed_job js) j no_job).route ≡ reverse (get_or js j no_job).route
route_at [] j = refl
route_at (x ∷ js) zero = refl
route_at (x ∷ js) (suc j) = route_at js j

release_at : (js : List ShopJob) (j : ℕ)
    → (get_or (map reversed_job js) j no_job).release ≡ (get_or js j no_job).release
release_at [] j = refl
release_at (x ∷ js) zero = refl
release_at (x ∷ js) (suc j) = release_at js j

module _ (shop : Shop) where
  length_is : (j : ℕ) → length (route_of (reversed shop) j) ≡ length (route_of shop j)
  length_is j = ap length (route_at shop.jobs j) ∙ length-reverse (route_of shop j)

  -- where step k of job j stands in the other instance
  other : ℕ → ℕ → ℕ
  other j k = length (route_of shop j) - 1 - k

  here : (j k : ℕ) → IsOperation (reversed shop) j k → k < length (route_of shop j)
  here j k op = let e = length_is j in omega arith

  there : (j k : ℕ) → IsOperation (reversed shop) j k → IsOperation shop j (other j k)
  unfolding other
  there j k op = let a = here j k op in omega arith

  op_is : (j k : ℕ) → IsOperation (reversed shop) j k → op_of (reversed shop) j k ≡ op_of shop j (other j k)
  unfolding other
  op_is j k op = search (rules, route_at, get_or-reverse, here)

  time_is : (j k : ℕ) → IsOperation (reversed shop) j k → time_of (reversed shop) j k ≡ time_of shop j (other j k)
  time_is j k op = ap (λ (o : Op). o.time) (op_is j k op)

  machine_is : (j k : ℕ) → IsOperation (reversed shop) j k
      → machine_of (reversed shop) j k ≡ machine_of shop j (other j k)
  machine_is j k op = ap (λ (o : Op). o.machine) (op_is j k op)

  next_is : (j k : ℕ) → IsOperation (reversed shop) j (k + 1) → other j k ≡ other j (k + 1) + 1
  unfolding other
  next_is j k op = let a = here j (k + 1) op in omega arith

  other_one : (j k l : ℕ) → IsOperation (reversed shop) j k → IsOperation (reversed shop) j l
      → other j k ≡ other j l → k ≡ l
  unfolding other
  other_one j k l op next e = let a = here j k op in let b = here j l next in omega arith

  differ : (j k i l : ℕ) → IsOperation (reversed shop) j k → IsOperation (reversed shop) i l → AreDifferent j k i l
      → AreDifferent j (other j k) i (other i l)
  differ j k i l op next different both = grind (arith, other_one)

  module _ (none : (j : ℕ) → release_of shop j ≡ 0) (c : ℕ) (h : EndsBy shop c) where
    mirrored : Starts
    mirrored j k = c - finish_of shop h.table j (other j k)

    in_time : (j k : ℕ) → IsOperation shop j k → finish_of shop h.table j k ≤ c
    in_time j k op = let a = le-end_of shop h.table j k op in let b = h.ends in omega arith

    mirrored_ends : (j k : ℕ) → IsOperation (reversed shop) j k
        → finish_of (reversed shop) mirrored j k ≡ c - h.table j (other j k)
    unfolding mirrored
    mirrored_ends j k op = grind (arith, time_is, in_time, there)

    -- what ends before another begins begins after it ends
    after : (j k i l : ℕ) → IsOperation (reversed shop) j k → IsOperation (reversed shop) i l
        → finish_of shop h.table i (other i l) ≤ h.table j (other j k)
        → finish_of (reversed shop) mirrored j k ≤ mirrored i l
    unfolding mirrored
    after j k i l op next before = let a = mirrored_ends j k op in omega arith

    in_turn : (j k : ℕ) → IsOperation (reversed shop) j (k + 1)
        → finish_of (reversed shop) mirrored j k ≤ mirrored j (k + 1)
    in_turn j k op = grind (arith, next_is, there, after)

    mirrored_feasible : IsFeasible (reversed shop) mirrored
    mirrored_feasible = grind (arith, release_at, in_turn, there, machine_is, differ, after)

    turned : EndsBy (reversed shop) c
    turned = record {
      table = mirrored;
      feasible = mirrored_feasible;
      ends = end_of-le (reversed shop) mirrored c (λ i l op. let a = mirrored_ends i l op in omega arith);
    }

twice : (js : List ShopJob) → map reversed_job (map reversed_job js) ≡ js
twice [] = refl
twice (x ∷ js) = grind (arith, common_steps, reverse-reverse, x.release, x.route, twice js)

pub reversing_asks_the_same : ReversingAsksTheSame
reversing_asks_the_same shop none = (
  λ c h. subst (λ (js : List ShopJob). EndsBy (record { machines = shop.machines; jobs = js }) c) (twice shop.jobs)
      (turned (reversed shop) (λ j. release_at shop.jobs j ∙ none j) c h),
  turned shop none,
)
