-- Tables of an instance and of the scaled one.
use Rattle.std.proofs.Common.{◌≡◌, ℕ, zero, suc, ◌+◌, ◌*◌, ◌/◌, ◌≤◌, ◌<◌, inl, inr, List, [], ◌∷◌, length, get_or, map}
use Rattle.std.proofs.{Common.{refl, sym, ap, ◌∙◌, arith}, lemmas.Bool.cases_lt, lemmas.Nat.le-div}
use Rattle.std.proofs.{lemmas.List.length-map, Math.Nat.{mul-le-mul_left, mul-lt-mul_of_pos_left}}
use Rattle.shop_model.specs.{declared.ops.Op.Op, Shop.{IsOperation, IsFeasible, end_of, IsLeast}}
use Rattle.shop_model.specs.Shop.{Shop, ShopJob, Starts, no_job, no_op, release_of, route_of, machine_of, time_of}
use Rattle.shop_model.proofs.Ends.{le-end_of, end_of-le}
use Rattle.shop_engine.specs.{Headline.IsBound, Scaling.{scaled_op, scaled_job, scaled, ScalingKeepsTheLeast}}

module _ (k : ℕ) where
  route_at : (js : List ShopJob) (j : ℕ)
      → (get_or (map (scaled_job k) js) j no_job).route ≡ map (scaled_op k) (get_or js j no_job).route
  route_at [] j = refl
  route_at (x ∷ js) zero = refl
  route_at (x ∷ js) (suc j) = route_at js j

  release_at : (js : List ShopJob) (j : ℕ)
      → (get_or (map (scaled_job k) js) j no_job).release ≡ k * (get_or js j no_job).release
  release_at [] j = omega arith
  release_at (x ∷ js) zero = refl
  release_at (x ∷ js) (suc j) = release_at js j

  time_at : (os : List Op) (l : ℕ) → (get_or (map (scaled_op k) os) l no_op).time ≡ k * (get_or os l no_op).time
  time_at [] l = omega arith
  time_at (o ∷ os) zero = refl
  time_at (o ∷ os) (suc l) = time_at os l

  machine_at : (os : List Op) (l : ℕ) → (get_or (map (scaled_op k) os) l no_op).machine ≡ (get_or os l no_op).machine
  machine_at [] l = refl
  machine_at (o ∷ os) zero = refl
  machine_at (o ∷ os) (suc l) = machine_at os l

module _ (k : ℕ) (shop : Shop) where
  scaled_release : (j : ℕ) → release_of (scaled k shop) j ≡ k * release_of shop j
  scaled_release j = release_at k shop.jobs j

  scaled_time : (j l : ℕ) → time_of (scaled k shop) j l ≡ k * time_of shop j l
  scaled_time j l = grind (arith, route_at, time_at)

  scaled_machine : (j l : ℕ) → machine_of (scaled k shop) j l ≡ machine_of shop j l
  scaled_machine j l = grind (arith, route_at, machine_at)

  scaled_length : (j : ℕ) → length (route_of (scaled k shop) j) ≡ length (route_of shop j)
  scaled_length j = ap length (route_at k shop.jobs j) ∙ length-map (route_of shop j) (scaled_op k)

  into : (j l : ℕ) → IsOperation (scaled k shop) j l → IsOperation shop j l
  into j l op = let e = scaled_length j in omega arith

  out : (j l : ℕ) → IsOperation shop j l → IsOperation (scaled k shop) j l
  out j l op = let e = scaled_length j in omega arith

  -- ---- a table, k times as long

  longer : Starts → Starts
  longer starts j l = k * starts j l

  longer_by : (a p b : ℕ) → a + p ≤ b → k * a + k * p ≤ k * b
  longer_by a p b h = let m = mul-le-mul_left k h in omega arith

  longer_feasible : (starts : Starts) → IsFeasible shop starts → IsFeasible (scaled k shop) (longer starts)
  unfolding longer
  longer_feasible starts f = record {
    released = λ j op. let e = scaled_release j
        in let h = mul-le-mul_left k (f.released j (into j 0 op))
        in omega arith;
    in_order = λ j l op. let e = scaled_time j l
        in let h = longer_by (starts j l) (time_of shop j l) (starts j (l + 1)) (f.in_order j l (into j (l + 1) op))
        in omega arith;
    apart = λ j l i n op other same different. let e = scaled_time j l in let g = scaled_time i n
        in elim (f.apart j l i n (into j l op) (into i n other)
        (sym (scaled_machine j l) ∙ same ∙ scaled_machine i n) different) [
          | inl h ↦ inl (let m = longer_by (starts j l) (time_of shop j l) (starts i n) h in omega arith)
          | inr h ↦ inr (let m = longer_by (starts i n) (time_of shop i n) (starts j l) h in omega arith)
        ];
  }

  longer_end : (starts : Starts) → end_of (scaled k shop) (longer starts) ≤ k * end_of shop starts
  unfolding longer
  longer_end starts = end_of-le (scaled k shop) (longer starts) (k * end_of shop starts)
      (λ i l op. let e = scaled_time i l
      in let m = longer_by (starts i l) (time_of shop i l) (end_of shop starts)
      (le-end_of shop starts i l (into i l op))
      in omega arith)

  -- ---- a table of the scaled instance, in whole units

  module _ (some : 0 < k) where
    whole : Starts → Starts
    whole starts j l = starts j l / k

    whole_by : (a p b : ℕ) → a + k * p ≤ b → a / k + p ≤ b / k
    whole_by a p b h = le-div (a / k + p) b k some (omega arith)

    whole_feasible : (starts : Starts) → IsFeasible (scaled k shop) starts → IsFeasible shop (whole starts)
    unfolding whole
    whole_feasible starts f = record {
      released = λ j op. let e = scaled_release j in let h = f.released j (out j 0 op)
          in le-div (release_of shop j) (starts j 0) k some (omega arith);
      in_order = λ j l op. let e = scaled_time j l in let h = f.in_order j l (out j (l + 1) op)
          in whole_by (starts j l) (time_of shop j l) (starts j (l + 1)) (omega arith);
      apart = λ j l i n op other same different. let e = scaled_time j l in let g = scaled_time i n
          in elim (f.apart j l i n (out j l op) (out i n other)
          (scaled_machine j l ∙ same ∙ sym (scaled_machine i n)) different) [
            | inl h ↦ inl (whole_by (starts j l) (time_of shop j l) (starts i n) (omega arith))
            | inr h ↦ inr (whole_by (starts i n) (time_of shop i n) (starts j l) (omega arith))
          ];
    }

    whole_end : (starts : Starts) → k * end_of shop (whole starts) ≤ end_of (scaled k shop) starts
    unfolding whole
    whole_end starts =
        let a = end_of-le shop (whole starts) (end_of (scaled k shop) starts / k)
        (λ i l op. let e = scaled_time i l in let h = le-end_of (scaled k shop) starts i l (out i l op)
        in whole_by (starts i l) (time_of shop i l) (end_of (scaled k shop) starts) (omega arith))
        in let m = mul-le-mul_left k a
        in omega arith

    mul_le_back : (a b : ℕ) → k * a ≤ k * b → a ≤ b
    mul_le_back a b h = grind (arith, cases_lt, mul-lt-mul_of_pos_left)

    bound_there : (b : ℕ) → IsBound shop b → IsBound (scaled k shop) (k * b)
    bound_there b bound starts f =
        let a = bound (whole starts) (whole_feasible starts f)
        in let e = whole_end starts
        in let m = mul-le-mul_left k a
        in omega arith

    bound_back : (b : ℕ) → IsBound (scaled k shop) (k * b) → IsBound shop b
    bound_back b bound starts f =
        let a = bound (longer starts) (longer_feasible starts f)
        in let e = longer_end starts
        in mul_le_back b (end_of shop starts) (omega arith)

    least_there : (c : ℕ) → IsLeast shop c → IsLeast (scaled k shop) (k * c)
    least_there c least =
        let table = longer least.table
        in let feasible = longer_feasible least.table least.feasible
        in let below = bound_there c least.least
        in record {
          table = table;
          feasible = feasible;
          ends = (let a = longer_end least.table in let b = below table feasible
              in let e = ap (λ (n : ℕ). k * n) least.ends in omega arith);
          least = below;
        }

    least_back : (c : ℕ) → IsLeast (scaled k shop) (k * c) → IsLeast shop c
    least_back c least =
        let table = whole least.table
        in let feasible = whole_feasible least.table least.feasible
        in let below = bound_back c least.least
        in record {
          table = table;
          feasible = feasible;
          ends = (let a = whole_end least.table in let e = least.ends in let b = below table feasible
              in let m = mul_le_back (end_of shop table) c (omega arith) in omega arith);
          least = below;
        }

pub scaling_keeps_the_least : ScalingKeepsTheLeast
scaling_keeps_the_least = record {
  least = λ k shop c some. (least_there k shop some c, least_back k shop some c);
  bounds = λ k shop b some. (bound_there k shop some b, bound_back k shop some b);
}
