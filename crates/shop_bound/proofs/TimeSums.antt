-- Sums of the times of routes.
use Rattle.std.proofs.Common.{◌≡◌, ℕ, suc, ◌+◌, ◌*◌, ◌≤◌, ◌<◌, List, [], ◌∷◌, length, drop, get_or, ◌∙◌, ap, arith}
use Rattle.std.{proofs.lemmas.List.{drop_more, Sums.sum_by-cons}, specs.List.sum_by}
use Rattle.shop_model.specs.{declared.ops.Op.Op, Limits.IsWithinLimits, Shop.{Shop, no_op, route_of}}
use Rattle.shop_bound.specs.Heads.{tail_in, AreTimesSmall}

-- a sum of numbers that are each at most b
pub sum_by-le-each : {A : Type 0} (f : A → ℕ) (d : A) (b : ℕ) (xs : List A) → ((i : ℕ) → f (get_or xs i d) ≤ b)
    → sum_by f xs ≤ length xs * b
sum_by-le-each f d b [] h = omega arith
sum_by-le-each f d b (x ∷ xs) h =
    let a = sum_by-le-each f d b xs (λ i. h (suc i))
    in let e = sum_by-cons f x xs
    in let here = h 0
    in let m : suc (length xs) * b ≡ length xs * b + b = grind arith
    in omega arith

-- the time of a step, and the times after it
pub times_from : (route : List Op) (k : ℕ) → k < length route
    → sum_by (λ (o : Op). o.time) (drop k route) ≡ (get_or route k no_op).time + tail_in route k
times_from route k h =
    ap (λ (xs : List Op). sum_by (λ (o : Op). o.time) xs) (drop_more route k no_op h)
    ∙ sum_by-cons (λ (o : Op). o.time) (get_or route k no_op) (drop (k + 1) route)

pub route_times : (shop : Shop) → IsWithinLimits shop → (j : ℕ)
    → sum_by (λ (o : Op). o.time) (route_of shop j) ≤ 100000000000
route_times shop limits j =
    let a = sum_by-le-each (λ (o : Op). o.time) no_op 1000000000 (route_of shop j) (limits.times j)
    in let b = limits.routes j in omega arith

pub times_small : (shop : Shop) → IsWithinLimits shop → (j : ℕ) (route : List Op) → route ≡ route_of shop j
    → AreTimesSmall route
times_small shop limits j route e = rw e (let a = route_times shop limits j in omega arith)
