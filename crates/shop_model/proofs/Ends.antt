-- The end of a table, and feasible tables by when each operation may begin.
use Rattle.std.proofs.{Common.{◌≡◌, ℕ, zero, suc, ◌≤◌, ◌<◌, ◌⊎◌, length, arith, add-one}, lemmas.Bool.cases_eq}
use Rattle.std.proofs.lemmas.{Bool.cases_lt, List.get_or_past}
use Rattle.shop_model.specs.Shop.{Shop, Starts, route_of, machine_of, IsOperation, IsFeasible, finish_of, end_of}
use Rattle.shop_model.{specs.{Shop.greatest_below, Checking.NoneEarly}, proofs.Greatest.le-greatest_below}
use Rattle.shop_model.proofs.Greatest.{greatest_below-le}

-- (j, k) and (i, l) name two different operations
abbrev pub AreDifferent : ℕ → ℕ → ℕ → ℕ → Type 0
AreDifferent j k i l = (j ≡ i) × (k ≡ l) → ⊥

-- an operation is one of a job
pub IsOperation-job : (shop : Shop) (i l : ℕ) → IsOperation shop i l → i < length shop.jobs
IsOperation-job shop i l op = grind (arith, cases_lt, get_or_past)

-- each operation ends by the end
pub le-end_of : (shop : Shop) (starts : Starts) (i l : ℕ) → IsOperation shop i l
    → finish_of shop starts i l ≤ end_of shop starts
le-end_of shop starts i l op =
    let steps = le-greatest_below (λ k. finish_of shop starts i k) (length (route_of shop i)) l op
    in let jobs = le-greatest_below (λ j. greatest_below (length (route_of shop j)) (λ k. finish_of shop starts j k))
    (length shop.jobs) i (IsOperation-job shop i l op)
    in omega arith

-- and where each ends by b, so does the table
pub end_of-le : (shop : Shop) (starts : Starts) (b : ℕ)
    → ((i l : ℕ) → IsOperation shop i l → finish_of shop starts i l ≤ b) → end_of shop starts ≤ b
end_of-le shop starts b h = grind (arith, greatest_below-le)

-- in a feasible table each operation begins in time
pub feasible-in_time : (shop : Shop) (starts : Starts) → IsFeasible shop starts → NoneEarly shop starts
feasible-in_time shop starts f i x op = grind (arith, add-one)

pub feasible_from : (shop : Shop) (starts : Starts) → NoneEarly shop starts
    → ((j k i l : ℕ) → IsOperation shop j k → IsOperation shop i l → machine_of shop j k ≡ machine_of shop i l
    → AreDifferent j k i l
    → (finish_of shop starts j k ≤ starts i l) ⊎ (finish_of shop starts i l ≤ starts j k))
    → IsFeasible shop starts
feasible_from shop starts none apart = grind (arith, add-one)

-- in a table that keeps its routes a step ends before all later ones begin
pub in_time-later : (shop : Shop) (starts : Starts) → NoneEarly shop starts → (j k l : ℕ) → k < l → IsOperation shop j l
    → finish_of shop starts j k ≤ starts j l
in_time-later shop starts none j k zero before op = absurd (omega arith)
in_time-later shop starts none j k (suc l) before op = grind (arith, cases_eq, in_time-later shop starts none j k l)
