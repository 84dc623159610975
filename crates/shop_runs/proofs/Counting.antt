-- How far the rounds done and the nodes counted rise in a round.
use Rattle.std.proofs.Common.{◌≡◌, ℕ, zero, suc, ◌+◌, ◌*◌, ◌≤◌, Option, Some, None, List, [], ◌∷◌, length, arith}
use Rattle.std.{proofs.lemmas.List.{length-map, Sums.sum_by-cons}, specs.List.sum_by}
use Rattle.shop_nodes.specs.Walking.{Walk}
use Rattle.shop_runs.specs.{Round.{Told, taken_of, up_to_hit, after_round}, Laws.CountsStaySmall}

taken-le : (budget : ℕ) (ss : List Walk) → sum_by (taken_of budget) ss ≤ length ss * budget
taken-le budget [] = omega arith
taken-le budget (s ∷ ss) =
    let a = sum_by-cons (taken_of budget) s ss in let b = taken-le budget ss
    in let e : suc (length ss) * budget ≡ budget + length ss * budget = omega arith in omega arith

times-le : (m n b : ℕ) → m ≤ n → m * b ≤ n * b
times-le zero n b h = omega arith
times-le (suc m) zero b h = absurd (omega arith)
times-le (suc m) (suc n) b h = grind (arith, times-le m n b (omega arith))

-- those counted up to a hit are no more than all
few_counted : (c : ℕ) (n : ℕ) (ss : List Walk) (o : Option (Walk × List Walk)) → Type 0
few_counted c n ss None = Unit {0}
few_counted c n ss (Some (h, counted)) = length counted ≤ n

module _ where
  counted-le : (c : ℕ) (ss : List Walk) → few_counted c (length ss) ss (up_to_hit c ss)
  unfolding few_counted
  counted-le c [] = tt
  counted-le c (s ∷ ss) = grind (arith, few_counted, counted-le c ss)

  after_le : (r : Told) (ss : List Walk) (o : Option (Walk × List Walk)) → few_counted r.bound (length ss) ss o
      → ((after_round r ss o).rounds ≡ r.rounds + 1) × ((after_round r ss o).nodes ≤ r.nodes + length ss * r.budget)
  unfolding few_counted
  after_le r ss x h = grind (arith, taken-le, times-le)

pub counts_small : CountsStaySmall
counts_small r = grind (arith, after_le, counted-le, length-map)
