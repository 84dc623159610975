-- Open words: their order, their least bound, and what is below a makespan.
use Rattle.std.proofs.{Common.{◌≡◌, ℕ, ◌≤◌, ◌<◌, min, ◌⊎◌, List, [], ◌∷◌, ◌++◌, arith, ltb}, lemmas.Bool.cases_Bool}
use Rattle.std.{proofs.lemmas.Bool.{ltb-true, ltb-false}, specs.List.AllByRecursion}
use Rattle.shop_model.specs.{Shop.{Shop, Starts, IsFeasible, end_of}, Word.{IsWord, IsFull, IsUnder}}
use Rattle.shop_bound.{specs.Bound.lb, proofs.{BoundLaw.lb-le-end, Lists.all_filter}}
use Rattle.shop_nodes.specs.Laws.{HasBetter}
use Rattle.shop_nodes.proofs.Members.{In, in_contains, contains_in, contains_all, in_all, all_sort, in_sort, in_filter}
use Rattle.shop_runs.specs.{declared.plans.Order.Order, Round.{in_order, words_below, least_bound}, Laws.IsStanding}

-- the least bound is at most the makespan, and at most each bound
pub least_bound-le : (shop : Shop) (c : ℕ) (ws : List (List ℕ))
    → (least_bound shop c ws ≤ c) × ((w : List ℕ) → In w ws → least_bound shop c ws ≤ lb shop w)
least_bound-le shop c [] = (omega arith, λ w h. absurd h)
least_bound-le shop c (x ∷ ws) = grind (arith, least_bound-le shop (min c (lb shop x)) ws)

module _ (shop : Shop) where
  -- in their order, the words are the same
  pub ordered_in : (order : Order) (w : List ℕ) (ws : List (List ℕ)) → In w ws → In w (in_order shop order ws)
  ordered_in x w ws h = grind (arith, in_sort)

  pub ordered_all : (order : Order) (P : List ℕ → Type 0) (ws : List (List ℕ)) → AllByRecursion P ws
      → AllByRecursion P (in_order shop order ws)
  ordered_all x y ws a = grind (arith, all_sort)

  -- a table under one of the words ends at c or later, or lies under one whose bound is below c
  pub still_better : (c : ℕ) (ws : List (List ℕ)) (starts : Starts) → AllByRecursion (IsWord shop) ws
      → HasBetter shop ws starts → (c ≤ end_of shop starts) ⊎ HasBetter shop (words_below shop c ws) starts
  still_better c ws starts all h =
      let member = in_contains h.word ws h.member
      in grind (arith, cases_Bool, contains_in, in_filter, ltb-false, lb-le-end, in_all)

  -- a full word, with the words whose bounds are below its own
  pub standing_from : (word : List ℕ) (ws : List (List ℕ)) (rounds nodes : ℕ) → IsFull shop word
      → AllByRecursion (IsWord shop) ws
      → IsStanding shop (record {
        word = word;
        open_words = words_below shop (lb shop word) ws;
        rounds = rounds;
        nodes =
            nodes;
      })
  standing_from word ws rounds nodes full all =
      let both = all_filter (λ w. ltb (lb shop w) (lb shop word)) (IsWord shop)
      (λ w. IsWord shop w × (lb shop w < lb shop word)) (λ w a e. (a, ltb-true (lb shop w) (lb shop word) e)) ws all
      in record {
        full = full;
        words = λ w h. (contains_all (λ w. IsWord shop w × (lb shop w < lb shop word))
            (words_below shop (lb shop word) ws) both w h).0;
        below = λ w h. (contains_all (λ w. IsWord shop w × (lb shop w < lb shop word))
            (words_below shop (lb shop word) ws) both w h).1;
      }

  -- each feasible table lies under the empty word
  pub under_empty : (starts : Starts) → IsFeasible shop starts → IsUnder shop [] starts
  under_empty starts f = record { feasible = f; first = λ v j later e. absurd (none v j later e) }
    where
      none : (v : List ℕ) (j : ℕ) (later : List ℕ) → [] ≡ v ++ j ∷ later → ⊥
      none [] j later e = cc
      none (x ∷ v) j later e = cc
