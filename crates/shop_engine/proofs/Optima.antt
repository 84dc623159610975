-- An open node of an answer has a bound below the makespan.
use Rattle.std.proofs.{lemmas.Grind.common_steps, Common.{◌≡◌, ℕ, ◌<◌, List, [], ◌∷◌, length, refl, ap, arith}}
use Rattle.shop_model.specs.Shop.{Shop}
use Rattle.shop_bound.specs.Bound.{lb}
use Rattle.shop_nodes.proofs.Members.{In, contains_in}
use Rattle.shop_runs.specs.{Round.{least_bound, opening, makespan_of}, Answers.answer}
use Rattle.shop_runs.proofs.{Covering.opens_covering, OpenLemmas.least_bound-le, Trusting.{rounds_cover, none_from}}
use Rattle.shop_engine.specs.AnswerLaws.{OptimalWhereBoundIsMakespan}

none_open : (shop : Shop) (c : ℕ) (ws : List (List ℕ)) → ((w : List ℕ) → In w ws → lb shop w < c)
    → least_bound shop c ws ≡ c → length ws ≡ 0
none_open shop c [] below e = refl
none_open shop c (w ∷ ws) below e = grind (arith, common_steps, least_bound-le)

pub optimal_where_bound_is_makespan : OptimalWhereBoundIsMakespan
optimal_where_bound_is_makespan asked plan =
    let shop = asked.shop
    in let s = answer shop plan
    in let standing = (rounds_cover shop plan plan.rounds (opening shop) (opens_covering shop)).0
    in (
      λ none. ap (least_bound shop (makespan_of shop s)) (none_from s.open_words none),
      λ e. none_open shop (makespan_of shop s) s.open_words (λ w h. standing.below w (contains_in w s.open_words h)) e,
    )
