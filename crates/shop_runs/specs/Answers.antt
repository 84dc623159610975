-- The answer of a plan: what stands after its rounds.
use Rattle.std.specs.Prelude.{ℕ, zero, suc, List, [], ◌∷◌}
use Rattle.shop_model.specs.Shop.{Shop}
use Rattle.shop_runs.specs.{Plans.Planned, Round.{Stand, least_bound, round, opening, makespan_of}}

-- what stands after n rounds, or as soon as nothing is open
abbrev pub unless_closed : List (List ℕ) → Stand → (Stand → Stand) → Stand
unless_closed [] s go = s
unless_closed (w ∷ ws) s go = go s

abbrev pub rounds_from : Shop → Planned → ℕ → Stand → Stand
rounds_from shop plan zero s = s
rounds_from shop plan (suc n) s = unless_closed s.open_words s
    (λ t. rounds_from shop plan n (round shop plan t))

abbrev pub answer : Shop → Planned → Stand
answer shop plan = rounds_from shop plan plan.rounds (opening shop)

-- the least bound of an open word, or the makespan if that is lower
abbrev pub bound_of : Shop → Stand → ℕ
bound_of shop s = least_bound shop (makespan_of shop s) s.open_words
