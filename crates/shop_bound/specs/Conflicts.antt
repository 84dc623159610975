-- The conflict set (Giffler and Thompson 1960).
--     conflict shop w                 the conflict set of a word
--     SoleCandidateKeepsBound shop w  where the conflict set is one job, its next operation leaves the bound as it is
use Rattle.std.specs.Prelude.{◌≡◌, ℕ, ◌+◌, max, Bool, ◌&&◌, ◌||◌, List, [], ◌∷◌, ◌++◌, length, filter, ◌==◌, nat_lt}
use Rattle.std.specs.List.{range_with_len, best_of}
use Rattle.shop_model.specs.{Shop.{Shop, route_of, machine_of, time_of}, Word.{Placing, placing}}
use Rattle.shop_bound.specs.Bound.{lb}

-- the jobs with steps left, in order
abbrev pub open_jobs : Shop → Placing → List ℕ
open_jobs shop p = filter (λ j. nat_lt (p.steps j) (length (route_of shop j)))
    (range_with_len 0 (length shop.jobs))

-- the machine of the next operation of job j, its head, and when it can end
abbrev pub next_machine : Shop → Placing → ℕ → ℕ
next_machine shop p j = machine_of shop j (p.steps j)

abbrev pub next_head : Shop → Placing → ℕ → ℕ
next_head shop p j = max (p.ready j) (p.free (next_machine shop p j))

abbrev pub next_end : Shop → Placing → ℕ → ℕ
next_end shop p j = next_head shop p j + time_of shop j (p.steps j)

-- of j and the jobs in the list, the one whose next operation can end first, the first one on ties
abbrev pub chosen_of : Shop → Placing → ℕ → List ℕ → ℕ
chosen_of shop p j js = best_of (λ i b. nat_lt (next_end shop p i) (next_end shop p b)) j js

-- c, and each job whose next operation is on the machine of c's and can begin before c's can end
abbrev pub conflicts_with : Shop → Placing → ℕ → ℕ → Bool
conflicts_with shop p c i =
    i == c || (next_machine shop p i == next_machine shop p c && nat_lt (next_head shop p i)
    (next_end shop p c))

abbrev pub conflict_among : Shop → Placing → List ℕ → List ℕ
conflict_among shop p [] = []
conflict_among shop p (j ∷ js) = filter (conflicts_with shop p (chosen_of shop p j js)) (j ∷ js)

abbrev pub conflict : Shop → List ℕ → List ℕ
conflict shop w = let p = placing shop w in conflict_among shop p (open_jobs shop p)

abbrev pub SoleCandidateKeepsBound : Shop → List ℕ → Type 0
SoleCandidateKeepsBound shop w = (j : ℕ) → conflict shop w ≡ j ∷ [] → lb shop (w ++ j ∷ []) ≡ lb shop w
