-- Worked moments of a board of three pieces, of which the first ends at the opening bound.
use Rattle.std.proofs.Common.{◌≡◌, ℕ, List, [], ◌∷◌, Bool, true, false, true≢false, refl, arith, lit<}
use mathlib.Core.Option.{some-ne-none, some-injective}
use Rattle.shop_workers.specs.{declared.views.View.View, Views.has, Moments.{IsLive, IsLawful}, Moves.newcomer}
use Rattle.shop_workers.{specs.Moves.{with_mine, with_done}, proofs.{ClaimSteps.claim_won, HitSteps.mark_step}}
use Rattle.shop_workers.proofs.{LawfulSteps.{Moment, stepped_lawful}, SeatCounts.begins}

abbrev hits : List Bool
hits = true ∷ false ∷ false ∷ []

abbrev moment : List ℕ → List View → Moment
moment words views = record { words = words; homes = []; views = views }

-- opened: no flag is set, the hit word is the number of pieces
abbrev nobody : View
nobody = newcomer hits

pub opened : IsLawful hits (moment (0 ∷ 0 ∷ 0 ∷ 3 ∷ []) (nobody ∷ []))
opened = begins hits 3 refl

-- the seat claims piece 0
abbrev winner : View
winner = with_mine nobody 0

pub claimed : IsLawful hits (moment (1 ∷ 0 ∷ 0 ∷ 3 ∷ []) (winner ∷ []))
claimed =
    stepped_lawful hits (moment (0 ∷ 0 ∷ 0 ∷ 3 ∷ []) (nobody ∷ [])) 0 nobody winner (1 ∷ 0 ∷ 0 ∷ 3 ∷ []) opened
    (refl, refl)
    (claim_won hits (moment (0 ∷ 0 ∷ 0 ∷ 3 ∷ []) (nobody ∷ [])) 0 nobody 0 opened (refl, refl) (lit< tt) refl)

-- and marks it
abbrev marker : View
marker = with_done winner 0 0

pub marked : IsLawful hits (moment (1 ∷ 0 ∷ 0 ∷ 0 ∷ []) (marker ∷ []))
marked =
    stepped_lawful hits (moment (1 ∷ 0 ∷ 0 ∷ 3 ∷ []) (winner ∷ [])) 0 winner marker (1 ∷ 0 ∷ 0 ∷ 0 ∷ []) claimed
    (refl, refl) (mark_step hits (moment (1 ∷ 0 ∷ 0 ∷ 3 ∷ []) (winner ∷ [])) 0 winner 0 claimed (refl, refl) refl refl)

-- No moment has a hit word that is no piece which ends at the opening bound,
pub no_such_hit : IsLawful hits (moment (0 ∷ 1 ∷ 0 ∷ 1 ∷ []) (with_mine nobody 1 ∷ [])) → ⊥
no_such_hit law = grind (arith, true≢false)

-- or two seats that have won one piece,
pub not_won_twice : IsLawful hits (moment (1 ∷ 0 ∷ 0 ∷ 3 ∷ []) (winner ∷ winner ∷ [])) → ⊥
not_won_twice law =
    absurd (let f : 0 ≡ 1 = law.apart 0 1 winner winner 0 (refl, refl) (refl, refl) refl refl in omega arith)

-- or a flag that is set of a piece that nobody has won.
only_nobody : (id : ℕ) (v : View) → IsLive (nobody ∷ []) id v → has v.mine 0 ≡ true → ⊥
only_nobody x v at m = grind (arith, true≢false, some-injective, some-ne-none)

pub not_won_by_nobody : IsLawful hits (moment (1 ∷ 0 ∷ 0 ∷ 3 ∷ []) (nobody ∷ [])) → ⊥
not_won_by_nobody law = let w = law.won 0 (lit< tt, refl) in only_nobody w.0 w.1 w.2 w.3
