-- Rounds keep the cover up to the answer, so it can be trusted.
use Rattle.std.proofs.Common.{◌≡◌, ℕ, zero, suc, ◌≤◌, inl, inr, List, [], ◌∷◌, length, refl, sym, arith}
use Rattle.std.proofs.lemmas.List.{append-nil}
use Rattle.shop_model.specs.{Shop.{Shop, Starts, IsFeasible, end_of}, Word.placed}
use Rattle.shop_bound.{specs.Bound.lb, proofs.BoundLaw.{lb-le-end, full_word}}
use Rattle.shop_nodes.proofs.Members.{in_contains}
use Rattle.shop_runs.specs.{Plans.Planned, Round.{Stand, round, opening, makespan_of}, Laws.StandsCovering}
use Rattle.shop_runs.specs.{Answers.{unless_closed, rounds_from, answer, bound_of}, Trust.IsTrustworthy}
use Rattle.shop_runs.{specs.Trust.AnswersAreTrustworthy, proofs.Covering.{opens_covering, round_covers}}
use Rattle.shop_runs.proofs.OpenLemmas.{least_bound-le}

unless_covers : (shop : Shop) (s : Stand) (go : Stand → Stand) (ws : List (List ℕ)) → StandsCovering shop s
    → StandsCovering shop (go s) → StandsCovering shop (unless_closed ws s go)
unless_covers shop s go [] k h = k
unless_covers shop s go (w ∷ ws) k h = h

pub rounds_cover : (shop : Shop) (plan : Planned) (n : ℕ) (s : Stand) → StandsCovering shop s
    → StandsCovering shop (rounds_from shop plan n s)
rounds_cover shop plan zero s k = k
rounds_cover shop plan (suc n) s k =
    unless_covers shop s (λ t. rounds_from shop plan n (round shop plan t)) s.open_words k
    (rounds_cover shop plan n (round shop plan s) (round_covers shop plan s k))

pub none_from : {A : Type 0} (xs : List A) → length xs ≡ 0 → xs ≡ []
none_from [] e = refl
none_from (x ∷ xs) e = absurd (let a : suc (length xs) ≡ 0 = e in omega arith)

-- a standing that covers can be trusted
pub trust : (shop : Shop) (s : Stand) → StandsCovering shop s
    → IsTrustworthy shop s.word (makespan_of shop s) (bound_of shop s) (length s.open_words)
trust shop s k =
    let standing = k.0
    in let p = full_word shop s.word standing.full
    in let low = least_bound-le shop (lb shop s.word) s.open_words
    in let feasible : IsFeasible shop (placed shop s.word) = (p.under s.word [] (sym (append-nil s.word))).feasible
    in let bound : (starts : Starts) → IsFeasible shop starts
    → bound_of shop s ≤ end_of shop starts = (λ starts f. elim (k.1 starts f) [
      | inl h ↦ (let a = low.0 in omega arith)
      | inr h ↦ (let member = in_contains h.word s.open_words h.member in let b = low.1 h.word member
          in let d = lb-le-end shop h.word h.better (standing.words h.word h.member) h.under in let e = h.ends
          in omega arith)
    ])
    in grind (arith, none_from)

pub answer_covers : (shop : Shop) (plan : Planned) → StandsCovering shop (answer shop plan)
answer_covers shop plan = rounds_cover shop plan plan.rounds (opening shop) (opens_covering shop)

pub trustworthy : AnswersAreTrustworthy
trustworthy shop plan = trust shop (answer shop plan) (answer_covers shop plan)
