-- The entries of a seat after one more turn, and what they say of all that it won.
use Rattle.std.proofs.Common.{◌≡◌, ℕ, ◌+◌, ◌<◌, List, [], ◌∷◌, ◌++◌, length, reverse, get_or, sym, ap, ◌∙◌, subst}
use Rattle.std.proofs.{Common.{length-append, arith}, lemmas.List.Quantifiers.all_pairs_push, Math.ListN.get_or-append}
use Rattle.std.proofs.{Math.Seq.get_or-append_seam, lemmas.List.{reverse-append, map-append}}
use Rattle.std.proofs.lemmas.List.Elements.{All-push, All-weaker, All-get_or}
use Rattle.std.specs.{Prelude.All, List.Sorted.IsStrictlyIncreasing}
use native.Mathlib.Decide.{ℕ_discrete}
use Rattle.shop_runs.specs.{Round.Told, Entries.{told, number_of}, declared.entries.Entry.Entry}
use Rattle.shop_workers.specs.{declared.views.View.View, Entries.LetsPass, inner.Turns.{IsHandledEntry, IsAhead}}
use Rattle.shop_workers.specs.Works.{Grows, IsKnown, IsAllKnown, numbers_of, IsHandled, AreWon}

-- a number above all others, at the end of numbers that rise
rises_push : (xs : List ℕ) (n : ℕ) → IsStrictlyIncreasing xs → All (λ x. x < n) xs → IsStrictlyIncreasing (xs ++ n ∷ [])
rises_push xs n rises below k inside =
    grind (arith, ℕ_discrete, length-append, get_or-append, All-get_or, get_or-append_seam)

pub grows_twice : (u v w : View) → Grows u v → Grows v w → Grows u w
grows_twice u v w a b = grind arith

pub all_still : (r : Told) (v w : View) (es : List Entry) → Grows v w → All (λ (e : Entry). IsHandled r v e.kind) es
    → All (λ (e : Entry). IsHandled r w e.kind) es
all_still r v w es g handled = grind (arith, All-weaker)

pub still_won : (r : Told) (u v w : View) (es : List Entry) → Grows v w → w.mine ≡ v.mine → AreWon r u v es
    → AreWon r u w es
still_won r u v w es g same won = grind (arith, all_still)

pub one_won : (r : Told) (n : ℕ) (u v w : View) (es : List Entry) (e : Entry) → Grows v w → AreWon r u v es
    → All (λ x. x < n) (numbers_of es) → w.mine ≡ n ∷ v.mine → IsHandledEntry r n w e × IsAhead v n e.kind
    → AreWon r u w (es ++ e ∷ [])
one_won r n u v w es e g won below mine (handled, ahead) = record {
  of_round = All-push (λ (x : Entry). told x.round.now ≡ r) es e won.of_round handled.0.0;
  in_order = subst IsStrictlyIncreasing (sym numbers) (rises_push (numbers_of es) n won.in_order below);
  mine = mine ∙ ap (λ l. n ∷ l) won.mine ∙ ap (λ l. l ++ u.mine) (sym turned);
  handled = All-push (λ (x : Entry). IsHandled r w x.kind) es e (all_still r v w es g won.handled) handled.1;
  passes = all_pairs_push (LetsPass r) es e won.passes lets;
}
  where
    lets : (k : ℕ) (d : Entry) → k < length es → LetsPass r (get_or es k d) e
    lets k d inside = grind (arith, All-get_or)

    numbers : numbers_of (es ++ e ∷ []) ≡ numbers_of es ++ n ∷ []
    numbers = map-append (λ (x : Entry). number_of x.kind) es (e ∷ []) ∙ ap (λ k. numbers_of es ++ k ∷ []) handled.0.1

    turned : reverse (numbers_of (es ++ e ∷ [])) ≡ n ∷ reverse (numbers_of es)
    turned = ap reverse numbers ∙ reverse-append (numbers_of es) (n ∷ [])

-- the numbers of the entries so far, after one more
pub below_next : (es : List Entry) (n : ℕ) → All (λ x. x < n) (numbers_of es) → All (λ x. x < n + 1) (numbers_of es)
below_next es n below = All-weaker (λ x. x < n) (λ x. x < n + 1) (λ x h. omega arith) (numbers_of es) below

pub below_push : (es : List Entry) (e : Entry) (n : ℕ) → All (λ x. x < n) (numbers_of es) → number_of e.kind ≡ n
    → All (λ x. x < n + 1) (numbers_of (es ++ e ∷ []))
below_push es e n below is =
    subst (All (λ x. x < n + 1)) (sym (map-append (λ (x : Entry). number_of x.kind) es (e ∷ [])))
    (All-push (λ x. x < n + 1) (numbers_of es) (number_of e.kind) (below_next es n below) (omega arith))

pub known_next : (v w : View) (n : ℕ) → Grows v w → IsAllKnown n v → IsKnown w n → IsAllKnown (n + 1) w
known_next v w n g known here m below = grind (arith, ℕ_discrete)
