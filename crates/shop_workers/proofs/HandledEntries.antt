-- A seat has handled all that it won, if it had handled what it had won before and handles what it wins since.
use Rattle.std.proofs.Common.{◌≡◌, ◌⊎◌, ℕ, ◌<◌, List, [], ◌∷◌, ◌++◌, reverse, Bool, true, sym, ◌∙◌, subst, ⊎_elim}
use Rattle.std.proofs.{Common.{arith, true≢false}, lemmas.List.{reverse-append, Elements.{All-head, All-tail}}}
use Rattle.std.specs.Prelude.{All}
use Rattle.shop_runs.specs.Round.{Told}
use Rattle.shop_runs.specs.Entries as entries
use Rattle.shop_runs.specs.{Entries.{told, number_of, Fits}, declared.{entries.Entry.Entry, rounds.Round.Round}}
use Rattle.shop_runs.{specs.{declared.entries.Kind.Kind, Hits.hits_of_round}, proofs.RoundPieces.{same_hit, is_piece}}
use Rattle.shop_workers.specs.{declared.views.View.View, Views.{has, HasHandled}, Entries.OfRound}
use Rattle.shop_workers.specs.Works.{Grows, numbers_of, IsHandled, AreWon}
use Rattle.shop_workers.proofs.Numbers.{has_append, has_cons, has_same, has_tail}

has_reverse : (xs : List ℕ) (n : ℕ) → has (reverse xs) n ≡ true → has xs n ≡ true
has_reverse [] n h = h
has_reverse (x ∷ xs) n h =
    let there : has (reverse xs ++ x ∷ []) n ≡ true = subst (λ l. has l n ≡ true) (reverse-append (x ∷ []) xs) h in
    ⊎_elim (λ a. has_tail x n xs (has_reverse xs n a))
    (λ b. ⊎_elim (λ (e : x ≡ n). has_same x n xs e) (λ none. absurd (true≢false (sym none))) (has_cons x n [] b))
    (has_append (reverse xs) (x ∷ []) n there)

abbrev pub Handled : View → ℕ → Type 0
Handled w n = (has w.done n ≡ true) ⊎ (w.low < n)

pub by_kind : (r : Told) (w : View) (n : ℕ) (k : Kind) → Fits r k → IsHandled r w k → number_of k ≡ n
    → entries.is_hit r n ≡ true → Handled w n
by_kind r w n x fits handled e hit = grind arith

-- the entry of a piece that the seat won
by_entry : (r : Told) (w : View) (n : ℕ) (es : List Entry) → OfRound r es → All (λ (e : Entry). IsHandled r w e.kind) es
    → has (numbers_of es) n ≡ true → entries.is_hit r n ≡ true → Handled w n
by_entry r w n [] of handled h hit = absurd (true≢false (sym h))
by_entry r w n (e ∷ es) of handled h hit = ⊎_elim (λ (is : number_of e.kind ≡ n).
    by_kind r w n e.kind (subst (λ t. Fits t e.kind) (All-head (λ (x : Entry). told x.round.now ≡ r) e es of) e.fits)
    (All-head (λ (x : Entry). IsHandled r w x.kind) e es handled) is hit) (λ (later : has (numbers_of es) n ≡ true).
    by_entry r w n es (All-tail (λ (x : Entry). told x.round.now ≡ r) e es of)
    (All-tail (λ (x : Entry). IsHandled r w x.kind) e es handled) later hit)
    (has_cons (number_of e.kind) n (numbers_of es) h)

pub all_handled : (r : Round) (hits : List Bool) (v w : View) (es : List Entry) → hits ≡ hits_of_round r → w.hits ≡ hits
    → Grows v w → AreWon (told r) v w es → HasHandled v → HasHandled w
all_handled r hits v w es e same g won handled n mine hit = ⊎_elim new old split where
  split : (has (reverse (numbers_of es)) n ≡ true) ⊎ (has v.mine n ≡ true)
  split = has_append (reverse (numbers_of es)) v.mine n (subst (λ l. has l n ≡ true) won.mine mine)

  new : has (reverse (numbers_of es)) n ≡ true → Handled w n
  new h =
      let at_hits : w.hits ≡ hits_of_round r = same ∙ e in
      let round_hit = sym (same_hit r w.hits n at_hits (is_piece r w.hits n at_hits hit)) ∙ hit in
      by_entry (told r) w n es won.of_round won.handled (has_reverse (numbers_of es) n h) round_hit

  old : has v.mine n ≡ true → Handled w n
  old h = grind arith
