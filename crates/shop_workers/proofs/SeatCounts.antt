-- Seats that come and go keep a board lawful: the first one, one split in two, and two joined.
use Rattle.std.proofs.Common.{◌≡◌, ◌⊎◌, ℕ, ◌<◌, List, [], ◌∷◌, ◌++◌, length, replicate, Bool, true, true≢false, refl}
use Rattle.std.{proofs.Common.{sym, ap, ◌∙◌, subst, inl, inr, ⊎_elim, arith}, specs.Prelude.slice_index}
use mathlib.Core.Option.{some-ne-none, some-injective}
use Rattle.atomic_table.{specs.Table.{Splits, opening}, proofs.Lists.{at_snoc, set_again, at_longer}}
use Rattle.shop_workers.specs.{declared.views.View.View, Views.has, Moves.{newcomer, empty_handed}}
use Rattle.shop_workers.specs.Moments.{hit_word, IsLive, Somebody, Knows, IsLawful}
use Rattle.shop_workers.proofs.{Words.{zeros_length, zeros_at, zeros_end}, LawfulSteps.Moment}

nothing : (n : ℕ) → has [] n ≡ true → ⊥
nothing n m = true≢false (sym m)

-- The first seat: no flag is set, and no hit is marked.
module _ (hits : List Bool) (n : ℕ) (e : n ≡ length hits) where
  words' : List ℕ
  words' = replicate n 0 ++ n ∷ []

  hit_is : hit_word hits words' ≡ length hits
  unfolding words'
  hit_is = subst (λ k. slice_index (replicate n 0 ++ n ∷ []) k ≡ length hits) e (zeros_end n n ∙ e)

  zero_at : (i : ℕ) → i < length hits → slice_index words' i ≡ 0
  unfolding words'
  zero_at i h = zeros_at n n i (omega arith)

  only : (id : ℕ) (v : View) → IsLive (newcomer hits ∷ []) id v → (id ≡ 0) × (newcomer hits ≡ v)
  only x v at = grind (arith, some-injective, some-ne-none)

  newcomer_knows : Knows hits words' (newcomer hits)
  newcomer_knows = grind (arith, nothing, hit_is)

  pub begins : IsLawful hits record { words = replicate n 0 ++ n ∷ []; homes = []; views = newcomer hits ∷ [] }
  unfolding words'
  begins = grind (arith, zeros_length, zero_at, hit_is, only, newcomer_knows)

pub begins_at : (hits : List Bool) (n : ℕ) (ws : List ℕ) → n ≡ length hits → ws ≡ replicate n 0 ++ n ∷ []
    → IsLawful hits (opening ws [] (newcomer hits))
begins_at hits n ws e is =
    subst (λ w. IsLawful hits record { words = w; homes = []; views = newcomer hits ∷ [] }) (sym is) (begins hits n e)

-- A seat more, which won nothing.
module _ (hits : List Bool) (s : Moment) (w : View) (law : IsLawful hits s) (none_won : w.mine ≡ [])
    (k : Knows hits s.words w) where
  longer : List View
  longer = s.views ++ w ∷ []

  older : (Q : View → Type 0) → Somebody s.views Q → Somebody longer Q
  unfolding longer
  older Q (id, v, at, q) = (id, v, (at_longer s.views (w ∷ []) id v at.0, at.1), q)

  old_or_new : (id : ℕ) (v : View) → IsLive longer id v → IsLive s.views id v ⊎ (w ≡ v)
  unfolding longer
  old_or_new id v at = ⊎_elim (λ old. inl (old, at.1)) (λ e. inr e) (at_snoc s.views w v id at.0)

  not_won : (v : View) (n : ℕ) → w ≡ v → has v.mine n ≡ true → ⊥
  not_won v n e m = nothing n (subst (λ xs. has xs n ≡ true) (ap (λ (y : View). y.mine) (sym e) ∙ none_won) m)

  pub comes : IsLawful hits record { words = s.words; homes = s.homes; views = s.views ++ w ∷ [] }
  unfolding longer
  comes = record {
    size = law.size;
    flag = law.flag;
    won = λ n h. older (λ u. has u.mine n ≡ true) (law.won n h);
    hit = law.hit;
    marked = ⊎_elim (λ e. inl e) (λ q. inr (older (λ u. has u.done (hit_word hits s.words) ≡ true) q)) law.marked;
    knows = λ id v at. ⊎_elim (λ old. law.knows id v old) (λ (e : w ≡ v). subst (Knows hits s.words) e k)
        (old_or_new id v at);
    apart = λ a b u x n la lb mu mx. ⊎_elim
        (λ oa. ⊎_elim (λ ob. law.apart a b u x n oa ob mu mx) (λ e. absurd (not_won x n e mx)) (old_or_new b x lb))
        (λ e. absurd (not_won u n e mu)) (old_or_new a u la);
  }

empty_knows : (hits : List Bool) (words : List ℕ) (v : View) → Knows hits words v → Knows hits words (empty_handed v)
empty_knows hits words v k = grind (arith, nothing)

pub splits : (hits : List Bool) (id : ℕ) (v : View) → v.live ≡ true → Splits (IsLawful hits) id v v (empty_handed v)
splits hits id v live s law at =
    subst (λ vs. IsLawful hits record { words = s.words; homes = s.homes; views = vs ++ empty_handed v ∷ [] })
    (sym (set_again s.views id v at))
    (comes hits s (empty_handed v) law refl (empty_knows hits s.words v (law.knows id v (at, live))))
