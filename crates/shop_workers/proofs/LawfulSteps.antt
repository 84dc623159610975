-- A step of one seat keeps a board lawful.
use Rattle.std.proofs.Common.{◌≡◌, ◌≢◌, ◌⊎◌, ℕ, zero, suc, ◌<◌, ◌≤◌, List, [], ◌∷◌, length, set, Bool, true, rules}
use Rattle.std.{proofs.Common.{refl, sym, ap, ◌∙◌, subst, inl, inr, ⊎_elim, arith}, specs.Prelude.slice_index}
use mathlib.Core.{Option.{some, some-ne-none, some-injective}, Logic.dite}
use native.Mathlib.Decide.{ℕ_discrete}
use lib.ListN.{get_elem?}
use Rattle.atomic_table.{specs.Table.State, proofs.Lists.{at_set, set_else}}
use Rattle.shop_workers.specs.{declared.views.View.View, Views.has}
use Rattle.shop_workers.specs.Moments.{hit_word, IsLive, Somebody, IsClaimed, Knows, IsLawful}
use Rattle.shop_runs.specs.Hits.{IsHitOrEnd}

-- the state's type, at a board
abbrev pub Moment : Type 0
Moment = State (Unit {0}) View

pub view_here : (l : List View) (i : ℕ) (v w : View) → get_elem? l i ≡ some v → get_elem? (set l i w) i ≡ some w
view_here [] i v w e = absurd (some-ne-none v (sym e))
view_here (x ∷ xs) zero v w e = refl
view_here (x ∷ xs) (suc i) v w e = view_here xs i v w e

-- words that came after others: no flag was cleared, and the hit word didn't rise
pub record Risen (hits : List Bool) (after words : List ℕ) : Type 0 where
  pub flags : (n : ℕ) → IsClaimed hits words n → IsClaimed hits after n
  pub hit : hit_word hits after ≤ hit_word hits words

-- what was known before is still so
pub still_knows : (hits : List Bool) (after words : List ℕ) (u : View)
    → Risen hits after words → Knows hits words u → Knows hits after u
still_knows hits after words u r k = record {
  same = k.same;
  mine = λ n h. r.flags n (k.mine n h);
  seen = λ n h. r.flags n (k.seen n h);
  single = k.single;
  low = k.low;
  below = let a = r.hit in let b = k.below in omega arith;
  done = grind arith;
}

-- some seat whose view became another
pub somebody_set : (views : List View) (id : ℕ) (v w : View) (Q : View → Type 0) → get_elem? views id ≡ some v
    → w.live ≡ true → (Q v → Q w) → Somebody views Q → Somebody (set views id w) Q
somebody_set views id v w Q at live grows (j, u, there, q) = dite (ℕ_discrete j id) same other where
  same : j ≡ id → Somebody (set views id w) Q
  same e =
      let is : v ≡ u = some-injective v u (sym at ∙ ap (get_elem? views) (sym e) ∙ there.0) in
      (id, w, (view_here views id v w at, live), grows (subst Q (sym is) q))

  other : j ≢ id → Somebody (set views id w) Q
  other ne = (j, u, (set_else views id j w ne ∙ there.0, there.1), q)

-- what one step of a seat owes: v and w are what the seat knows before and after
pub record Step (hits : List Bool) (words after : List ℕ) (v w : View) : Type 0 where
  pub size : length after ≡ length words
  pub risen : Risen hits after words
  pub flag : (n : ℕ) → n < length hits → (slice_index after n ≡ 0) ⊎ (slice_index after n ≡ 1)
  pub won : (n : ℕ) → IsClaimed hits after n → IsClaimed hits words n ⊎ (has w.mine n ≡ true)
  pub hit : IsHitOrEnd hits (hit_word hits after)
  pub marked : (hit_word hits after ≡ hit_word hits words) ⊎ (has w.done (hit_word hits after) ≡ true)
  pub live : w.live ≡ true
  pub more_mine : (n : ℕ) → has v.mine n ≡ true → has w.mine n ≡ true
  pub more_done : (n : ℕ) → has v.done n ≡ true → has w.done n ≡ true
  pub knows : Knows hits after w
  pub new : (n : ℕ) → has w.mine n ≡ true → (has v.mine n ≡ true) ⊎ (slice_index words n ≡ 0)

module _ (hits : List Bool) (s : Moment) (id : ℕ) (v w : View) (after : List ℕ) (law : IsLawful hits s)
    (at : IsLive s.views id v) (st : Step hits s.words after v w) where
  views' : List View
  views' = set s.views id w

  -- a seat afterwards is the one that stepped, or another that stands as it did
  who : (j : ℕ) (u : View) → IsLive views' j u → ((j ≡ id) × (w ≡ u)) ⊎ ((j ≢ id) × IsLive s.views j u)
  unfolding views'
  who j u there = grind (arith, get_elem?, at_set)

  here : IsLive views' id w
  unfolding views'
  here = (view_here s.views id v w at.0, st.live)

  still_somebody : (Q : View → Type 0) → (Q v → Q w) → Somebody s.views Q → Somebody views' Q
  unfolding views'
  still_somebody Q grows some_one = somebody_set s.views id v w Q at.0 st.live grows some_one

  won' : (n : ℕ) → IsClaimed hits after n → Somebody views' (λ u. has u.mine n ≡ true)
  won' n claimed = ⊎_elim
      (λ (was : IsClaimed hits s.words n). still_somebody (λ u. has u.mine n ≡ true) (st.more_mine n) (law.won n was))
      (λ (mine : has w.mine n ≡ true). (id, w, here, mine)) (st.won n claimed)

  abbrev MarkedBySome : ℕ → Type 0
  MarkedBySome k = Somebody views' (λ u. has u.done k ≡ true)

  marked' : (hit_word hits after ≡ length hits) ⊎ MarkedBySome (hit_word hits after)
  marked' = ⊎_elim (λ same. ⊎_elim (λ (e : hit_word hits s.words ≡ length hits). inl (same ∙ e)) (kept same) law.marked)
      (λ mine. inr (id, w, here, mine))
      st.marked
    where
      kept : hit_word hits after ≡ hit_word hits s.words
          → Somebody s.views (λ u. has u.done (hit_word hits s.words) ≡ true)
          → (hit_word hits after ≡ length hits) ⊎ MarkedBySome (hit_word hits after)
      kept same some_one =
          let k = hit_word hits s.words in
          inr (subst MarkedBySome (sym same) (still_somebody (λ u. has u.done k ≡ true) (st.more_done k) some_one))

  knows' : (j : ℕ) (u : View) → IsLive views' j u → Knows hits after u
  knows' j u there = ⊎_elim (λ (t : (j ≡ id) × (w ≡ u)). subst (Knows hits after) t.1 st.knows)
      (λ (t : (j ≢ id) × IsLive s.views j u). still_knows hits after s.words u st.risen (law.knows j u t.1))
      (who j u there)

  -- what the seat that stepped has won, no other has
  alone : (j : ℕ) (u : View) (n : ℕ) → j ≢ id → IsLive s.views j u → has w.mine n ≡ true → has u.mine n ≡ true → ⊥
  alone j u n ne there mine theirs = ⊎_elim
      (λ (old : has v.mine n ≡ true). ne (sym (law.apart id j v u n at there old theirs)))
      (λ (z : slice_index s.words n ≡ 0). let o = ((law.knows j u there).mine n theirs).1 in absurd (omega arith))
      (st.new n mine)

  apart' : (a b : ℕ) (u x : View) (n : ℕ) → IsLive views' a u → IsLive views' b x
      → has u.mine n ≡ true → has x.mine n ≡ true → a ≡ b
  apart' a b u x n la lb mu mx = ⊎_elim one other (who a u la) where
    one : (a ≡ id) × (w ≡ u) → a ≡ b
    one p = ⊎_elim (λ (q : (b ≡ id) × (w ≡ x)). p.0 ∙ sym q.0) (λ (q : (b ≢ id) × IsLive s.views b x).
        absurd (alone b x n q.0 q.1 (subst (λ (y : View). has y.mine n ≡ true) (sym p.1) mu) mx)) (who b x lb)

    other : (a ≢ id) × IsLive s.views a u → a ≡ b
    other p = ⊎_elim (λ (q : (b ≡ id) × (w ≡ x)).
        absurd (alone a u n p.0 p.1 (subst (λ (y : View). has y.mine n ≡ true) (sym q.1) mx) mu))
        (λ (q : (b ≢ id) × IsLive s.views b x). law.apart a b u x n p.1 q.1 mu mx) (who b x lb)

  pub stepped_lawful : IsLawful hits record { words = after; homes = s.homes; views = set s.views id w }
  unfolding views'
  stepped_lawful = search (rules, won', marked', knows', apart')

-- a step that changes no word, and neither what its seat won nor what it marked
pub quiet : (hits : List Bool) (s : Moment) (v w : View) → IsLawful hits s → w.live ≡ true → w.mine ≡ v.mine
    → w.done ≡ v.done → Knows hits s.words w → Step hits s.words s.words v w
quiet hits s v w law live mine done k = grind arith
