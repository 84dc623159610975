-- Two seats made one keep a board lawful.
use Rattle.std.proofs.Common.{◌≡◌, ◌≢◌, ◌⊎◌, ℕ, List, [], length, set, min, Bool, true, true≢false, refl, sym, ◌∙◌}
use Rattle.std.{proofs.Common.{subst, inl, inr, ⊎_elim, arith}, specs.Prelude.slice_index}
use mathlib.Core.Option.{some, none, some-injective}
use native.Mathlib.Decide.{ℕ_discrete}
use lib.ListN.{get_elem?}
use Rattle.atomic_table.{specs.Table.{step, Me, Allows, Joins, keeps}, proofs.Lists.{at_set, set_else}}
use Rattle.shop_workers.specs.{declared.views.View.View, Views.has, Moves.joined, inner.Steps.{spent, Recalls}}
use Rattle.shop_workers.specs.Moments.{hit_word, IsLive, Somebody, Knows, IsLawful}
use Rattle.shop_workers.proofs.{Numbers.{has_append, has_left, has_right, once_append}, Words.same_word}
use Rattle.shop_workers.proofs.LawfulSteps.{Moment, Step, view_here, stepped_lawful, quiet}
use Rattle.shop_runs.specs.Hits.{IsHitOrEnd}

-- the least of two numbers is one of them
pub min_is : (a b : ℕ) → (min a b ≡ a) ⊎ (min a b ≡ b)
min_is a b = grind arith

module _ (hits : List Bool) (s : Moment) (id other : ℕ) (v w : View) (law : IsLawful hits s) (at : IsLive s.views id v)
    (there : IsLive s.views other w) (ne : other ≢ id) where
  first : List View
  first = set s.views id (joined v w)

  both : List View
  both = set (set s.views id (joined v w)) other spent

  joined_at : IsLive both id (joined v w)
  unfolding both
  joined_at = grind (arith, set_else, view_here)

  abbrev Another : ℕ → View → Type 0
  Another j u = (j ≢ id) × (j ≢ other) × IsLive s.views j u

  -- a live seat afterwards is the joined one, or another than these
  who : (j : ℕ) (u : View) → IsLive both j u → ((j ≡ id) × (joined v w ≡ u)) ⊎ Another j u
  unfolding both
  who j u here = grind (arith, true≢false, get_elem?, at_set)

  low_is : IsHitOrEnd hits (min v.low w.low)
  low_is = ⊎_elim (λ (e : min v.low w.low ≡ v.low). subst (IsHitOrEnd hits) (sym e) (law.knows id v at).low)
      (λ (e : min v.low w.low ≡ w.low). subst (IsHitOrEnd hits) (sym e) (law.knows other w there).low)
      (min_is v.low w.low)

  not_both : (n : ℕ) → has v.mine n ≡ true → has w.mine n ≡ true → ⊥
  not_both n a b = ne (sym (law.apart id other v w n at there a b))

  joined_knows : Knows hits s.words (joined v w)
  joined_knows = let k = law.knows id v at in let l = law.knows other w there in record {
    same = k.same;
    mine = λ n m. ⊎_elim (λ a. k.mine n a) (λ b. l.mine n b) (has_append v.mine w.mine n m);
    seen = λ n m. ⊎_elim (λ a. k.seen n a) (λ b. l.seen n b) (has_append v.seen w.seen n m);
    single = once_append v.mine w.mine k.single l.single not_both;
    low = low_is;
    below = let a = k.below in let b = l.below in omega arith;
    done = λ n m. grind (arith, has_left, has_right, has_append);
  }

  somebody_joined : (Q : View → Type 0) → (Q v → Q (joined v w)) → (Q w → Q (joined v w))
      → Somebody s.views Q → Somebody both Q
  unfolding both
  somebody_joined Q left right (j, u, here, q) =
      grind (arith, ℕ_discrete, some-injective, get_elem?, joined_at, set_else)

  alone : (j : ℕ) (u : View) (n : ℕ) → Another j u → has (joined v w).mine n ≡ true → has u.mine n ≡ true → ⊥
  alone j u n a m mu = grind (arith, has_append)

  apart' : (a b : ℕ) (u x : View) (n : ℕ) → IsLive both a u → IsLive both b x
      → has u.mine n ≡ true → has x.mine n ≡ true → a ≡ b
  apart' a b u x n la lb mu mx = ⊎_elim one another (who a u la) where
    one : (a ≡ id) × (joined v w ≡ u) → a ≡ b
    one p = ⊎_elim (λ (q : (b ≡ id) × (joined v w ≡ x)). p.0 ∙ sym q.0)
        (λ (q : Another b x). absurd (alone b x n q (subst (λ (y : View). has y.mine n ≡ true) (sym p.1) mu) mx))
        (who b x lb)

    another : Another a u → a ≡ b
    another p = ⊎_elim (λ (q : (b ≡ id) × (joined v w ≡ x)).
        absurd (alone a u n p (subst (λ (y : View). has y.mine n ≡ true) (sym q.1) mx) mu))
        (λ (q : Another b x). law.apart a b u x n p.2 q.2 mu mx) (who b x lb)

  abbrev MarkedBySome : ℕ → Type 0
  MarkedBySome k = Somebody both (λ u. has u.done k ≡ true)

  marked' : (hit_word hits s.words ≡ length hits) ⊎ MarkedBySome (hit_word hits s.words)
  marked' = let k = hit_word hits s.words in ⊎_elim (λ e. inl e)
      (λ q. inr (somebody_joined (λ u. has u.done k ≡ true) (has_left v.done w.done k) (has_right v.done w.done k) q))
      law.marked

  pub joined_lawful : IsLawful hits record {
    words = s.words;
    homes = s.homes;
    views = set (set s.views id (joined v w)) other spent;
  }
  unfolding both
  joined_lawful = record {
    size = law.size;
    flag = law.flag;
    won = λ n h.
        somebody_joined (λ u. has u.mine n ≡ true) (has_left v.mine w.mine n) (has_right v.mine w.mine n) (law.won n h);
    hit = law.hit;
    marked = marked';
    knows = λ j u here. ⊎_elim (λ (p : (j ≡ id) × (joined v w ≡ u)). subst (Knows hits s.words) p.1 joined_knows)
        (λ (p : Another j u). law.knows j u p.2) (who j u here);
    apart = apart';
  }

pub joins : (hits : List Bool) (id other : ℕ) (v w : View) → v.live ≡ true → w.live ≡ true
    → Joins (IsLawful hits) id v other w (joined v w) spent
joins hits id other v w live alive s law at ne there =
    let e : get_elem? s.views other ≡ some w = ⊎_elim (λ (t : (other ≡ id) × (joined v w ≡ w)). absurd (ne t.0))
    (λ (t : (other ≢ id) × (get_elem? s.views other ≡ some w)). t.1) (at_set s.views id other (joined v w) w there) in
    joined_lawful hits s id other v w law (at, live) (e, alive) ne

-- a load that tells a seat that no number stands twice among those that it won
recalls_at : (hits : List Bool) (slots id : ℕ) (v : View) (i : ℕ) → v.live ≡ true
    → Allows (IsLawful hits) slots id (v, []) i (λ n. n) (Recalls (step slots i 0 0 none) (v, []))
recalls_at hits slots id v i live s law _ at _ =
    let k = law.knows id v (at, live) in
    let same = same_word s.words i (slice_index s.words i) refl in
    let st : Step hits s.words (set s.words i (slice_index s.words i)) v v =
    subst (λ ws. Step hits s.words ws v v) (sym same) (quiet hits s v v law live refl refl k) in
    (v, keeps, tt, stepped_lawful hits s id v v _ law (at, live) st, (refl, k.single))

pub recalls : (hits : List Bool) (slots id : ℕ) (me : Me (Unit {0}) View) (i : ℕ) → me.1 ≡ [] → me.0.live ≡ true
    → Allows (IsLawful hits) slots id me i (λ n. n) (Recalls (step slots i 0 0 none) me)
recalls hits slots id me i bare live =
    subst (λ (m : Me (Unit {0}) View). Allows (IsLawful hits) slots id m i (λ n. n) (Recalls (step slots i 0 0 none) m))
    (λ j. (me.0, sym bare j)) (recalls_at hits slots id me.0 i live)
