-- Reading and lowering the hit word keep a board lawful.
use Rattle.std.proofs.Common.{◌≡◌, ◌⊎◌, ℕ, ◌<◌, ◌≤◌, List, [], ◌∷◌, length, set, min, Bool, true, refl, sym, ap, ◌∙◌}
use Rattle.std.proofs.{Common.{subst, inl, inr, ⊎_elim, arith}, lemmas.List.{length-set, get_or-set_same}}
use Rattle.std.{proofs.lemmas.List.get_or-set_other, specs.Prelude.slice_index}
use mathlib.Core.Option.{none}
use Rattle.atomic_table.specs.Table.{step, Me, Allows, keeps}
use Rattle.shop_workers.specs.{declared.views.View.View, Views.has, Moments.{hit_word, IsLive, Knows, IsLawful}}
use Rattle.shop_workers.specs.{Moves.{with_low, with_done, IsAtMostMarked}, inner.Steps.{Looks, Marks}}
use Rattle.shop_workers.proofs.{Numbers.{has_cons, has_head, has_tail}, Words.same_word, JoinedSeats.min_is}
use Rattle.shop_workers.proofs.LawfulSteps.{Moment, Risen, Step, still_knows, stepped_lawful, quiet}
use Rattle.shop_runs.specs.Hits.{is_hit_in, IsHitOrEnd}

-- a look is one load
look_step : (hits : List Bool) (s : Moment) (id : ℕ) (v : View) → IsLawful hits s → IsLive s.views id v
    → Step hits s.words s.words v (with_low v (hit_word hits s.words))
look_step hits s id v law at =
    let k = law.knows id v at in
    quiet hits s v (with_low v (hit_word hits s.words)) law at.1 refl refl record {
      same = k.same;
      mine = k.mine;
      seen = k.seen;
      single = k.single;
      low = law.hit;
      below = omega arith;
      done = λ n m. let t = k.done n m in (t.0, t.1, t.2, t.2);
    }

looks_at : (hits : List Bool) (slots id : ℕ) (v : View) (i : ℕ) → i ≡ length hits → v.live ≡ true
    → Allows (IsLawful hits) slots id (v, []) i (λ n. n) (Looks (step slots i 0 0 none) (v, []))
looks_at hits slots id v i last live s law _ at _ =
    let k = law.knows id v (at, live) in
    let found = slice_index s.words i in
    let is : found ≡ hit_word hits s.words = ap (slice_index s.words) last in
    let w = with_low v found in
    let here : Step hits s.words s.words v w =
    subst (λ n. Step hits s.words s.words v (with_low v n)) (sym is) (look_step hits s id v law (at, live)) in
    let st : Step hits s.words (set s.words i found) v w =
    subst (λ ws. Step hits s.words ws v w) (sym (same_word s.words i found refl)) here in
    let hit : IsHitOrEnd v.hits found =
    subst (λ h. IsHitOrEnd h found) (sym k.same) (subst (IsHitOrEnd hits) (sym is) law.hit) in
    let lower : found ≤ v.low = let b = k.below in omega arith in
    let marked : IsAtMostMarked v found = λ m d. let t = (k.done m d).2 in omega arith in
    (w, keeps, tt, stepped_lawful hits s id v w _ law (at, live) st, (refl, refl, hit, lower, marked))

pub looks : (hits : List Bool) (slots id : ℕ) (me : Me (Unit {0}) View) (i : ℕ) → me.1 ≡ [] → me.0.live ≡ true
    → i ≡ length hits → Allows (IsLawful hits) slots id me i (λ n. n) (Looks (step slots i 0 0 none) me)
looks hits slots id me i bare live last =
    subst (λ (m : Me (Unit {0}) View). Allows (IsLawful hits) slots id m i (λ n. n) (Looks (step slots i 0 0 none) m))
    (λ j. (me.0, sym bare j)) (looks_at hits slots id me.0 i last live)

-- a mark is one fetch_min
module _ (hits : List Bool) (s : Moment) (id : ℕ) (v : View) (n : ℕ) (law : IsLawful hits s) (at : IsLive s.views id v)
    (mine : has v.mine n ≡ true) (hits_n : is_hit_in hits n ≡ true) where
  marked : List ℕ
  marked = set s.words (length hits) (min (hit_word hits s.words) n)

  hit_is : hit_word hits marked ≡ min (hit_word hits s.words) n
  unfolding marked
  hit_is = let z = law.size in get_or-set_same s.words (length hits) (min (hit_word hits s.words) n) 0 (omega arith)

  flag_is : (m : ℕ) → m < length hits → slice_index marked m ≡ slice_index s.words m
  unfolding marked
  flag_is m below = get_or-set_other s.words (length hits) m (min (hit_word hits s.words) n) 0 (λ e. omega arith)

  risen : Risen hits marked s.words
  risen = record { flags = λ m h. (h.0, flag_is m h.0 ∙ h.1); hit = let e = hit_is in omega arith }

  which : (hit_word hits marked ≡ hit_word hits s.words) ⊎ (hit_word hits marked ≡ n)
  which = ⊎_elim (λ e. inl (hit_is ∙ e)) (λ e. inr (hit_is ∙ e)) (min_is (hit_word hits s.words) n)

  still_hit : IsHitOrEnd hits (hit_word hits marked)
  still_hit = grind (arith, which)

  low_is : hit_word hits marked ≡ min n (hit_word hits s.words)
  low_is = let e = hit_is in omega arith

  abbrev IsDone : ℕ → Type 0
  IsDone m = (has v.mine m ≡ true) × (is_hit_in hits m ≡ true) × (hit_word hits marked ≤ m)
      × (min n (hit_word hits s.words) ≤ m)

  done_is : (m : ℕ) → has (n ∷ v.done) m ≡ true → IsDone m
  done_is m h = ⊎_elim (λ (e : n ≡ m). subst IsDone e (mine, hits_n, (let q = hit_is in omega arith), omega arith))
      (λ (was : has v.done m ≡ true).
      let t = (law.knows id v at).done m was in
      let q = hit_is in
      let z = t.2 in (t.0, t.1, omega arith, omega arith)) (has_cons n m v.done h)

  marked_knows : Knows hits marked (with_done v n (min n (hit_word hits s.words)))
  marked_knows = let k = still_knows hits marked s.words v risen (law.knows id v at) in record {
    same = k.same;
    mine = k.mine;
    seen = k.seen;
    single = k.single;
    low = subst (IsHitOrEnd hits) low_is still_hit;
    below = let e = low_is in omega arith;
    done = done_is;
  }

  pub mark_step : Step hits s.words (set s.words (length hits) (min (hit_word hits s.words) n)) v
      (with_done v n (min n (hit_word hits s.words)))
  unfolding marked
  mark_step = grind (arith, length-set, risen, flag_is, still_hit, has_head, which, has_tail, marked_knows)

marks_at : (hits : List Bool) (slots id : ℕ) (v : View) (i n : ℕ) → i ≡ length hits → v.live ≡ true
    → has v.mine n ≡ true → is_hit_in hits n ≡ true
    → Allows (IsLawful hits) slots id (v, []) i (λ k. min k n) (Marks (step slots i n 0 none) (v, []))
marks_at hits slots id v i n last live mine hits_n s law _ at _ =
    let k = law.knows id v (at, live) in
    let found = slice_index s.words i in
    let is : found ≡ hit_word hits s.words = ap (slice_index s.words) last in
    let w = with_done v n (min n found) in
    let st : Step hits s.words (set s.words i (min found n)) v w =
    subst (λ j. Step hits s.words (set s.words j (min (slice_index s.words j) n)) v
    (with_done v n (min n (slice_index s.words j)))) (sym last) (mark_step hits s id v n law (at, live) mine hits_n) in
    let lower : found ≤ v.low = let b = k.below in omega arith in
    (w, keeps, tt, stepped_lawful hits s id v w _ law (at, live) st, (refl, refl, lower))

pub marks : (hits : List Bool) (slots id : ℕ) (me : Me (Unit {0}) View) (i n : ℕ) → me.1 ≡ [] → me.0.live ≡ true
    → i ≡ length hits → has me.0.mine n ≡ true → is_hit_in hits n ≡ true
    → Allows (IsLawful hits) slots id me i (λ k. min k n) (Marks (step slots i n 0 none) me)
marks hits slots id me i n bare live last mine hits_n =
    subst
    (λ (m : Me (Unit {0}) View). Allows (IsLawful hits) slots id m i (λ k. min k n) (Marks (step slots i n 0 none) m))
    (λ j. (me.0, sym bare j)) (marks_at hits slots id me.0 i n last live mine hits_n)
