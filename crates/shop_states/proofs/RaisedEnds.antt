-- The ends of next operations, once what stands at a position is raised.
use Rattle.std.proofs.Common.{◌≡◌, ℕ, ◌+◌, ◌≤◌, ◌<◌, inl, inr, List, [], length, get_or, refl, sym, ◌∙◌, ap, arith}
use Rattle.std.proofs.{Common.{cond, eqb}, lemmas.{Bool.{cases_eq, cases_lt, eq-eqb, le-ltb, lt-ltb}, List.get_or_past}}
use Rattle.shop_lanes.specs.Rows.{Rows}
use Rattle.shop_states.{specs.inner.LaneEnds.IsEndOf, proofs.AskedHeads.own_reached}
use Rattle.shop_states.specs.inner.Raises.{AsksOwn, IsLeastRaise, IsPosition, IsRaisable, IsRaised, Raises, SetsEndAt}
use Rattle.shop_states.specs.inner.Raises.{at_in, steps_of}
use Rattle.shop_layout.specs.Positions.{LayoutState, position_of}

-- a head that is the first of its route is raised at its own position alone
module _ {l : LayoutState} {p e : ℕ} {old new : List ℕ} (least : IsLeastRaise l (IsPosition p) (AsksOwn e) old new)
    (q : ℕ) (first : (i k : ℕ) → k + 1 < steps_of l i → position_of l i (k + 1) ≡ q
    → get_or old (position_of l i k) 0 ≡ 0) where
  abbrev but : ℕ → ℕ → ℕ
  but v r = cond {A = ℕ} (eqb r q) v (get_or new r 0)

  at_q : (v r : ℕ) → r ≡ q → but v r ≡ v
  at_q v r e = rw (eq-eqb r q e) refl

  own : 0 < get_or old p 0 → e ≤ get_or new p 0
  own = own_reached least.raised p refl

  raised_but : (v : ℕ) → get_or old q 0 ≤ v → (get_or old q 0 ≡ 0 → v ≡ 0) → v ≤ get_or new q 0
      → (q ≡ p → 0 < get_or old q 0 → e ≤ v) → IsRaised l (IsPosition p) (AsksOwn e) (at_in old) (but v)
  raised_but v low none high enough = grind (arith, cases_eq, at_q, least, own)

  pub head_stays : (q ≡ p → ⊥) → get_or new q 0 ≡ get_or old q 0
  head_stays ne =
      let rises = least.raised.rises q
      in let a = least.least (but (get_or old q 0)) (raised_but (get_or old q 0) (omega arith) (λ z. z) rises
      (λ f some. absurd (ne f))) q
      in let b = at_q (get_or old q 0) q refl in omega arith

  pub head_is : q ≡ p → 0 < get_or old q 0 → get_or old q 0 ≤ e → get_or new q 0 ≡ e
  head_is f some below =
      let reach = own_reached least.raised q f some
      in let a = least.least (but e) (raised_but e below (λ z. absurd (omega arith)) reach (λ g s. omega arith)) q
      in let b = at_q e q refl in omega arith

module _ {greatest : ℕ} {l : LayoutState} {nexts : List ℕ} {p e : ℕ} {old : Rows}
    (can : IsRaisable greatest l nexts old (IsPosition p) (AsksOwn e)) (some : 0 < get_or old.heads p 0) where
  pub raised_within : p < length old.heads
  raised_within = grind (arith, cases_lt, get_or_past)

  pub raised_fits : e + get_or l.times p 0 ≤ greatest
  raised_fits = let reach = own_reached can.raised p refl some in let fits = can.fits p (omega arith) in omega arith

module _ {greatest : ℕ} {l : LayoutState} {nexts : List ℕ} {p e : ℕ} {old mid : Rows}
    (can : IsRaisable greatest l nexts old (IsPosition p) (AsksOwn e)) (set : SetsEndAt l nexts p e old mid) where
  -- with no ends to keep up
  pub mid_raisable : IsRaisable greatest l [] mid (IsPosition p) (AsksOwn e)
  mid_raisable = grind arith

  module _ (some : 0 < get_or old.heads p 0) (below : get_or old.heads p 0 ≤ e) {new : Rows}
      (raised : Raises greatest l [] (IsPosition p) (AsksOwn e) mid new) where
    least : IsLeastRaise l (IsPosition p) (AsksOwn e) old.heads new.heads
    least = rw set.heads at raised.raised

    each : (j : ℕ) → j < length nexts → IsEndOf greatest nexts old j → IsEndOf greatest nexts new j
    each j known is =
        let q = get_or nexts j 0
        in let first = λ (i k : ℕ). can.firsts.first j i k known
        in let ends : get_or new.ends j 0 ≡ get_or mid.ends j 0 =
        ap (λ (xs : List ℕ). get_or xs j 0) (raised.ends.none refl)
        in let times : get_or new.times q 0 ≡ get_or old.times q 0 =
        ap (λ (xs : List ℕ). get_or xs q 0) (raised.times ∙ set.times)
        in let long : length new.heads ≡ length old.heads = least.positions
        in elim (cases_eq q p) [
          | inl f ↦ (
              let within : q < length old.heads = elim (cases_lt q (length old.heads)) [
                | inl h ↦ h
                | inr past ↦ grind (arith, get_or_past)
              ]
              in let own : get_or l.jobs p 0 ≡ j =
              ap (λ (x : ℕ). get_or l.jobs x 0) (sym f) ∙ can.firsts.own j known within
              in let wrote = set.here (omega arith) (ap (λ (x : ℕ). get_or nexts x 0) own ∙ f)
              in let mine : get_or mid.ends (get_or l.jobs p 0) 0 ≡ get_or mid.ends j 0 =
              ap (λ (x : ℕ). get_or mid.ends x 0) own
              in let was : get_or old.heads q 0 ≡ get_or old.heads p 0 = ap (λ (x : ℕ). get_or old.heads x 0) f
              in let now = head_is least q first f (omega arith) (omega arith)
              in let time : get_or old.times q 0 ≡ get_or old.times p 0 = ap (λ (x : ℕ). get_or old.times x 0) f
              in sym (rw (lt-ltb q (length new.heads) (omega arith)) (omega arith)))
          | inr ne ↦ (
              let kept = set.others j known ne
              in let same = head_stays least q first ne
              in ends ∙ (kept ∙ (is ∙ (elim (cases_lt q (length old.heads)) [
                | inl h ↦ rw (lt-ltb q (length old.heads) h, lt-ltb q (length new.heads) (omega arith)) (omega arith)
                | inr h ↦ rw (le-ltb q (length old.heads) h, le-ltb q (length new.heads) (omega arith)) refl
              ]))))
        ]

    pub raised_with_ends : Raises greatest l nexts (IsPosition p) (AsksOwn e) old new
    raised_with_ends = grind (arith, least, each)
