-- Spans of lanes whose heads rose, against those from before.
use Rattle.std.proofs.Common.{◌≡◌, ℕ, zero, suc, ◌+◌, ◌≤◌, ◌<◌, max, ◌⊎◌, inl, inr, List, [], ◌∷◌, length, get_or, refl}
use Rattle.std.proofs.{Common.arith, lemmas.Bool.cases_lt}
use Rattle.shop_lanes.specs.{Rows.{Lane, lanes}, Spans.{span, spans_from, spans_between}}
use Rattle.shop_states.proofs.SpanTurns.{span_left, spans_counted, spans_low, spans_high}

-- lanes that are related one by one
pub data AreBeside (R : Lane → Lane → Type 0) : List Lane → List Lane → Type 0 where
  nothing : AreBeside R [] []
  beside : {xs ys : List Lane} (x y : Lane) → R x y → AreBeside R xs ys → AreBeside R (x ∷ xs) (y ∷ ys)

pub beside_as : (R S : Lane → Lane → Type 0) → ((x y : Lane) → R x y → S x y) → {xs ys : List Lane} → AreBeside R xs ys
    → AreBeside S xs ys
beside_as R S f nothing = nothing
beside_as R S f (beside x y r rest) = beside x y (f x y r) (beside_as R S f rest)

-- the second lane counts from a on only where the first counts from b on
pub record IsServedBefore (b a : ℕ) (x y : Lane) : Type 0 where
  pub time : y.time ≡ x.time
  pub tail : y.tail ≡ x.tail
  pub counts : a ≤ y.head → b ≤ x.head

pub span_beside : (b a : ℕ) → {xs ys : List Lane} → AreBeside (IsServedBefore b a) xs ys → (c e : ℕ) → c ≤ e
    → span a c ys ≤ span b e xs
span_beside b a nothing c e le = omega arith
span_beside b a (beside {xs} {ys} x y r rest) c e le =
    let time = r.time in let tail = r.tail
    in elim (cases_lt y.head a) [
      | inl off ↦ (let s = span_left a c y ys off
          in elim (cases_lt x.head b) [
            | inl out ↦ (let t = span_left b e x xs out in let u = span_beside b a rest c e le in omega arith)
            | inr among ↦ grind (arith, span_beside b a rest c (e + x.time) (omega arith))
          ])
      | inr on ↦ grind (arith, span_beside b a rest (c + y.time) (e + x.time) (omega arith))
    ]

-- no span of lanes is above u, from whatever moment up to `top` on
abbrev pub AreUpTo : ℕ → ℕ → List Lane → Type 0
AreUpTo top u xs = (g : ℕ) → 0 < g → g ≤ top → span g g xs ≤ u

-- what waits waited before, and stayed, or rose within a raise from the floor on or to the floor at most
pub record IsRisen (from to floor : ℕ) (a b : ℕ) : Type 0 where
  pub some : 0 < b → 0 < a
  pub risen : 0 < b → (b ≤ a) ⊎ (((from ≤ max a floor) × (b ≤ to)) ⊎ (b ≤ floor))

-- lanes of one operation, whose heads are related
pub record IsLaneBeside (R : ℕ → ℕ → Type 0) (x y : Lane) : Type 0 where
  pub time : y.time ≡ x.time
  pub tail : y.tail ≡ x.tail
  pub head : R x.head y.head

abbrev pub IsRisenLane : ℕ → ℕ → ℕ → Lane → Lane → Type 0
IsRisenLane from to floor = IsLaneBeside (IsRisen from to floor)

-- of fewer lanes no more
spans_fewer : (above upto : ℕ) (all : List Lane) (x : Lane) (xs : List Lane)
    → spans_from above upto all xs ≤ spans_from above upto all (x ∷ xs)
spans_fewer above upto all x xs = grind (arith, cases_lt, spans_high, spans_counted, spans_low)

module _ (top u from to floor : ℕ) (xs : List Lane) (before : AreUpTo top u xs) where
  -- outside of the raise, and above the floor
  span_outside : (ys : List Lane) → AreBeside (IsRisenLane from to floor) xs ys → (h : ℕ) → floor < h → h ≤ top
      → (h ≤ from) ⊎ (to < h) → span h h ys ≤ u
  span_outside ys are h some high out =
      let served = beside_as (IsRisenLane from to floor) (IsServedBefore h h) (λ x y r. record {
        time = r.time;
        tail = r.tail;
        counts = λ on. grind arith;
      }) are
      in let a = span_beside h h served h h (omega arith)
      in let c = before h (omega arith) (omega arith)
      in omega arith

  -- with the spans that begin within it, and those from a floor at most
  module _ (b : ℕ) (under : u ≤ b) (ys : List Lane) (are : AreBeside (IsRisenLane from to floor) xs ys)
      (lowest : (h : ℕ) → 0 < h → h ≤ floor → span h h ys ≤ b) where
    span_risen : (z : Lane) (zs : List Lane) → spans_from from to ys (z ∷ zs) ≤ b → 0 < z.head → z.head ≤ top
        → span z.head z.head ys ≤ b
    span_risen z zs inside some high = grind (arith, cases_lt, span_outside, spans_counted)

    spans_risen_of : (zs : List Lane) → spans_from from to ys zs ≤ b → spans_from 0 top ys zs ≤ b
    spans_risen_of [] inside = omega arith
    spans_risen_of (z ∷ zs) inside =
        let fewer = spans_fewer from to ys z zs
        in let rest = spans_risen_of zs (omega arith)
        in grind (arith, cases_lt, spans_high, spans_counted, span_risen, spans_low)

    pub spans_risen : spans_between from to ys ≤ b → spans_between 0 top ys ≤ b
    spans_risen inside = spans_risen_of ys inside

-- lanes of rows whose heads are related
pub lanes_beside : (R : ℕ → ℕ → Type 0) (hs hs' ts qs : List ℕ) → length ts ≡ length hs → length qs ≡ length hs
    → length hs' ≡ length hs → ((i : ℕ) → i < length hs → R (get_or hs i 0) (get_or hs' i 0))
    → AreBeside (IsLaneBeside R) (lanes hs ts qs) (lanes hs' ts qs)
lanes_beside R [] [] ts qs a b c each = nothing
lanes_beside R [] (h' ∷ hs') ts qs a b c each = absurd (omega arith)
lanes_beside R (h ∷ hs) [] ts qs a b c each = absurd (omega arith)
lanes_beside R (h ∷ hs) (h' ∷ hs') [] qs a b c each = absurd (omega arith)
lanes_beside R (h ∷ hs) (h' ∷ hs') (t ∷ ts) [] a b c each = absurd (omega arith)
lanes_beside R (h ∷ hs) (h' ∷ hs') (t ∷ ts) (q ∷ qs) a b c each =
    beside (record { head = h; time = t; tail = q }) (record { head = h'; time = t; tail = q })
    (record { time = refl; tail = refl; head = each zero (omega arith) })
    (lanes_beside R hs hs' ts qs (omega arith) (omega arith) (omega arith)
    (λ i here. each (suc i) (omega arith)))
