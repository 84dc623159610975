-- Ceilings of spans, read off the spans from heads.
use Rattle.std.proofs.{Common.{◌≡◌, ℕ, ◌+◌, ◌≤◌, ◌<◌, inl, inr, List, refl, arith}, lemmas.Bool.cases_lt}
use Rattle.shop_lanes.specs.{Rows.Lane, Spans.{span, spans_between}}
use Rattle.shop_lanes.proofs.LeapTurns.{least_among, least_head, least_head_le, same_span, span_falls}
use Rattle.shop_states.proofs.{RisenLanes.{AreBeside, IsLaneBeside, beside, nothing}, SpanTurns.span_left}

-- no span of these lanes, from whatever moment on, is above c
abbrev pub IsCeiling : ℕ → List Lane → Type 0
IsCeiling c xs = (g : ℕ) → 0 < g → span g g xs ≤ c

-- no head is above a number
abbrev pub IsBelow : ℕ → ℕ → ℕ → Type 0
IsBelow top a b = b ≤ top

abbrev pub AreBelow : ℕ → List Lane → List Lane → Type 0
AreBelow top xs ys = AreBeside (IsLaneBeside (IsBelow top)) xs ys

-- then nothing is served from a later moment on
none_served : {top : ℕ} (least s : ℕ) {xs ys : List Lane} → AreBelow top xs ys → top < least → span least s ys ≡ 0
none_served least s nothing past = refl
none_served least s (beside {xs} {ys} x y r rest) past = grind (arith, span_left, none_served least s rest past)

-- the greatest span from a head is a ceiling
pub ceiling_of_spans : (top c : ℕ) {xs ys : List Lane} → AreBelow top xs ys → spans_between 0 top ys ≤ c
    → IsCeiling c ys
ceiling_of_spans top c {xs} {ys} below within g some = elim (cases_lt top g) [
  | inl past ↦ (let none = none_served g g below past in omega arith)
  | inr early ↦ elim (cases_lt (least_head (top + 1) g ys) (top + 1)) [
    | inl lt ↦ (let h = least_head (top + 1) g ys
        in let low = least_head_le (top + 1) g ys (omega arith)
        in let same = same_span (top + 1) g h g ys low (omega arith)
        in let falls = span_falls h h g h ys (omega arith) low
        in let among = least_among (top + 1) g 0 top ys ys h refl lt (omega arith) (omega arith)
        in omega arith)
    | inr ge ↦ (let same = same_span (top + 1) g (top + 1) g ys (omega arith) ge
        in let none = none_served (top + 1) g below (omega arith) in omega arith)
  ]
]
