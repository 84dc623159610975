-- Spans of lanes whose times and greatest tail fit.
use Rattle.std.proofs.{Common.{ℕ, ◌+◌, ◌≤◌, ◌<◌, inl, inr, List, [], ◌∷◌, arith, sum_by}, lemmas.Bool.cases_lt}
use Rattle.std.proofs.lemmas.List.Sums.{sum_by-cons}
use Rattle.shop_lanes.specs.{Rows.Lane, Spans.{FitsSpan, greatest_by, span, spans_between, spans_from}}
use Rattle.shop_states.proofs.SpanTurns.{span_left, spans_counted, spans_high, spans_low}

pub span_within : (least start : ℕ) (xs : List Lane)
    → span least start xs ≤ start + sum_by (λ x. x.time) xs + greatest_by (λ x. x.tail) xs
span_within least start [] = omega arith
span_within least start (x ∷ xs) =
    let sum = sum_by-cons (λ (l : Lane). l.time) x xs
    in elim (cases_lt x.head least) [
      | inl left ↦ (let e = span_left least start x xs left in let rest = span_within least start xs in omega arith)
      | inr served ↦ grind (arith, span_within least (start + x.time) xs)
    ]

pub spans_within : (limit above upto : ℕ) (all : List Lane) → FitsSpan limit upto all → (xs : List Lane)
    → spans_from above upto all xs ≤ limit
spans_within limit above upto all fits [] = omega arith
spans_within limit above upto all fits (x ∷ xs) =
    let rest = spans_within limit above upto all fits xs
    in grind (arith, cases_lt, spans_high, spans_counted, span_within, spans_low)

-- what bounds each span that begins between two moments bounds all of them
spans_each_of : (c above upto : ℕ) (all : List Lane) → ((h : ℕ) → above < h → h ≤ upto → span h h all ≤ c)
    → (xs : List Lane) → spans_from above upto all xs ≤ c
spans_each_of c above upto all each [] = omega arith
spans_each_of c above upto all each (x ∷ xs) =
    grind (arith, cases_lt, spans_high, spans_counted, spans_low, spans_each_of c above upto all each xs)

pub spans_each : (c above upto : ℕ) (xs : List Lane) → ((h : ℕ) → above < h → h ≤ upto → span h h xs ≤ c)
    → spans_between above upto xs ≤ c
spans_each c above upto xs each = spans_each_of c above upto xs each xs
