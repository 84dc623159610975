-- One lane more of a span.
use Rattle.std.proofs.{Common.{◌≡◌, ℕ, ◌+◌, ◌<◌, ◌≤◌, max, List, ◌∷◌, arith}, lemmas.Bool.Decides.nat_tests}
use Rattle.shop_lanes.specs.{Rows.Lane, Spans.{span, spans_from}}

pub span_served : (least clock : ℕ) (x : Lane) (xs : List Lane) → least ≤ x.head
    → span least clock (x ∷ xs) ≡ max (clock + x.time + x.tail) (span least (clock + x.time) xs)
span_served least clock x xs h = grind (arith, nat_tests)

pub span_left : (least clock : ℕ) (x : Lane) (xs : List Lane) → x.head < least
    → span least clock (x ∷ xs) ≡ span least clock xs
span_left least clock x xs h = grind (arith, nat_tests)

-- one head more of the greatest of the spans
pub spans_counted : (above upto : ℕ) (all : List Lane) (x : Lane) (xs : List Lane) → above < x.head → x.head ≤ upto
    → spans_from above upto all (x ∷ xs) ≡ max (span x.head x.head all) (spans_from above upto all xs)
spans_counted above upto all x xs a b = grind (arith, nat_tests)

pub spans_low : (above upto : ℕ) (all : List Lane) (x : Lane) (xs : List Lane) → x.head ≤ above
    → spans_from above upto all (x ∷ xs) ≡ spans_from above upto all xs
spans_low above upto all x xs a = grind (arith, nat_tests)

pub spans_high : (above upto : ℕ) (all : List Lane) (x : Lane) (xs : List Lane) → upto < x.head
    → spans_from above upto all (x ∷ xs) ≡ spans_from above upto all xs
spans_high above upto all x xs a = grind (arith, nat_tests)
