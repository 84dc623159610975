-- When the last of some lanes ends, its tail included, if they are served one after the other.
--     span least start xs            the greatest end, tail included, of the lanes with a head of
--                                    at least `least`, served in order from `start` on
--     spans_between above upto xs    the greatest of the spans from each head above `above` and up
--                                    to `upto`, of the lanes that begin no earlier
--     IsRaisedBelow limit most r     r is `most`, or both reach the limit and r is no greater
--     own_span .. q                  the end of the operation at position q or, if later, the
--                                    greatest end of the others, served from that end on
--     FitsSpan, FitOwnSpans          the sums of spans, or of own spans, fit into a lane
use Rattle.std.specs.Prelude.{◌≡◌, ℕ, ◌+◌, ◌-◌, ◌*◌, ◌<◌, ◌≤◌, max, List, [], ◌∷◌, All, sum_by, if◌then◌else◌, nat_le}
use Rattle.std.specs.Prelude.{nat_lt, ◌&&◌, slice_index, slice_set}
use Rattle.shop_lanes.specs.Rows.{Lane, lanes_of}

-- 0 if there are none
abbrev pub span : ℕ → ℕ → List Lane → ℕ
span least start [] = 0
span least start (x ∷ xs) =
    if nat_le least x.head then max (start + x.time + x.tail) (span least (start + x.time) xs) else span least start xs

abbrev pub greatest_by : (Lane → ℕ) → List Lane → ℕ
greatest_by f [] = 0
greatest_by f (x ∷ xs) = max (f x) (greatest_by f xs)

-- Over the heads of xs above `above` and up to `upto`: the greatest span, from the head on, of the
-- lanes of `all` that begin no earlier.
abbrev pub spans_from : ℕ → ℕ → List Lane → List Lane → ℕ
spans_from above upto all xs =
    greatest_by (λ x. if nat_lt above x.head && nat_le x.head upto then span x.head x.head all else 0) xs

abbrev pub spans_between : ℕ → ℕ → List Lane → ℕ
spans_between above upto xs = spans_from above upto xs xs

pub record IsRaisedBelow (limit most r : ℕ) : Type 0 where
  pub no_greater : r ≤ most
  pub exact : r < limit → r ≡ most

-- the start, all times and the greatest tail together are at most `greatest`
abbrev pub FitsSpan : ℕ → ℕ → List Lane → Type 0
FitsSpan greatest start xs = start + sum_by (λ x. x.time) xs + greatest_by (λ x. x.tail) xs ≤ greatest

pub record FitOwnSpans (greatest : ℕ) (xs : List Lane) : Type 0 where
  pub whole : FitsSpan greatest 0 xs
  pub each : All (λ x. FitsSpan greatest x.head xs) xs

abbrev pub own_span : List ℕ → List ℕ → List ℕ → ℕ → ℕ → ℕ → ℕ
own_span heads times tails from to q =
    let end = slice_index heads q + slice_index times q
    in max end (span 1 end (lanes_of (slice_set heads q 0) times tails from to))

-- `owns` has the own span of each operation that waits in these blocks
abbrev pub AreOwnSpans : List ℕ → List ℕ → List ℕ → ℕ → ℕ → List ℕ → Type 0
AreOwnSpans heads times tails from to owns = (q : ℕ) → 8 * from ≤ q → q < 8 * to → 0 < slice_index heads q
    → slice_index owns (q - 8 * from) ≡ own_span heads times tails from to q
