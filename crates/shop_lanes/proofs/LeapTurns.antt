-- Spans from heads on, and how far one load settles them.
use Rattle.std.proofs.Common.{◌≡◌, ℕ, ◌+◌, ◌-◌, ◌<◌, ◌≤◌, min, max, List, [], ◌∷◌, length, refl, ap, sym, ◌∙◌, arith}
use Rattle.std.proofs.{lemmas.Bool.Decides.nat_tests, lemmas.Bool.cases_lt}
use Rattle.shop_lanes.specs.{Rows.{Lane, lanes}, Spans.{span, spans_from, spans_between, FitsSpan, IsRaisedBelow}}
use Rattle.shop_lanes.specs.{Eights.later_head, inner.LaterHeads.least_later}
use Rattle.shop_lanes.proofs.Loads.{span_from_start, load_le, work_le}

-- fewer lanes that begin earlier end no later
pub span_falls : (lower upper s t : ℕ) (xs : List Lane) → lower ≤ upper → s ≤ t → span upper s xs ≤ span lower t xs
span_falls lower upper s t [] le early = omega arith
span_falls lower upper s t (x ∷ xs) le early =
    grind (
      arith,
      nat_tests,
      span_falls lower upper (s + x.time) (t + x.time) xs le,
      span_falls lower upper s (t +
          x.time) xs le,
      span_falls lower upper s t xs le early,
    )

-- the least head of lanes from a number on; the greatest number if there is none
abbrev pub least_head : ℕ → ℕ → List Lane → ℕ
least_head top from [] = top
least_head top from (x ∷ xs) = min (later_head top from x.head) (least_head top from xs)

pub least_head_is : (top from : ℕ) (hs ts qs : List ℕ) → length ts ≡ length hs → length qs ≡ length hs
    → least_later top from hs ≡ least_head top from (lanes hs ts qs)
least_head_is top from [] ts qs a b = refl
least_head_is top from (h ∷ hs) [] qs a b = absurd (omega arith)
least_head_is top from (h ∷ hs) (t ∷ ts) [] a b = absurd (omega arith)
least_head_is top from (h ∷ hs) (t ∷ ts) (q ∷ qs) a b = grind (arith, least_head_is top from hs ts qs)

-- where no head is below `head` and at least `from`, both serve the same lanes
pub same_span : (top from head s : ℕ) (xs : List Lane) → from ≤ head → head ≤ least_head top from xs
    → span head s xs ≡ span from s xs
same_span top from head s [] le least = refl
same_span top from head s (x ∷ xs) le least =
    grind (arith, nat_tests, same_span top from head (s + x.time) xs le, same_span top from head s xs le)

-- it is no earlier than asked for, and where it is below the greatest number, something waits
pub least_head_le : (top from : ℕ) (xs : List Lane) → from ≤ top → from ≤ least_head top from xs
least_head_le top from [] le = le
least_head_le top from (x ∷ xs) le = grind (arith, nat_tests, least_head_le top from xs le)

pub some_waits : (top from s : ℕ) (xs : List Lane) → least_head top from xs < top → s ≤ span from s xs
some_waits top from s [] lt = absurd (omega arith)
some_waits top from s (x ∷ xs) lt = grind (arith, some_waits top from s xs)

-- the span from the least head on is that head and the load
pub least_span : (top from : ℕ) (xs : List Lane) → from ≤ top → least_head top from xs < top
    → span (least_head top from xs) (least_head top from xs) xs ≡ least_head top from xs + span from 0 xs
least_span top from xs le lt =
    let head = least_head top from xs
    in let same = same_span top from head head xs (least_head_le top from xs le) (omega arith)
    in let later = span_from_start from head xs
    in let some = some_waits top from head xs lt
    in omega (arith, same, later, some)

-- it is among the spans from the heads above another
pub least_among : (top from above upto : ℕ) (all xs : List Lane) (head : ℕ) → head ≡ least_head top from xs → head < top
    → above < head → head ≤ upto → span head head all ≤ spans_from above upto all xs
least_among top from above upto all [] head e lt over under = absurd (omega arith)
least_among top from above upto all (x ∷ xs) head e lt over under =
    grind (arith, cases_lt, nat_tests, least_among top from above upto all xs head)

-- what is settled up to a head needs no further look
pub settled_spans : (lower upper upto bound : ℕ) (all : List Lane)
    → ((h : ℕ) → lower < h → h ≤ upper → h ≤ upto → span h h all ≤ bound) → (xs : List Lane)
    → spans_from lower upto all xs ≤ max (spans_from upper upto all xs) bound
settled_spans lower upper upto bound all each [] = omega arith
settled_spans lower upper upto bound all each (x ∷ xs) = grind (arith, settled_spans lower upper upto bound all each xs)

pub spans_fall : (lower upper upto : ℕ) (all xs : List Lane) → lower ≤ upper
    → spans_from upper upto all xs ≤ spans_from lower upto all xs
spans_fall lower upper upto all [] le = omega arith
spans_fall lower upper upto all (x ∷ xs) le = grind (arith, nat_tests, spans_fall lower upper upto all xs le)

pub none_between : (above upto : ℕ) (all xs : List Lane) → upto ≤ above → spans_from above upto all xs ≡ 0
none_between above upto all [] le = refl
none_between above upto all (x ∷ xs) le = grind (arith, nat_tests, none_between above upto all xs le)

pub none_so_early : (top above upto : ℕ) (all xs : List Lane) → upto < least_head top (above + 1) xs
    → spans_from above upto all xs ≡ 0
none_so_early top above upto all [] lt = refl
none_so_early top above upto all (x ∷ xs) lt = grind (arith, none_so_early top above upto all xs (omega arith))

-- a head and the load of what begins no earlier settle its span
pub settled_by : (settled load bound : ℕ) (all : List Lane) → load ≡ span (settled + 1) 0 all
    → (h : ℕ) → settled < h → h + load ≤ bound → span h h all ≤ bound
settled_by settled load bound all e h over within =
    grind (arith, span_from_start h h all, span_falls (settled + 1) h 0 0 all (omega arith) (omega arith))

-- how far leaps have come: all spans from heads up to `settled` are in the bound
pub record IsLeaped (above upto most : ℕ) (all : List Lane) (settled bound : ℕ) : Type 0 where
  pub kept : most ≤ bound
  pub reaches : max bound (spans_between settled upto all) ≡ max most (spans_between above upto all)

exactly : (limit : ℕ) {m r : ℕ} → r ≡ m → IsRaisedBelow limit m r
exactly limit is = record { no_greater = omega (arith, is); exact = λ lt. is }

module _ {above upto most : ℕ} {all : List Lane} {settled bound : ℕ}
    (h : IsLeaped above upto most all settled bound) where
  no_greater : bound ≤ max most (spans_between above upto all)
  no_greater = let a = h.reaches in omega (arith, a)

  pub leaps_end : upto ≤ settled → (limit : ℕ) → IsRaisedBelow limit (max most (spans_between above upto all)) bound
  leaps_end le limit = grind (arith, none_between, exactly)

  pub leaps_reached : (limit : ℕ) → limit ≤ bound → IsRaisedBelow limit (max most (spans_between above upto all)) bound
  leaps_reached limit over = record { no_greater = no_greater; exact = λ lt. absurd (omega (arith, lt, over)) }

  module _ {load : ℕ} (load_is : load ≡ span (settled + 1) 0 all) where
    pub load_fits : (limit : ℕ) → FitsSpan limit upto all → upto + load ≤ limit
    load_fits limit fits = grind (arith, load_le, work_le)

    pub leaps_within : upto + load ≤ bound → (limit : ℕ)
        → IsRaisedBelow limit (max most (spans_between above upto all)) bound
    leaps_within le limit =
        let a = h.reaches
        in let left = settled_spans settled upto upto bound all
        (λ k over under under'. settled_by settled load bound all load_is k over (omega arith)) all
        in let none = none_between upto upto all all (omega arith)
        in exactly limit (omega (arith, a, left, none))

    module _ (top : ℕ) {head : ℕ} (head_is : head ≡ least_head top (settled + 1) all) where
      pub leaps_past : upto < head → (limit : ℕ)
          → IsRaisedBelow limit (max most (spans_between above upto all)) bound
      leaps_past lt limit = grind (arith, none_so_early, exactly)

      module _ (before : settled < upto) (under : head ≤ upto) (below_top : upto < top) (next : ℕ)
          (next_is : next ≡ max bound (head + load)) where
        low : settled < head
        low = grind (arith, least_head_le)

        pub leap_rises : settled < next - load
        leap_rises = omega (arith, low, next_is)

        pub leap : IsLeaped above upto most all (next - load) next
        leap =
            let a = h.reaches
            in let room : settled + 1 ≤ top = omega (arith, before, below_top)
            in let less : least_head top (settled + 1) all < top = omega (arith, under, below_top)
            in let own : span head head all ≡ head + load =
            ap (λ k. span k k all) head_is ∙ least_span top (settled + 1) all room less
            ∙ ap (λ k. k + span (settled + 1) 0 all) (sym head_is) ∙ ap (λ k. head + k) (sym load_is)
            in let among = least_among top (settled + 1) settled upto all all head head_is
            (omega (arith, under, below_top)) low under
            in let left = settled_spans settled (next - load) upto next all
            (λ k after upper within. settled_by settled load next all load_is k after (omega (arith, next_is))) all
            in let falls = spans_fall settled (next - load) upto all all (let b = leap_rises in omega (arith, b))
            in record {
              kept = let b = h.kept in omega (arith, b, next_is);
              reaches = omega (arith, a, own, among, left, falls, next_is);
            }
