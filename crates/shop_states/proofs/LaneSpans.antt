-- Spans over lanes that stand for operations by nonincreasing tail: parts of their one-machine bound.
use Rattle.std.proofs.Common.{◌≡◌, ℕ, zero, suc, ◌+◌, ◌-◌, ◌^◌, ◌≤◌, ◌<◌, max, ◌⊎◌, inl, inr, List, [], ◌∷◌, ◌++◌}
use Rattle.std.proofs.{Common.{length, sym, ap, subst, arith, append_assoc}, lemmas.List.Sums.sum_by-cons}
use Rattle.std.{proofs.lemmas.Bool.{cases_Bool, cases_lt, leb-true, le-leb}, specs.List.{filter, sum_by}}
use Rattle.shop_lanes.specs.{Rows.Lane, Spans.{span, spans_from, spans_between}}
use Rattle.shop_states.proofs.SpanTurns.{span_served, span_left, spans_counted, spans_low, spans_high}
use Rattle.shop_bound.specs.{inner.NonincreasingTails.{one_between, IsNonincreasing}, declared.triples.Triple.Triple}
use Rattle.shop_bound.specs.{inner.Thresholds.{is_above, span_above, head_at}, OneMachine.one}
use Rattle.shop_bound.proofs.ThresholdLemmas.{span_above-some}
use Rattle.shop_bound.proofs.NonincreasingTails.{times_from, times_from-more, times_from-less, within_in, tried_all}

-- what stands in the second list is, but for what doesn't wait, related one by one to what stands in the first
pub data AreMatched (R : Triple → Lane → Type 0) : List Triple → List Lane → Type 0 where
  nothing : AreMatched R [] []
  empty : {ts : List Triple} {ls : List Lane} (x : Lane) → x.head ≡ 0 → AreMatched R ts ls
      → AreMatched R ts (x ∷ ls)
  matched : {ts : List Triple} {ls : List Lane} (t : Triple) (x : Lane) → R t x → AreMatched R ts ls
      → AreMatched R (t ∷ ts) (x ∷ ls)

pub matched_as : (R S : Triple → Lane → Type 0) → ((t : Triple) (x : Lane) → R t x → S t x)
    → {ts : List Triple} {ls : List Lane} → AreMatched R ts ls → AreMatched S ts ls
matched_as R S f nothing = nothing
matched_as R S f (empty x e m) = empty x e (matched_as R S f m)
matched_as R S f (matched t x r m) = matched t x (f t x r) (matched_as R S f m)

-- the lane has the operation's time and tail, and its head plus 1
pub record IsLaneOf (t : Triple) (x : Lane) : Type 0 where
  pub head : x.head ≡ t.head + 1
  pub time : x.time ≡ t.time
  pub tail : x.tail ≡ t.tail

-- the lane counts from `least` on where the operation begins from `head` on
pub record IsServedAs (least head : ℕ) (t : Triple) (x : Lane) : Type 0 where
  pub time : x.time ≡ t.time
  pub tail : x.tail ≡ t.tail
  pub same : ((least ≤ x.head) × (head ≤ t.head)) ⊎ ((x.head < least) × (t.head < head))

pub served_as : (head : ℕ) (t : Triple) (x : Lane) → IsLaneOf t x → IsServedAs (head + 1) head t x
served_as head t x r = grind (arith, cases_lt)

module _ (least head : ℕ) (some : 0 < least) where
  -- a span is at least what any threshold of tails gives
  pub span_covers : (tail : ℕ) {ts : List Triple} {ls : List Lane} → AreMatched (IsServedAs least head) ts ls
      → (start : ℕ) → 0 < length (filter (is_above head tail) ts)
      → start + sum_by (λ t. t.time) (filter (is_above head tail) ts) + tail ≤ span least start ls
  span_covers tail nothing start = λ above. absurd (omega arith)
  span_covers tail (empty {ts} {ls} x e m) start = λ above.
      let a = span_left least start x ls (omega arith) in let b = span_covers tail m start above in omega arith
  span_covers tail (matched {ts} {ls} t x r m) start =
      let us = filter (is_above head tail) ts
      in let rest = λ (clock : ℕ). span_covers tail m clock
      in let time = r.time in let last = r.tail
      in let more = sum_by-cons (λ (u : Triple). u.time) t us
      in elim r.same [
        | inl on ↦ grind (arith, span_served, le-leb, cases_Bool, cases_lt, none, leb-true)
        | inr off ↦ grind (arith, span_left, cases_Bool, leb-true)
      ]
    where
      none : (us : List Triple) → length us ≤ 0 → sum_by (λ u. u.time) us ≡ 0
      none [] h = omega arith
      none (u ∷ us) h = absurd (omega arith)

  -- and no more than the bound, where no tail is above an earlier one
  pub span_within : (us : List Triple) {ts : List Triple} {ls : List Lane} → AreMatched (IsServedAs least head) ts ls
      → IsNonincreasing (λ t. t.tail) (us ++ ts) → (start : ℕ) → start ≡ head + 1 + times_from head us
      → span least start ls ≤ one (us ++ ts) + 1
  span_within us nothing nonincreasing start e = omega arith
  span_within us (empty {ts} {ls} x h m) nonincreasing start e =
      let a = span_left least start x ls (omega arith) in let b = span_within us m nonincreasing start e in omega arith
  span_within us (matched {ts} {ls} t x r m) nonincreasing start e =
      let again = append_assoc us (t ∷ []) ts
      in let rest = λ (clock : ℕ). span_within (us ++ t ∷ []) m
      (subst (λ (vs : List Triple). IsNonincreasing (λ u. u.tail) vs) (sym again) nonincreasing) clock
      in let same : one ((us ++ t ∷ []) ++ ts) ≡ one (us ++ t ∷ ts) = ap one again
      in let time = r.time in let last = r.tail
      in grind (arith, within_in, times_from-more, span_left, times_from-less)

none_above : (ts : List Triple) (head tail : ℕ) → length (filter (is_above head tail) ts) ≡ 0
    → span_above ts head tail ≡ 0
none_above ts head tail e = rw e (omega arith)

pub from_none : (head : ℕ) → head + 1 ≡ head + 1 + times_from head []
unfolding times_from
from_none head = omega arith

module _ {ts : List Triple} {ls : List Lane} (m : AreMatched IsLaneOf ts ls) where
  served_from : (head : ℕ) → AreMatched (IsServedAs (head + 1) head) ts ls
  served_from head = matched_as IsLaneOf (IsServedAs (head + 1) head) (served_as head) m

  -- from one head on
  pub from_head_within : IsNonincreasing (λ t. t.tail) ts → (head : ℕ) → span (head + 1) (head + 1) ls ≤ one ts + 1
  from_head_within nonincreasing head =
      span_within (head + 1) head (omega arith) [] (served_from head) nonincreasing (head + 1) (from_none head)

  pub from_head_covers : (head tail : ℕ) → span_above ts head tail + 1 ≤ max 1 (span (head + 1) (head + 1) ls)
  from_head_covers head tail = grind (arith, cases_lt, span_covers, served_from, span_above-some, none_above)

  pub spans_within : (above upto : ℕ) → IsNonincreasing (λ t. t.tail) ts → (xs : List Lane)
      → spans_from above upto ls xs ≤ one ts + 1
  spans_within above upto nonincreasing [] = omega arith
  spans_within above upto nonincreasing (x ∷ xs) =
      let rest = spans_within above upto nonincreasing xs
      in elim (cases_lt above x.head) [
        | inl a ↦ elim (cases_lt upto x.head) [
          | inl b ↦ (let c = spans_high above upto ls x xs b in omega arith)
          | inr b ↦ (let c = spans_counted above upto ls x xs a b
              in let h : x.head - 1 + 1 ≡ x.head = omega arith
              in let d : span x.head x.head ls ≤ one ts + 1 =
              subst (λ (n : ℕ). span n n ls ≤ one ts + 1) h
              (from_head_within nonincreasing (x.head - 1)) in omega arith)
        ]
        | inr a ↦ (let c = spans_low above upto ls x xs a in omega arith)
      ]

-- among the spans is the one from the head of each operation on
spans_have : (from to : ℕ) (all : List Lane) {ts : List Triple} {ls : List Lane} → AreMatched IsLaneOf ts ls
    → (i : ℕ) → i < length ts → from ≤ head_at ts i → head_at ts i ≤ to
    → span (head_at ts i + 1) (head_at ts i + 1) all ≤ spans_from from (to + 1) all ls
spans_have from to all nothing i here a b = absurd (omega arith)
spans_have from to all (empty {ts} {ls} x e m) i here a b =
    let c = spans_low from (to + 1) all x ls (omega arith) in let d = spans_have from to all m i here a b in omega arith
spans_have from to all (matched {ts} {ls} t x r m) zero here a b = grind (arith, spans_counted)
spans_have from to all (matched {ts} {ls} t x r m) (suc i) here a b =
    let d = spans_have from to all m i (omega arith) a b in omega arith

-- what begins between the heads is covered by the spans between them: lanes have heads greater by 1, and `from` is no
-- head between
pub spans_cover : (from to : ℕ) {ts : List Triple} {ls : List Lane} → AreMatched IsLaneOf ts ls
    → IsNonincreasing (λ t. t.tail) ts → one_between from to ts + 1 ≤ max 1 (spans_between from (to + 1) ls)
spans_cover from to {ts} {ls} m nonincreasing =
    let best = spans_between from (to + 1) ls - 1
    in let a = tried_all ts from to (length ts) best (2 ^ 50) (record {
      covers = λ i below low high tail. (let b = from_head_covers m (head_at ts i) tail
          in let c = spans_have from to ls m i below low high in omega arith);
      within = (let a = spans_within m from (to + 1) nonincreasing ls in omega arith);
      again = λ h. absurd (omega arith);
    }) (omega arith)
    in omega arith
