-- The own span of one position, from the ends of what stands before it and behind it.
use Rattle.std.proofs.Common.{◌≡◌, ℕ, zero, suc, ◌+◌, ◌-◌, ◌<◌, ◌≤◌, max, Bool, cond, leb, List, [], ◌∷◌, ◌++◌, length}
use Rattle.std.proofs.Common.{take, drop, set, get_or, refl, ap, sym, ◌∙◌, arith, subst, take-append-drop, length-set}
use Rattle.std.{proofs.lemmas.{List.Sums.{sum_by-cons, sum_by-append}, Bool.Decides.nat_tests}, specs.Prelude.All}
use Rattle.shop_lanes.specs.{Rows.{Lane, lanes}, Spans.{span, FitsSpan, FitOwnSpans}, inner.OwnSpans.IsLoadBehind}
use Rattle.shop_lanes.specs.inner.Passes.{clock_after}
use Rattle.shop_lanes.proofs.{SpanParts.greatest_by-append, LaneLists.{lane_at, lanes_more, lanes-take, lanes-drop}}
use Rattle.shop_lanes.proofs.Loads.{work-append, load-append, work-one, work_le_load, work_le, load_le, span_from_start}

-- where all lanes are those before one, that one and those behind, none of their sums is above the limit
pub record ArePartsWithin (limit start : ℕ) (before : List Lane) (x : Lane) (behind : List Lane) : Type 0 where
  pub fit : start + clock_after 1 0 before + x.time + x.tail ≤ limit
  pub load_before : start + span 1 0 before + x.time ≤ limit
  pub load_behind : start + clock_after 1 0 before + x.time + span 1 0 behind ≤ limit

pub parts_within : (limit start : ℕ) (all before : List Lane) (x : Lane) (behind : List Lane)
    → all ≡ before ++ (x ∷ behind) → FitsSpan limit start all → ArePartsWithin limit start before x behind
parts_within limit start all before x behind e fits =
    let whole = subst (FitsSpan limit start) e fits
    in let sum = sum_by-append (λ y. y.time) before (x ∷ behind)
    in let sum_here = sum_by-cons (λ y. y.time) x behind
    in let tails = greatest_by-append (λ y. y.tail) before (x ∷ behind)
    in let work_before = work_le 1 before
    in let work_behind = work_le 1 behind
    in let before_le = load_le 1 before
    in let behind_le = load_le 1 behind
    in record {
      fit = omega (arith, whole, sum, sum_here, tails, work_before);
      load_before = omega (arith, whole, sum, sum_here, tails, work_before, before_le);
      load_behind = omega (arith, whole, sum, sum_here, tails, work_before, work_behind, behind_le);
    }

pub all_at : (P : Lane → Type 0) (xs : List Lane) (x : Lane) (ys : List Lane) → All P (xs ++ (x ∷ ys)) → P x
all_at P [] x ys h = h 0 x (omega arith)
all_at P (y ∷ xs) x ys h = all_at P xs x ys (λ k d lt. h (suc k) d (omega arith))

take_set : (xs : List ℕ) (i x : ℕ) → take i (set xs i x) ≡ take i xs
take_set [] i x = refl
take_set (y ∷ xs) zero x = refl
take_set (y ∷ xs) (suc i) x = ap (λ l. y ∷ l) (take_set xs i x)

drop_set : (xs : List ℕ) (i x : ℕ) → drop (suc i) (set xs i x) ≡ drop (suc i) xs
drop_set [] i x = refl
drop_set (y ∷ xs) zero x = refl
drop_set (y ∷ xs) (suc i) x = drop_set xs i x

set_to_none : (xs : List ℕ) (i : ℕ) → get_or (set xs i 0) i 0 ≡ 0
set_to_none [] i = refl
set_to_none (y ∷ xs) zero = refl
set_to_none (y ∷ xs) (suc i) = set_to_none xs i

taken_more : (hs ts qs : List ℕ) (i : ℕ) → length ts ≡ length hs → length qs ≡ length hs → i < length hs
    → take (suc i) (lanes hs ts qs) ≡ take i (lanes hs ts qs) ++ (lane_at hs ts qs i ∷ [])
taken_more [] ts qs i a b lt = absurd (omega arith)
taken_more (h ∷ hs) [] qs i a b lt = absurd (omega arith)
taken_more (h ∷ hs) (t ∷ ts) [] i a b lt = absurd (omega arith)
taken_more (h ∷ hs) (t ∷ ts) (q ∷ qs) zero a b lt = refl
taken_more (h ∷ hs) (t ∷ ts) (q ∷ qs) (suc i) a b lt = grind (arith, taken_more hs ts qs i)

-- its end, or when the last of what else waits ends if it is served in this order from there on
abbrev pub own_in_order : List ℕ → List ℕ → List ℕ → ℕ → ℕ
own_in_order heads times tails i =
    let end = get_or heads i 0 + get_or times i 0
    in max end (span 1 end (lanes (set heads i 0) times tails))

-- one operation in numbers: what is written fits
fit_numbers : (limit h t q C A R K Z : ℕ) (on : Bool) → K ≡ C + cond on t 0 → max K Z ≡ K + R
    → h + C + t + q ≤ limit → h + A + t ≤ limit → h + C + t + R ≤ limit
    → (h + t ≤ limit) × (h + t + max A (Z - t) ≤ limit)
fit_numbers limit h t q x y z u v w ek ez f1 f2 f3 = grind arith

module _ (hs ts qs : List ℕ) (a : length ts ≡ length hs) (b : length qs ≡ length hs) where
  abbrev all : List Lane
  all = lanes hs ts qs

  pub parted : (i : ℕ) → i < length hs → all ≡ take i all ++ (lane_at hs ts qs i ∷ drop (i + 1) all)
  parted i lt = grind (arith, take-append-drop i all, lanes_more hs ts qs i a b lt)

  pub work_more : (i : ℕ) → i < length hs
      → clock_after 1 0 (take (suc i) all)
      ≡ clock_after 1 0 (take i all) + cond (leb 1 (get_or hs i 0)) (get_or ts i 0) 0
  work_more i lt = grind (arith, taken_more, work-append, work-one)

  -- what else waits, where position p is taken out
  others : (p : ℕ) → p < length hs
      → lanes (set hs p 0) ts qs ≡ take p all ++ (lane_at (set hs p 0) ts qs p ∷ drop (p + 1) all)
  others p lt =
      let taken = set hs p 0
      in let many : length taken ≡ length hs = length-set hs p 0
      in let on : suc p ≡ p + 1 = omega arith
      in let la : length ts ≡ length taken = a ∙ sym many
      in let lb : length qs ≡ length taken = b ∙ sym many
      in let front : take p (lanes taken ts qs) ≡ take p all =
      lanes-take p taken ts qs la lb ∙ ap (λ l. lanes l (take p ts) (take p qs)) (take_set hs p 0)
      ∙ sym (lanes-take p hs ts qs a b)
      in let back : drop (p + 1) (lanes taken ts qs) ≡ drop (p + 1) all =
      lanes-drop (p + 1) taken ts qs la lb
      ∙ ap (λ l. lanes l (drop (p + 1) ts) (drop (p + 1) qs))
      (ap (λ k. drop k taken) (sym on) ∙ drop_set hs p 0 ∙ ap (λ k. drop k hs) on)
      ∙ sym (lanes-drop (p + 1) hs ts qs a b)
      in sym (take-append-drop p (lanes taken ts qs))
      ∙ ap (λ l. take p (lanes taken ts qs) ++ l) (lanes_more taken ts qs p la lb (omega (arith, many)))
      ∙ ap (λ l. l ++ (lane_at taken ts qs p ∷ drop (p + 1) (lanes taken ts qs))) front
      ∙ ap (λ l. take p all ++ (lane_at taken ts qs p ∷ l)) back

  own_is : (p r : ℕ) → p < length hs
      → r ≡ max (span 1 0 (take p all)) (clock_after 1 0 (take p all) + span 1 0 (drop (p + 1) all))
      → get_or hs p 0 + get_or ts p 0 + r ≡ own_in_order hs ts qs p
  own_is p r lt e = grind (arith, set_to_none, others, load-append, span_from_start)

  module _ (i : ℕ) (lt : i < length hs) (before behind : ℕ) (before_is : before ≡ span 1 0 (take i all))
      (behind_is : IsLoadBehind all (suc i) behind) where
    behind_here : max (clock_after 1 0 (take (suc i) all)) behind
        ≡ clock_after 1 0 (take (suc i) all) + span 1 0 (drop (i + 1) all)
    behind_here = grind arith

    pub own_fits : (limit : ℕ) → FitOwnSpans limit all
        → (get_or hs i 0 + get_or ts i 0 ≤ limit)
        × (get_or hs i 0 + get_or ts i 0 + max before (behind - get_or ts i 0) ≤ limit)
    own_fits limit fits =
        let each = subst (All (λ x. FitsSpan limit x.head all)) (parted i lt) fits.each
        in let fitting : FitsSpan limit (get_or hs i 0) all =
        all_at (λ x. FitsSpan limit x.head all) (take i all) (lane_at hs ts qs i) (drop (i + 1) all) each
        in let within = parts_within limit (get_or hs i 0) all (take i all) (lane_at hs ts qs i) (drop (i + 1) all)
        (parted i lt) fitting
        in let load_before : get_or hs i 0 + before + get_or ts i 0 ≤ limit =
        let w = within.load_before in omega (arith, w, before_is)
        in grind (arith, each, fitting, within, load_before, fit_numbers, work_more, behind_here)

    pub own_at : 0 < get_or hs i 0
        → get_or hs i 0 + get_or ts i 0 + max before (behind - get_or ts i 0) ≡ own_in_order hs ts qs i
    own_at waits = grind (arith, work_more, behind_here, work_le_load, own_is, nat_tests)
