-- What was seen while heads were raised bounds what is left after one more operation.
use Rattle.std.proofs.Common.{rules, ◌≡◌, ℕ, ◌+◌, ◌-◌, ◌*◌, ◌≤◌, ◌<◌, inl, inr, List, [], ◌∷◌, ◌++◌, length, get_or}
use Rattle.std.proofs.{Common.{refl, sym, ◌∙◌, ap, subst, arith}, lemmas.Bool.{cases_eq, cases_lt, eq-eqb, ne_eqb}}
use Rattle.shop_lanes.specs.{Rows.{Rows, Lane, lanes, lanes_of, blocks, by_columns, index_at_rank}, Spans.span}
use Rattle.shop_lanes.proofs.Columns.{by_columns-at, lanes-by_columns, length-by_columns, index_fits}
use Rattle.shop_lanes.proofs.LaneLists.{length-blocks, lanes-blocks}
use Rattle.shop_model.specs.{Limits.IsWithinLimits, Shop.Shop, Word.{IsWord, placing, place_next}}
use Rattle.shop_model.proofs.{Placings.place_next-is, WordLemmas.IsWord-init}
use Rattle.shop_bound.{specs.{Bound.lb, Heads.head_of}, proofs.HeadsStay.steps_rise}
use Rattle.shop_layout.specs.{Lanes.lanes_on, Positions.{AreMachinesOf, LayoutState, IsLaidOut, first_position}}
use Rattle.shop_layout.proofs.{LaidPositions.each_position, MachineLoads.block_at}
use Rattle.shop_states.specs.inner.{LaneHeads.{AreHeadsAt, AreStored}, Watchers.{IsSeenAt, floor_on}, LaneRaises.Raise}
use Rattle.shop_states.proofs.{ChildBounds.left-le-lb, ChildRaises.{IsBounded, bounded_by_raise, covered_all}}
use Rattle.shop_states.proofs.RisenLanes.{AreBeside, AreUpTo, IsLaneBeside, IsRisen, IsRisenLane, IsServedBefore}
use Rattle.shop_states.proofs.{RisenLanes.{beside_as, lanes_beside, span_beside, spans_risen}, LeftSlots.left_falls}
use Rattle.shop_states.proofs.{LaneSpans.from_head_within, MachineLanes.left_matched}

-- lanes of the same blocks of rows whose heads are related there
pub blocks_beside : (R : ℕ → ℕ → Type 0) (first end : ℕ) (hs hs' ts qs : List ℕ)
    → length ts ≡ length hs → length qs ≡ length hs
    → length hs' ≡ length hs → 8 * end ≤ length hs
    → ((q : ℕ) → 8 * first ≤ q → q < 8 * end → R (get_or hs q 0) (get_or hs' q 0))
    → AreBeside (IsLaneBeside R) (lanes_of hs ts qs first end) (lanes_of hs' ts qs first end)
blocks_beside R first end hs hs' ts qs a b c within each =
    let n = end - first
    in let whole = λ (xs : List ℕ) (e : 8 * end ≤ length xs). length-blocks first end xs e ∙ eights
    in let lh : length (blocks first end hs) ≡ 8 * n = whole hs within
    in let lh' : length (blocks first end hs') ≡ 8 * n = whole hs' (omega arith)
    in let lt : length (blocks first end ts) ≡ 8 * n = whole ts (omega arith)
    in let lq : length (blocks first end qs) ≡ 8 * n = whole qs (omega arith)
    in let rh = length-by_columns n (blocks first end hs) lh
    in let rh' = length-by_columns n (blocks first end hs') lh'
    in let rt = length-by_columns n (blocks first end ts) lt
    in let rq = length-by_columns n (blocks first end qs) lq
    in let risen = lanes_beside R (by_columns n (blocks first end hs)) (by_columns n (blocks first end hs'))
    (by_columns n (blocks first end ts)) (by_columns n (blocks first end qs)) (rt ∙ sym rh) (rq ∙ sym rh) (rh' ∙ sym rh)
    (λ i here.
    let q = index_at_rank n i
    in let inside : i < 8 * n = omega (arith, here, rh)
    in let fits = index_fits n i inside
    in let old = by_columns-at n (blocks first end hs) lh i 0 inside ∙ block_at hs first end q (omega (arith, fits))
    in let new = by_columns-at n (blocks first end hs') lh' i 0 inside ∙ block_at hs' first end q (omega (arith, fits))
    in subst (λ (x : ℕ). R x (get_or (by_columns n (blocks first end hs')) i 0)) (sym old)
    (subst (R (get_or hs (8 * first + q) 0)) (sym new)
    (each (8 * first + q) (omega arith) (omega (arith, fits)))))
    in subst (λ (xs : List Lane). AreBeside (IsLaneBeside R) xs (lanes_of hs' ts qs first end))
    (by_both hs lh lt lq a b)
    (subst (AreBeside (IsLaneBeside R)
    (lanes (by_columns n (blocks first end hs)) (by_columns n (blocks first end ts))
    (by_columns n (blocks first end qs))))
    (by_both hs' lh' lt lq (a ∙ sym c) (b ∙ sym c)) risen)
  where
    eights : 8 * end - 8 * first ≡ 8 * (end - first)
    eights = omega arith

    by_both : (ks : List ℕ) → length (blocks first end ks) ≡ 8 * (end - first)
        → length (blocks first end ts) ≡ 8 * (end - first) → length (blocks first end qs) ≡ 8 * (end - first)
        → length ts ≡ length ks → length qs ≡ length ks
        → lanes (by_columns (end - first) (blocks first end ks)) (by_columns (end - first) (blocks first end ts))
        (by_columns (end - first) (blocks first end qs)) ≡ lanes_of ks ts qs first end
    by_both ks lk lt lq et eq = grind (arith, lanes-by_columns, lanes-blocks)

-- no span of a machine is above the bound of the word
pub word_spans : {shop : Shop} → (limits : IsWithinLimits shop) → {l : LayoutState} → (laid : IsLaidOut shop l)
    → (w : List ℕ) → IsWord shop w → {hs : List ℕ} → AreHeadsAt shop (placing shop w) l hs → (m : ℕ)
    → m < shop.machines → (g : ℕ) → 0 < g
    → span g g (lanes_of hs l.times l.tails (get_or l.blocks m 0) (get_or l.blocks (m + 1) 0)) ≤ lb shop w + 1
word_spans {shop} limits {l} laid w word {hs} heads m known g some =
    let p = placing shop w
    in let falls = left_falls shop p (get_or laid.slots m []) (laid.are.slots m known).nonincreasing
    in let a = from_head_within (left_matched limits laid m known p hs heads) falls (g - 1)
    in let b = left-le-lb shop limits laid.slots laid.are w word m known
    in let e : span (g - 1 + 1) (g - 1 + 1) (lanes_of hs l.times l.tails (get_or l.blocks m 0)
    (get_or l.blocks (m + 1) 0)) ≡ span g g (lanes_of hs l.times l.tails (get_or l.blocks m 0)
    (get_or l.blocks (m + 1) 0)) =
    ap (λ (n : ℕ). span n n (lanes_of hs l.times l.tails (get_or l.blocks m 0) (get_or l.blocks (m + 1) 0)))
    (omega arith)
    in omega arith

-- the lanes of a machine by what stands in the rows
pub lanes_are : (l : LayoutState) (rows : Rows) (hs : List ℕ) → rows.heads ≡ hs → rows.times ≡ l.times
    → rows.tails ≡ l.tails → (m : ℕ)
    → lanes_of hs l.times l.tails (get_or l.blocks m 0) (get_or l.blocks (m + 1) 0) ≡ lanes_on rows l m
lanes_are l rows hs heads times tails m = rw (heads, times, tails) refl

module _ {shop : Shop} (limits : IsWithinLimits shop) {l : LayoutState} (laid : IsLaidOut shop l) (w : List ℕ)
    (j : ℕ) (fits : IsWord shop (w ++ j ∷ [])) {was now : List ℕ} (old : AreHeadsAt shop (placing shop w) l was)
    (new : AreHeadsAt shop (place_next shop (placing shop w) j) l now) where
  -- what waits now waited before
  waited : (q : ℕ) → 0 < get_or now q 0 → 0 < get_or was q 0
  waited q some = grind (arith, each_position, steps_rise, place_next-is, cases_lt)

  -- from the end on, all that waits now waited before, the operation aside
  module _ {left : List ℕ}
      (stored : AreStored shop (place_next shop (placing shop w) j).steps (head_of shop (placing shop w)) l left) where
    waited_left : (q : ℕ) → 0 < get_or now q 0 → 0 < get_or left q 0
    waited_left q some = grind (arith, each_position, cases_lt)

    pub span_ahead : (top m h end : ℕ) → ((q : ℕ) → get_or now q 0 ≤ top) → 0 < h → h ≤ end
        → 8 * get_or l.blocks (m + 1) 0 ≤ length left
        → span h h (lanes_of now l.times l.tails (get_or l.blocks m 0) (get_or l.blocks (m + 1) 0))
        ≤ span 1 end (lanes_of left l.times l.tails (get_or l.blocks m 0) (get_or l.blocks (m + 1) 0))
    span_ahead top m h end small some up within =
        let risen = blocks_beside (IsRisen 0 0 top)
        (get_or l.blocks m 0) (get_or l.blocks (m + 1) 0) left now l.times l.tails
        (laid.positions.times ∙ sym stored.positions) (laid.positions.tails ∙ sym stored.positions)
        (new.positions ∙ sym stored.positions) within
        (λ q a b. record { some = waited_left q; risen = λ there. inr (inr (small q)) })
        in span_beside 1 h (beside_as (IsRisenLane 0 0 top) (IsServedBefore 1 h) (λ x y r. record {
          time = r.time;
          tail = r.tail;
          counts = λ on. r.head.some (omega arith);
        }) risen) h end up

  module _ {ms : List ℕ} (machines : AreMachinesOf l.blocks shop.machines ms) (own end least m : ℕ)
      (known : m < shop.machines) (raise : Raise) (covered : (q : ℕ) → get_or ms q 0 ≡ m → 0 < get_or now q 0 → IsSeenAt
      raise (floor_on own end m) (get_or was q 0) (get_or now q 0)) where
    risen : (floor : ℕ) → floor_on own end m ≤ floor → (q : ℕ) → first_position l m ≤ q
        → q < first_position l (m + 1) → IsRisen raise.from raise.to floor (get_or was q 0) (get_or now q 0)
    risen floor foreseen q from to = search (rules, waited, cases_lt)

    module _ (rows rows' : Rows) (heads : rows.heads ≡ was) (times : rows.times ≡ l.times)
        (tails : rows.tails ≡ l.tails) (heads' : rows'.heads ≡ now) (times' : rows'.times ≡ l.times)
        (tails' : rows'.tails ≡ l.tails) (top : ℕ)
        (small : (q : ℕ) → get_or now q 0 ≤ top)
        (parent : lb shop w ≤ least) (within : 8 * get_or l.blocks (m + 1) 0 ≤ length was)
        (ahead : m ≡ own → (h : ℕ) → 0 < h → h ≤ end → span h h (lanes_on rows' l m) ≤ least + 1) where
      beside : (floor : ℕ) → floor_on own end m ≤ floor
          → AreBeside (IsRisenLane raise.from raise.to floor) (lanes_on rows l m) (lanes_on rows' l m)
      beside floor foreseen = grind (arith, blocks_beside, risen, lanes_are)

      -- no span before was above the bound before
      spans_before : AreUpTo top (lb shop w + 1) (lanes_on rows l m)
      spans_before g some high =
          let a = word_spans limits laid w (IsWord-init shop w j fits) old m known g some
          in let e = ap (λ (xs : List Lane). span g g xs) (lanes_are l rows was heads times tails m)
          in omega arith

      IsHere : Type 0
      IsHere = IsBounded limits laid w j fits old new rows' heads' times' tails' least raise m

      bounded_from : (floor : ℕ) → floor_on own end m ≤ floor
          → ((h : ℕ) → 0 < h → h ≤ floor → span h h (lanes_on rows' l m) ≤ least + 1) → IsHere
      unfolding IsHere
      bounded_from floor foreseen lowest b above inside =
          let a = spans_risen top (lb shop w + 1) raise.from raise.to floor
          (lanes_on rows l m) spans_before (b + 1) (omega arith) (lanes_on rows' l m)
          (beside floor foreseen) (λ h some up. let c = lowest h some up in omega arith) inside
          in bounded_by_raise limits laid w j fits old new rows' heads' times' tails' least parent
          (record { from = 0; to = top }) m known
          (covered_all limits laid w j fits old new (record { from = 0; to = top }) refl small m)
          b above a

      -- on the machine of the operation what begins up to its end is foreseen
      pub bounded_by_seen : IsBounded limits laid w j fits old new rows' heads' times' tails' least raise m
      unfolding IsHere
      bounded_by_seen = elim (cases_eq m own) [
        | inl on ↦ bounded_from end
            (let a : floor_on own end m ≡ end = rw (eq-eqb m own on) refl in omega arith) (ahead on)
        | inr off ↦ bounded_from 0
            (let a : floor_on own end m ≡ 0 = rw (ne_eqb m own off) refl in omega arith)
            (λ h some up. absurd (omega arith))
      ]
