-- Spans from heads that are raised as if their machine were free late bound those of each child, and so its bound.
use Rattle.std.proofs.Common.{rules, ◌≡◌, ℕ, ◌+◌, ◌*◌, ◌≤◌, ◌<◌, ◌⊎◌, inl, inr, List, [], ◌∷◌, ◌++◌, length, get_or}
use Rattle.std.proofs.{Common.{refl, sym, ◌∙◌, ap, subst, arith}, lemmas.Bool.{cases_eq, cases_lt, eq-eqb, ne_eqb}}
use Rattle.shop_lanes.specs.{Rows.{Lane, Rows, lanes_of}, Spans.{span, spans_between}}
use Rattle.shop_model.{specs.{Shop.{Shop, machine_of}, Word.{Placing, place_next, placing}}, proofs.Unders.placing-snoc}
use Rattle.shop_bound.specs.Bound.{lb}
use Rattle.shop_layout.specs.{HeadLimits.latest_end, Lanes.{lanes_on, rows_of}, Positions.LayoutState}
use Rattle.shop_layout.proofs.LaneLimits.{blocks_within}
use Rattle.shop_states.specs.{inner.{LaneHeads.AreHeadsAt, Watchers.floor_on}, declared.states.Candidate.Candidate}
use Rattle.shop_states.specs.{inner.Ceilings.AreChildCeilings, declared.late_raises.Latest.Latest}
use Rattle.shop_states.specs.inner.Raises.{AsksNext, IsInBlocks, Raises}
use Rattle.shop_states.specs.inner.{LaneRaises.Raise, Advances.IsAdvancing, LaneStates.{AreHeadsInLanes, IsKeptInLanes}}
use Rattle.shop_states.specs.inner.Siblings.{AreLatest, AreSiblings, IsAmong, end_by, free_late}
use Rattle.shop_states.proofs.{CeilingLemmas.{IsCeiling, IsBelow, ceiling_of_spans}, ChildBounds.child-le}
use Rattle.shop_states.proofs.{ChildRaises.{bounded_by_raise, covered_all}, ChildTargets.{child_heads, child_heads_are}}
use Rattle.shop_states.proofs.{ChildTurns.{its_ahead, next_small}, FittingSpans.spans_each}
use Rattle.shop_states.proofs.LateHeads.{child_low, its_end, now_small, same_machine}
use Rattle.shop_states.proofs.RisenLanes.{AreBeside, IsLaneBeside, IsRisen, IsRisenLane, IsServedBefore, beside_as}
use Rattle.shop_states.proofs.{RisenLanes.{span_beside, spans_risen}, SeenRaises.{blocks_beside, lanes_are, word_spans}}

-- what is served from a moment on in a row is served in the other
abbrev IsServedIn : ℕ → ℕ → ℕ → Type 0
IsServedIn g a b = g ≤ b → g ≤ a

module _ {greatest : ℕ} {shop : Shop} {w : List ℕ} {l : LayoutState} {hs es nexts : List ℕ}
    (kept : IsKeptInLanes greatest shop w l (rows_of l hs es) nexts) {cs : List Candidate}
    (siblings : AreSiblings shop w cs) {t : Latest} (latest : AreLatest (end_by hs l.times nexts) cs t)
    {from to : ℕ} (from_is : from ≡ get_or l.blocks (machine_of shop t.job ((placing shop w).steps t.job)) 0)
    (to_is : to ≡ get_or l.blocks (machine_of shop t.job ((placing shop w).steps t.job) + 1) 0) {now : Rows}
    (raises : Raises greatest l [] (IsInBlocks from to) (AsksNext l (free_late (get_or nexts t.job 0) t))
    (rows_of l hs es) now) where
  small : (q : ℕ) → get_or now.heads q 0 ≤ latest_end shop + 1
  small = now_small kept siblings latest from_is to_is raises

  module _ (m : ℕ) (known : m < shop.machines) where
    in_rows : 8 * get_or l.blocks (m + 1) 0 ≤ length hs
    in_rows = grind (arith, blocks_within)

    timed : length l.times ≡ length hs
    timed = kept.kept.laid.positions.times ∙ sym kept.kept.heads.positions

    tailed : length l.tails ≡ length hs
    tailed = kept.kept.laid.positions.tails ∙ sym kept.kept.heads.positions

    on_it : (q : ℕ) → 8 * get_or l.blocks m 0 ≤ q → q < 8 * get_or l.blocks (m + 1) 0 → get_or l.machines q 0 ≡ m
    on_it q low high = kept.kept.laid.machines_at.at m q known low high

    late_lanes : lanes_of now.heads l.times l.tails (get_or l.blocks m 0) (get_or l.blocks (m + 1) 0)
        ≡ lanes_on now l m
    late_lanes = lanes_are l now now.heads refl raises.times raises.tails m

    -- a ceiling, by the raise of the machine and the bound of the word
    pub late_ceiling : (raise : Raise) → ((q : ℕ) → get_or l.machines q 0 ≡ m
        → (get_or now.heads q 0 ≤ get_or hs q 0)
        ⊎ ((raise.from ≤ get_or hs q 0) × (get_or now.heads q 0 ≤ raise.to)))
        → (b : ℕ) → lb shop w + 1 ≤ b → spans_between raise.from raise.to (lanes_on now l m) ≤ b
        → IsCeiling b (lanes_on now l m)
    late_ceiling raise seen b above inside =
        let top = latest_end shop + 1
        in let risen = subst (λ (ys : List Lane). AreBeside (IsRisenLane raise.from raise.to 0)
        (lanes_on (rows_of l hs es) l m) ys) late_lanes
        (blocks_beside (IsRisen raise.from raise.to 0) (get_or l.blocks m 0) (get_or l.blocks (m + 1) 0) hs now.heads
        l.times l.tails timed tailed raises.raised.positions in_rows (λ q low high. record {
          some = λ waits. grind (arith, cases_eq);
          risen = λ waits. grind (arith, on_it);
        }))
        in let all = spans_risen top (lb shop w + 1) raise.from raise.to 0 (lanes_on (rows_of l hs es) l m)
        (λ g some high. word_spans kept.kept.limits kept.kept.laid w kept.kept.word kept.kept.heads m known g some)
        b above (lanes_on now l m) risen (λ h some none. absurd (omega arith)) inside
        in let below = subst (λ (ys : List Lane). AreBeside (IsLaneBeside (IsBelow top)) ys ys) late_lanes
        (blocks_beside (IsBelow top) (get_or l.blocks m 0) (get_or l.blocks (m + 1) 0) now.heads now.heads
        l.times l.tails (timed ∙ sym raises.raised.positions) (tailed ∙ sym raises.raised.positions) refl
        (let long = raises.raised.positions in let rows = in_rows in omega arith) (λ q low high. small q))
        in ceiling_of_spans top b below all

    -- which no span of a child exceeds, but for those that begin before its operation ends
    module _ {j : ℕ} (among : IsAmong cs j) (rows : Rows)
        (heads : AreHeadsAt shop (place_next shop (placing shop w) j) l rows.heads) (times : rows.times ≡ l.times)
        (tails : rows.tails ≡ l.tails) where
      pub child_span : (c : ℕ) → IsCeiling c (lanes_on now l m) → (g : ℕ)
          → floor_on (machine_of shop j ((placing shop w).steps j))
          ((place_next shop (placing shop w) j).free (machine_of shop j ((placing shop w).steps j)) + 1) m < g
          → span g g (lanes_on rows l m) ≤ c
      child_span c is g later =
          let served = blocks_beside (IsServedIn g) (get_or l.blocks m 0) (get_or l.blocks (m + 1) 0) now.heads
          rows.heads l.times l.tails (timed ∙ sym raises.raised.positions) (tailed ∙ sym raises.raised.positions)
          (heads.positions ∙ sym (raises.raised.positions ∙ kept.kept.heads.positions))
          (let long = raises.raised.positions in let rows = in_rows in omega arith)
          (λ q low high above.
          let least = child_low kept siblings latest from_is to_is raises among heads q
          in let own = on_it q low high
          in let end = its_end kept siblings among
          in let one = same_machine kept siblings j t.job among latest.last
          in let floor : floor_on (machine_of shop t.job ((placing shop w).steps t.job)) (end_by hs l.times nexts j)
          (get_or l.machines q 0)
          ≡ floor_on (machine_of shop j ((placing shop w).steps j))
          ((place_next shop (placing shop w) j).free (machine_of shop j ((placing shop w).steps j)) + 1) m =
          ap (λ (n : ℕ). floor_on n (end_by hs l.times nexts j) (get_or l.machines q 0)) (sym one)
          ∙ (ap (λ (e : ℕ). floor_on (machine_of shop j ((placing shop w).steps j)) e (get_or l.machines q 0)) end
          ∙ ap (floor_on (machine_of shop j ((placing shop w).steps j))
          ((place_next shop (placing shop w) j).free (machine_of shop j ((placing shop w).steps j)) + 1)) own)
          in omega arith)
          in let lanes = subst (λ (ys : List Lane). AreBeside (IsLaneBeside (IsServedIn g)) (lanes_on now l m) ys)
          (lanes_are l rows rows.heads refl times tails m)
          (subst (λ (xs : List Lane). AreBeside (IsLaneBeside (IsServedIn g)) xs
          (lanes_of rows.heads l.times l.tails (get_or l.blocks m 0) (get_or l.blocks (m + 1) 0))) late_lanes served)
          in let a = span_beside g g (beside_as (IsLaneBeside (IsServedIn g)) (IsServedBefore g g) (λ x y r. record {
            time = r.time;
            tail = r.tail;
            counts = r.head;
          }) lanes) g g (omega arith)
          in let b = is g (omega arith) in omega arith

  -- the numbers of all machines
  pub child_ceilings : (ceilings : List ℕ) → ((m : ℕ) → m < length ceilings → m < shop.machines
      → IsCeiling (get_or ceilings m 0) (lanes_on now l m)) → {j : ℕ} → IsAmong cs j
      → AreChildCeilings shop w l j ceilings
  child_ceilings ceilings are {j} among rows heads times tails m here known g later = search (rules, child_span)

-- a child whose machines all have low enough ceilings has the bound that is foreseen
module _ {greatest : ℕ} {shop : Shop} {w : List ℕ} {l : LayoutState} {rows : Rows} {nexts : List ℕ} {j least : ℕ}
    (advancing : IsAdvancing greatest shop w l rows nexts j least) (ceilings : List ℕ)
    (ceilings_are : AreChildCeilings shop w l j ceilings) (many : length ceilings ≡ shop.machines)
    (low : (m : ℕ) → m < length ceilings → get_or ceilings m 0 ≤ least + 1) where
  child_rows : Rows
  child_rows = record {
    heads = child_heads advancing.kept.kept j advancing.fits;
    times = l.times;
    tails = l.tails;
    ends = [];
  }

  are_heads : AreHeadsAt shop (place_next shop (placing shop w) j) l child_rows.heads
  unfolding child_rows
  are_heads = child_heads_are advancing.kept.kept j advancing.fits

  child_kept : AreHeadsInLanes greatest shop (w ++ j ∷ []) l child_rows
  unfolding child_rows
  child_kept = record {
    limits = advancing.kept.kept.limits;
    word = advancing.fits;
    laid = advancing.kept.kept.laid;
    times = refl;
    tails = refl;
    fits = advancing.kept.kept.fits;
    computable = advancing.kept.kept.computable;
    heads = subst (λ (p : Placing). AreHeadsAt shop p l (child_heads advancing.kept.kept j advancing.fits))
        (sym (placing-snoc shop w j)) (child_heads_are advancing.kept.kept j advancing.fits);
  }

  its_times : child_rows.times ≡ l.times
  unfolding child_rows
  its_times = refl

  its_tails : child_rows.tails ≡ l.tails
  unfolding child_rows
  its_tails = refl

  pub settled : lb shop (w ++ j ∷ []) ≡ least
  settled =
      let kept = advancing.kept.kept in let fits = advancing.fits in let after = advancing.foreseen
      in let top = latest_end shop + 1
      in let ends = after.ends in let end_is = after.next.end_is
      in let at_most = child-le kept.limits kept.laid.are w j fits least after.parent (omega arith) (λ m known.
      bounded_by_raise kept.limits kept.laid w j fits kept.heads are_heads child_rows refl its_times its_tails least
      after.parent (record { from = 0; to = top }) m known
      (covered_all kept.limits kept.laid w j fits kept.heads are_heads (record { from = 0; to = top }) refl
      (next_small kept j fits child_kept) m)
      least (omega arith)
      (spans_each (least + 1) 0 top (lanes_on child_rows l m) (λ h some up.
      elim (cases_lt (floor_on (machine_of shop j ((placing shop w).steps j))
      ((place_next shop (placing shop w) j).free (machine_of shop j ((placing shop w).steps j)) + 1) m) h) [
        | inl later ↦ (let c = ceilings_are child_rows are_heads its_times its_tails m (omega arith) known h later
            in let d = low m (omega arith) in omega arith)
        | inr early ↦ elim (cases_eq m (machine_of shop j ((placing shop w).steps j))) [
          | inl on ↦ (let all : floor_on (machine_of shop j ((placing shop w).steps j))
              ((place_next shop (placing shop w) j).free (machine_of shop j ((placing shop w).steps j)) + 1) m
              ≡ (place_next shop (placing shop w) j).free (machine_of shop j ((placing shop w).steps j)) + 1 =
              rw (eq-eqb m (machine_of shop j ((placing shop w).steps j)) on) refl
              in its_ahead kept j fits child_kept after m known (on ∙ sym after.next.machine_is) h some (omega arith))
          | inr off ↦ grind (arith, ne_eqb)
        ]
      ])))
      in let most = after.most in omega arith
