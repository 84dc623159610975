-- What is known of the children of a word once heads are raised as if their machine were free late.
use Rattle.std.proofs.Common.{rules, ◌≡◌, ℕ, ◌+◌, ◌^◌, ◌≤◌, ◌<◌, inl, inr, List, [], ◌∷◌, ◌++◌, length, get_or, refl}
use Rattle.std.proofs.Common.{◌∙◌, ap, arith}
use Rattle.shop_lanes.specs.Rows.{Rows}
use Rattle.shop_model.specs.{Shop.{Shop, machine_of}, Word.placing}
use Rattle.shop_bound.{specs.Bound.lb, proofs.SmallSums.sums_small}
use Rattle.shop_layout.specs.{HeadLimits.latest_end, Lanes.{lanes_on, rows_of}, Positions.LayoutState}
use Rattle.shop_states.proofs.{CeilingLemmas.IsCeiling, LaneFits.spans_fit, OwnSpans.its_machine}
use Rattle.shop_states.proofs.LateHeads.{can_end, can_late, ends_fit, its_word, now_small, second_low}
use Rattle.shop_states.proofs.{LateSpans.{child_ceilings, late_ceiling, settled}, RaisedHeads.has_blocks}
use Rattle.shop_states.specs.declared.{late_raises.Latest.Latest, states.Candidate.Candidate}
use Rattle.shop_states.specs.inner.{Advances.IsAdvancing, Ceilings.AreChildCeilings, LaneRaises.{Raise, raise_of}}
use Rattle.shop_states.specs.inner.{LaneStates.IsKeptInLanes, MachineRaises.{AreEmpty, AreRaisesFit}}
use Rattle.shop_states.specs.inner.Raises.{AsksNext, HasBlocks, IsInBlocks, Raises}
use Rattle.shop_states.specs.inner.Siblings.{AreLatest, AreSiblings, BoundsRaises, CanRaiseLate, IsAmong, end_by}
use Rattle.shop_states.specs.inner.{Siblings.{free_late, job_at}, Watchers.{AreSeen, Watches, no_floor}}

module _ {greatest : ℕ} {shop : Shop} {w : List ℕ} {l : LayoutState} {hs es nexts : List ℕ}
    (kept : IsKeptInLanes greatest shop w l (rows_of l hs es) nexts) {cs : List Candidate}
    (siblings : AreSiblings shop w cs) {t : Latest} (latest : AreLatest (end_by hs l.times nexts) cs t) {m : ℕ}
    (m_is : m ≡ get_or l.machines (get_or nexts t.job 0) 0) where
  -- the machine of all
  pub machine_is : m ≡ machine_of shop t.job ((placing shop w).steps t.job)
  machine_is = m_is ∙ its_machine kept t.job (its_word kept siblings latest.last)

  pub machine_known : m < shop.machines
  machine_known = grind (arith, machine_is)

  pub machine_blocks : HasBlocks l (length hs) m
  machine_blocks = has_blocks kept.kept.limits kept.kept.laid m kept.kept.heads.positions machine_known

  pub bound_small : lb shop w < 2 ^ 49
  bound_small = (sums_small shop kept.kept.limits w kept.kept.word).bound

  its_from : {from : ℕ} → from ≡ get_or l.blocks m 0
      → from ≡ get_or l.blocks (machine_of shop t.job ((placing shop w).steps t.job)) 0
  its_from is = is ∙ ap (λ (n : ℕ). get_or l.blocks n 0) machine_is

  its_to : {to : ℕ} → to ≡ get_or l.blocks (m + 1) 0
      → to ≡ get_or l.blocks (machine_of shop t.job ((placing shop w).steps t.job) + 1) 0
  its_to is = is ∙ ap (λ (n : ℕ). get_or l.blocks (n + 1) 0) machine_is

  -- the machine is late
  pub children_can : {from behind : ℕ} → from ≡ get_or l.blocks m 0 → behind ≡ get_or l.blocks (m + 1) 0
      → CanRaiseLate greatest l (rows_of l hs es)
      (record { from = from; behind = behind; last = get_or nexts t.job 0; latest = t })
  children_can {from} {behind} from_is behind_is =
      let blocks = machine_blocks in let ordered = blocks.ordered in let within = blocks.within
      in let end = can_end kept siblings latest.last in let fits = end.fits in let is = latest.end
      in record {
        ordered = omega arith;
        within = omega arith;
        second = second_low kept siblings latest;
        fits = omega arith;
        ends = ends_fit kept siblings latest (its_from from_is) (its_to behind_is);
        can = can_late kept siblings latest (its_from from_is) (its_to behind_is);
      }

  module _ {from to : ℕ} (from_is : from ≡ get_or l.blocks m 0) (to_is : to ≡ get_or l.blocks (m + 1) 0)
      {now : Rows}
      (raises : Raises greatest l [] (IsInBlocks from to) (AsksNext l (free_late (get_or nexts t.job 0) t))
      (rows_of l hs es) now) where
    module _ {before after : List Raise} (empty : AreEmpty before) (many : length before ≡ shop.machines)
        (noted : Watches no_floor l.machines hs now.heads before after) where
      seen : AreSeen no_floor l.machines after hs now.heads
      seen = noted.seen hs (λ q. inl (omega arith))

      pub late_raises_fit : AreRaisesFit greatest after l now
      late_raises_fit =
          let spans = spans_fit kept.kept.limits kept.kept.laid greatest kept.holds now raises.times raises.tails
          (raises.raised.positions ∙ kept.kept.heads.positions)
          in let known = spans.known in let long = noted.long
          in let up_to = noted.up_to (latest_end shop + 1) (now_small kept siblings latest (its_from from_is)
          (its_to to_is) raises)
          (λ k here. let e = empty k in omega arith)
          in record {
            known = omega arith;
            blocks = λ n there. spans.blocks n (omega arith);
            below = λ n there. (let a = spans.below n (omega arith) in let b = up_to n there in omega arith);
            fits = λ n there. (let a = spans.fits n (omega arith) in let b = up_to n there in omega arith);
          }

      module _ {bound b : ℕ} (bound_is : bound ≡ lb shop w) {ceilings : List ℕ} {rest : List Raise}
          (bounds : BoundsRaises l now after rest ceilings (bound + 1) b) where
        ceiling : (n : ℕ) → n < length ceilings → n < shop.machines → IsCeiling (get_or ceilings n 0) (lanes_on now l n)
        ceiling n here known =
            let above = bounds.least_of n here
            in late_ceiling kept siblings latest (its_from from_is) (its_to to_is) raises n known (raise_of after n)
            (λ q on. elim (seen q) [
              | inl still ↦ inl (omega arith)
              | inr rose ↦ grind arith
            ])
            (get_or ceilings n 0) (omega arith) (bounds.covers n here)

        among : (i : ℕ) → i < length cs → IsAmong cs (job_at cs i)
        among i here = record { at = i; within = here; is = refl }

        pub children_known : (i : ℕ) → i < length cs → AreChildCeilings shop w l (job_at cs i) ceilings
        children_known i here = search (rules, child_ceilings, its_from, its_to, ceiling, among)

        pub children_settled : length ceilings ≡ shop.machines → (i least : ℕ) → i < length cs
            → IsAdvancing greatest shop w l (rows_of l hs es) nexts (job_at cs i) least → b ≤ least + 1
            → lb shop (w ++ job_at cs i ∷ []) ≡ least
        children_settled all i least here advancing enough =
            settled advancing ceilings (children_known i here) all
            (λ n there. let most = bounds.most n there in omega arith)
