-- An operation is struck out and its end raises heads: what is known of the bound then, and what is kept.
use Rattle.std.proofs.Common.{◌≡◌, ℕ, ◌+◌, ◌≤◌, ◌<◌, max, inl, inr, List, [], ◌∷◌, ◌++◌, length, get_or, set, refl, sym}
use Rattle.std.proofs.{Common.{◌∙◌, subst, arith}, lemmas.Bool.{cases_eq, cases_lt, eq-eqb, ne_eqb}}
use Rattle.std.proofs.lemmas.{Grind.get_or-set_at, List.get_or-set_other}
use Rattle.shop_lanes.specs.Rows.{Rows, with_end, with_head}
use Rattle.shop_model.specs.{Shop.{Shop, machine_of}, Word.{IsWord, place_next, placing}}
use Rattle.shop_bound.specs.Bound.{lb}
use Rattle.shop_states.specs.{inner.Watchers.{AreSeen, Sees, Watches, floor_on}, declared.dispatches.Dispatch.Dispatch}
use Rattle.shop_states.specs.inner.{LaneEnds.{CanKeepEnds, IsEndOf, end_at}, Advances.{IsAdvancing, IsLeastAt}}
use Rattle.shop_states.specs.inner.{LaneStates.{AreHeadsInLanes, IsKeptInLanes}, Ceilings.{AreChildCeilings, AreUnder}}
use Rattle.shop_states.specs.inner.{MachineRaises.{AreEmpty, AreRaisesFit, TakesSpans}, ChildBounds.IsLeastAfter}
use Rattle.shop_states.specs.inner.{Dispatches.IsDispatchOf, LaneRaises.{Raise, raise_of}, RaiseCalls.CanDelay}
use Rattle.shop_states.specs.inner.Raises.{AsksOwn, HasBlocks, IsOnMachine, IsRaisable, Raises}
use Rattle.shop_states.proofs.{BoundsUpTo.IsBoundUpTo, RaiseSteps.put_is, FittingSpans.{span_within, spans_each}}
use Rattle.shop_states.proofs.AdvanceSteps.{advanced, advanced_long, advanced_others, end_small, lifted_blocks}
use Rattle.shop_states.proofs.{AdvanceSteps.{lifted_raisable, machine_here}, LaneFits.{AreSpansFit, spans_fit}}
use Rattle.shop_states.proofs.{ChildTurns.{its_ahead, next_heads, next_small, raised_is}, RaisedHeads.has_blocks}
use Rattle.shop_states.proofs.StateSteps.{ends_more, firsts, kept_more, next_at, next_known, within}
use Rattle.shop_layout.specs.{HeadLimits.latest_end, Lanes.{lanes_on, rows_of}}
use Rattle.shop_layout.specs.Positions.{IsLaidOut, LayoutState, position_of, position_behind}

-- instances with one layout have as many machines
pub same_machines : {l : LayoutState} {shop other : Shop} → IsLaidOut shop l → IsLaidOut other l
    → shop.machines ≡ other.machines
same_machines a b = let x = a.machines in let y = b.machines in omega arith

module _ {greatest : ℕ} {shop : Shop} {w : List ℕ} {l : LayoutState} {hs es nexts : List ℕ}
    (kept : IsKeptInLanes greatest shop w l (rows_of l hs es) nexts) (j : ℕ) (fits : IsWord shop (w ++ j ∷ [])) where
  abbrev rows : Rows
  rows = rows_of l hs es

  pub its_job : j < length nexts
  its_job = next_known j kept fits

  module _ {x : ℕ} (x_is : x ≡ get_or nexts j 0) where
    pub its_position : x < length hs
    its_position = within j kept fits x_is

    its_position_is : x ≡ position_of l j ((placing shop w).steps j)
    its_position_is = next_at j kept fits x_is

    module _ {m : ℕ} (here : m ≡ get_or l.machines x 0) where
      on_its : m ≡ machine_of shop j ((placing shop w).steps j)
      on_its = machine_here j kept.kept fits its_position_is here

      machine_known : m < shop.machines
      machine_known = grind (arith, on_its)

      pub its_blocks : HasBlocks l (length hs) m
      its_blocks = has_blocks kept.kept.limits kept.kept.laid m kept.kept.heads.positions machine_known

      module _ {e : ℕ} (end : e ≡ get_or hs x 0 + get_or l.times x 0) where
        pub its_end : e ≤ greatest
        its_end = let a = (end_small j kept.kept fits its_position_is refl refl).1 in omega arith

        module _ {hs' es' : List ℕ} (struck : hs' ≡ set hs x 0) (beside : es' ≡ es) where
          abbrev lifted : Rows
          lifted = rows_of l hs' es'

          wrote : lifted ≡ with_head rows x 0
          wrote = put_is l hs x 0 struck beside

          pub trial_blocks : HasBlocks l (length hs') m
          trial_blocks = lifted_blocks j kept.kept fits its_position_is refl refl wrote on_its

          pub trial_raisable : IsRaisable greatest l nexts (rows_of l hs' es') (IsOnMachine l m) (AsksOwn e)
          trial_raisable = rw end (lifted_raisable j kept.kept fits its_position_is refl refl wrote on_its
              (firsts j kept fits) (let a = kept.are_next.jobs in let b = kept.ends.jobs in omega arith))

          lifted_low : (q : ℕ) → get_or hs' q 0 ≤ get_or hs q 0
          lifted_low q = grind (arith, cases_eq, get_or-set_at, its_position, get_or-set_other)

          module _ {new : Rows}
              (raising : Raises greatest l nexts (IsOnMachine l m) (AsksOwn e) (rows_of l hs' es') new) where
            raising_sum : Raises greatest l nexts (IsOnMachine l m) (AsksOwn (get_or hs x 0 + get_or l.times x 0))
                (rows_of l hs' es') new
            raising_sum = grind arith

            pub now_heads : AreHeadsInLanes greatest shop (w ++ j ∷ []) l new
            now_heads = advanced j kept.kept fits its_position_is refl refl wrote on_its raising_sum

            ends_long : length new.ends ≡ length es
            ends_long = advanced_long j kept.kept fits its_position_is refl refl wrote on_its raising_sum

            others : (i : ℕ) → i < length nexts → (get_or nexts i 0 ≡ x → ⊥) → IsEndOf greatest nexts rows i
                → IsEndOf greatest nexts new i
            others = advanced_others j kept.kept fits its_position_is refl refl wrote on_its raising_sum

            small : (q : ℕ) → get_or new.heads q 0 ≤ latest_end shop + 1
            small = next_small kept.kept j fits now_heads

            -- the operation that follows is the next one
            module _ {after : List ℕ} (followed : after ≡ set nexts j (position_behind l x)) where
              pub trial_keep : CanKeepEnds greatest l after new
              trial_keep = ends_more j kept fits x_is refl followed now_heads ends_long others

              pub trial_kept : {ended : Rows} → ended ≡ with_end new j (end_at greatest after new j)
                  → IsKeptInLanes greatest shop (w ++ j ∷ []) l ended after
              trial_kept {ended} ends = kept_more j kept fits x_is refl followed now_heads ends_long others ends

            module _ {before after : List Raise} (empty : AreEmpty before) (many : length before ≡ shop.machines)
                (sees : Sees l.machines (IsOnMachine l m) e hs' new.heads before after) where
              watches : Watches (floor_on m e) l.machines hs' new.heads before after
              watches = sees.watches m (λ q there. kept.kept.laid.machines_at.at m q machine_known there.0 there.1)

              pub trial_raises_fit : AreRaisesFit greatest after l new
              trial_raises_fit =
                  let spans : AreSpansFit greatest (latest_end shop + 1) shop.machines l new =
                  spans_fit kept.kept.limits kept.kept.laid greatest kept.holds new now_heads.times now_heads.tails
                  now_heads.heads.positions
                  in let known = spans.known in let long = watches.long
                  in record {
                    known = omega arith;
                    blocks = λ n there. spans.blocks n (omega arith);
                    below = λ n there.
                        let a = spans.below n (omega arith)
                        in let b = watches.up_to (latest_end shop + 1) small
                        (λ k known. let f = empty k in omega arith) n there
                        in omega arith;
                    fits = λ n there.
                        let a = spans.fits n (omega arith)
                        in let b = watches.up_to (latest_end shop + 1) small
                        (λ k known. let f = empty k in omega arith) n there
                        in omega arith;
                  }

              seen : AreSeen (floor_on m e) l.machines after hs new.heads
              seen = watches.seen hs (λ q. inl (let a = lifted_low q in omega arith))

              pub trial_bound : {least : ℕ} → IsLeastAt shop w l rows j (get_or nexts j 0) least → {limit b : ℕ}
                  → {final : List Raise} → TakesSpans l new after final (least + 1) (limit + 1) (b + 1)
                  → IsBoundUpTo limit (lb shop (w ++ j ∷ [])) b
              trial_bound {least} foreseen {limit} {b} taken =
                  let long = watches.long
                  in let its = subst (λ (q : ℕ). IsLeastAt shop w l rows j q least) (sym x_is) foreseen
                  in raised_is kept.kept j fits now_heads kept.kept.laid.machines_at m e least limit b
                  (λ under n known. record {
                    raise = raise_of after n;
                    covered = λ q lies some. grind (arith, seen);
                    spans = taken.covers (omega arith) n;
                  }) (let low = taken.low in omega arith)
                  (λ c above each. let most = taken.within (c + 1) (omega arith) (λ n up to known.
                  each n up to (omega arith)) in omega arith)
                  (subst (λ (k : ℕ). IsLeastAfter shop w l rows j x k e least) (sym here)
                  (subst (λ (k : ℕ). IsLeastAfter shop w l rows j x (get_or l.machines x 0) k least) (sym end) its))

-- the ceilings of a child bound what begins within the raises of its dispatch
module _ {greatest : ℕ} {shop : Shop} {w : List ℕ} {l : LayoutState} {rows : Rows} {nexts : List ℕ} {j least : ℕ}
    (advancing : IsAdvancing greatest shop w l rows nexts j least) (ceilings : List ℕ)
    (are : AreChildCeilings shop w l j ceilings) {now : Rows} (kept : AreHeadsInLanes greatest shop (w ++ j ∷ []) l now)
    (raises : List Raise) (fits : AreRaisesFit greatest raises l now) where
  pub trial_under : length raises ≡ shop.machines → AreUnder ceilings raises l now (least + 1)
  trial_under many m here known =
      let own = machine_of shop j ((placing shop w).steps j)
      in let end = (place_next shop (placing shop w) j).free own + 1
      in let after = advancing.foreseen in let ends = after.ends in let end_is = after.next.end_is
      in let fit = fits.fits m known in let most = (raise_of raises m).to
      in spans_each (max (least + 1) (get_or ceilings m 0)) (raise_of raises m).from (raise_of raises m).to
      (lanes_on now l m) (λ h above up. elim (cases_lt (floor_on own end m) h) [
        | inl later ↦ (let c = are now (next_heads advancing.kept.kept j advancing.fits kept) kept.times kept.tails
            m here (omega arith) h later in omega arith)
        | inr early ↦ elim (cases_eq m own) [
          | inl on ↦ (let all : floor_on own end m ≡ end = rw (eq-eqb m own on) refl
              in let ahead = its_ahead advancing.kept.kept j advancing.fits kept after m (omega arith)
              (on ∙ sym after.next.machine_is) h (omega arith) (omega arith)
              in let whole = span_within h h (lanes_on now l m) in omega arith)
          | inr off ↦ (let none : floor_on own end m ≡ 0 = rw (ne_eqb m own off) refl in absurd (omega arith))
        ]
      ])

-- the operation of a dispatch is struck out: its end can raise heads
pub can_delay : {greatest : ℕ} {shop : Shop} {w : List ℕ} {l : LayoutState} {hs es nexts : List ℕ}
    (kept : IsKeptInLanes greatest shop w l (rows_of l hs es) nexts) (d : Dispatch)
    (fits : IsWord shop (w ++ d.job ∷ [])) (is : IsDispatchOf l hs nexts d) {hs' es' : List ℕ}
    (struck : hs' ≡ set hs d.position 0) (beside : es' ≡ es)
    → CanDelay greatest l nexts (rows_of l hs' es') d
can_delay kept d fits is struck beside = record {
  machine = trial_blocks kept d.job fits is.position_is is.machine_is is.end_is struck beside;
  delayed = rw struck is.delayed_are;
  fits = its_end kept d.job fits is.position_is is.machine_is is.end_is;
  raisable = trial_raisable kept d.job fits is.position_is is.machine_is is.end_is struck beside;
  jobs = grind arith;
}
