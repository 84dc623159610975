-- What is kept while the bound after one more operation is found.
use Rattle.std.proofs.Common.{◌≡◌, ℕ, ◌+◌, ◌*◌, ◌≤◌, ◌<◌, List, [], ◌∷◌, ◌++◌, length, get_or, set, refl, ap, subst}
use Rattle.std.proofs.{Common.arith, lemmas.List.length-set}
use Rattle.shop_lanes.specs.{Rows.{Rows, with_head, lanes_of}, Spans.{span, spans_between}}
use Rattle.shop_model.specs.{Shop.Shop, Word.{Placing, IsWord, placing, place_next}}
use Rattle.shop_model.proofs.{Ends.IsOperation-job, Unders.{next_operation, placing-snoc}}
use Rattle.shop_bound.specs.{Bound.lb, OneMachine.one}
use Rattle.shop_states.proofs.{BoundsUpTo.IsBoundUpTo, ChildRaises.{bound_is, heads_small, its_lanes}}
use Rattle.shop_states.proofs.{ChildReads.left_stored, SeenRaises.{bounded_by_seen, span_ahead}, LeftSlots.left_for}
use Rattle.shop_states.specs.inner.{ChildBounds.IsLeastAfter, LaneHeads.AreHeadsAt, LaneStates.AreHeadsInLanes}
use Rattle.shop_states.specs.inner.{Watchers.{IsSeenAt, floor_on}, LaneRaises.Raise}
use Rattle.shop_layout.specs.{HeadLimits.latest_end, Lanes.lanes_on}
use Rattle.shop_layout.{specs.Positions.{AreMachinesOf, LayoutState, position_of}, proofs.LaneLimits.blocks_within}

pub its_job : (shop : Shop) (w : List ℕ) (j : ℕ) → IsWord shop (w ++ j ∷ []) → j < length shop.jobs
its_job shop w j fits = IsOperation-job shop j _ (next_operation shop w j fits)

module _ {greatest : ℕ} {shop : Shop} {w : List ℕ} {l : LayoutState} {rows rows' : Rows}
    (kept : AreHeadsInLanes greatest shop w l rows) (j : ℕ) (fits : IsWord shop (w ++ j ∷ []))
    (now : AreHeadsInLanes greatest shop (w ++ j ∷ []) l rows') where
  -- the heads of the word with the operation
  pub next_heads : AreHeadsAt shop (place_next shop (placing shop w) j) l rows'.heads
  next_heads = subst (λ (q : Placing). AreHeadsAt shop q l rows'.heads) (placing-snoc shop w j) now.heads

  pub next_small : (q : ℕ) → get_or rows'.heads q 0 ≤ latest_end shop + 1
  next_small = heads_small shop now.limits l now.laid (w ++ j ∷ []) fits rows'.heads now.heads

  within : (m : ℕ) → m < shop.machines → 8 * get_or l.blocks (m + 1) 0 ≤ length rows.heads
  within m known = grind (arith, blocks_within)

  -- on the operation's own machine, what begins up to its end is foreseen
  pub its_ahead : {position own end least : ℕ} → IsLeastAfter shop w l rows j position own end least → (m : ℕ)
      → m < shop.machines → m ≡ own → (h : ℕ) → 0 < h → h ≤ end → span h h (lanes_on rows' l m) ≤ least + 1
  its_ahead {position} {own} {end} {least} after m known on h some up =
      let x = position_of l j ((placing shop w).steps j)
      in let a = span_ahead kept.limits kept.laid w j fits kept.heads next_heads (left_stored kept j fits)
      (latest_end shop + 1) m h end next_small some up
      (let long = length-set rows.heads x 0 in let b = within m known in omega arith)
      in let e = ap (span h h) (its_lanes kept.limits kept.laid w j fits kept.heads next_heads rows' refl
      now.times now.tails m)
      in let f : lanes_on (with_head rows position 0) l own
      ≡ lanes_of (set rows.heads x 0) l.times l.tails (get_or l.blocks m 0) (get_or l.blocks (m + 1) 0) =
      rw (after.next.position_is, on, kept.times, kept.tails) refl
      in let g = ap (span 1 end) f in let ahead = after.ahead in omega arith

  -- what is covered on each machine
  module _ {ms : List ℕ} (machines : AreMachinesOf l.blocks shop.machines ms) (own end least limit b : ℕ) where
    -- by a raise on machine m
    pub record IsCoveredOn (m : ℕ) : Type 0 where
      pub raise : Raise
      pub covered : (q : ℕ) → get_or ms q 0 ≡ m → 0 < get_or rows'.heads q 0
          → IsSeenAt raise (floor_on own end m) (get_or rows.heads q 0) (get_or rows'.heads q 0)
      pub spans : spans_between raise.from raise.to (lanes_on rows' l m) ≤ b + 1

    pub raised_is : (b < limit → (m : ℕ) → m < shop.machines → IsCoveredOn m)
        → least ≤ b
        → ((c : ℕ) → least ≤ c → ((m above upto : ℕ) → m < shop.machines
        → spans_between above upto (lanes_on rows' l m) ≤ c + 1) → b ≤ c)
        → {position : ℕ} → IsLeastAfter shop w l rows j position own end least
        → IsBoundUpTo limit (lb shop (w ++ j ∷ [])) b
    raised_is covers low inside {position} after =
        let ends = after.ends in let end_is = after.next.end_is
        in bound_is kept.limits kept.laid w j fits kept.heads next_heads rows' refl now.times now.tails least limit b
        after.parent (omega arith) after.most low left inside
      where
        left : b < limit → (m : ℕ) → m < shop.machines
            → one (left_for shop kept.laid.slots (place_next shop (placing shop w) j) m) ≤ b
        left under m known =
            let by = covers under m known
            in bounded_by_seen kept.limits kept.laid w j fits kept.heads next_heads machines own end least m known
            by.raise by.covered rows rows' refl kept.times kept.tails refl now.times now.tails (latest_end shop + 1)
            next_small after.parent (within m known) (its_ahead after m known) b low by.spans
