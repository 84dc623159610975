-- The ends of next operations are kept up in lanes.
use Rattle.std.proofs.Common.{◌≡◌, ℕ, ◌+◌, ◌<◌, inl, inr, List, length, get_or, sym, ◌∙◌, ap, arith}
use Rattle.std.proofs.lemmas.{Bool.{cases_lt, lt-ltb, le-ltb}, Grind.get_or-set_at, List.{get_or-set_other, length-set}}
use Rattle.shop_lanes.specs.Rows.{Rows, with_end}
use Rattle.shop_model.{specs.{Shop.{Shop, IsOperation, route_of}, Word.{Placing, placing}}, proofs.Ends.IsOperation-job}
use Rattle.shop_bound.specs.Conflicts.{next_end}
use Rattle.shop_layout.specs.{HeadLimits.FitsLanes, Positions.{LayoutState, first_position}}
use Rattle.shop_layout.proofs.LatestEnds.{latest_end_is}
use Rattle.shop_states.specs.inner.{LaneChoices.{AreEndsAt, AreNextsAt, AreNextsOf}, LaneStates.AreHeadsInLanes}
use Rattle.shop_states.specs.inner.{LaneEnds.{end_at, CanKeepEnds, IsEndOf}, Raises.AreFirst}
use Rattle.shop_states.proofs.{Followed.position_or-past, RaisedHeads.indexed, RaiseWalks.{apart, position_below}}
use Rattle.shop_states.proofs.NextOperations.{head_first, next_is, nexts_of_jobs, next_there, next_within, stored_end}

-- the ends of all jobs are as they are to be
abbrev pub AreEndsOf : ℕ → List ℕ → Rows → Type 0
AreEndsOf greatest nexts rows = (j : ℕ) → j < length nexts → IsEndOf greatest nexts rows j

-- the ends alone differ
pub record HasEnds (old new : Rows) : Type 0 where
  pub heads : new.heads ≡ old.heads
  pub times : new.times ≡ old.times
  pub tails : new.tails ≡ old.tails
  pub ends : length new.ends ≡ length old.ends

-- one more end is set
module _ {greatest : ℕ} {l : LayoutState} {nexts : List ℕ} {old : Rows} (keep : CanKeepEnds greatest l nexts old)
    {now : Rows} (beside : HasEnds old now) where
  module _ {job : ℕ} (known : job < length nexts) {new : Rows}
      (wrote : new ≡ with_end now job (end_at greatest nexts now job)) where
    pub beside_more : HasEnds old new
    beside_more = grind (arith, length-set)

    pub end_here : IsEndOf greatest nexts new job
    end_here = grind (arith, get_or-set_at)

    pub end_other : (j : ℕ) → (j ≡ job → ⊥) → IsEndOf greatest nexts now j → IsEndOf greatest nexts new j
    end_other j ne is = grind (arith, get_or-set_other)

module _ {greatest : ℕ} {shop : Shop} {w : List ℕ} {l : LayoutState} {rows : Rows}
    (kept : AreHeadsInLanes greatest shop w l rows) {nexts : List ℕ}
    (are : AreNextsOf shop (placing shop w) l nexts) where
  abbrev p : Placing
  p = placing shop w

  pub nexts_at : AreNextsAt shop (placing shop w) l nexts rows
  nexts_at = grind arith

  -- what stands before a next operation on its route is placed
  pub next_first : AreFirst l nexts rows.heads
  next_first = record {
    own = (nexts_of_jobs nexts_at).own;
    first = λ j i k known more at.
        let ix = indexed kept.limits kept.laid kept.heads.positions
        in let many = are.jobs
        in let a = position_below ix i (k + 1) more
        in let op = next_is nexts_at j (omega arith) (omega arith)
        in let route = kept.laid.routes j
        in let same = apart ix i (k + 1) j (p.steps j) more (omega arith) (at ∙ next_there nexts_at j op)
        in let steps : p.steps i ≡ p.steps j = ap p.steps same.0
        in let b = same.1
        in let its = kept.laid.routes i
        in kept.heads.placed i k (omega arith) (omega arith);
  }

  next_fits : (j : ℕ) → IsOperation shop j (p.steps j) → next_end shop p j < greatest
  next_fits j op = grind (arith, head_first)

  module _ (as_many : length rows.ends ≡ length shop.jobs) where
    pub can_keep : CanKeepEnds greatest l nexts rows
    can_keep = record {
      nexts_of_jobs = nexts_of_jobs nexts_at;
      within = λ j known. elim (cases_lt (p.steps j) (length (route_of shop j))) [
        | inl op ↦ (let a = next_within nexts_at j op in omega arith)
        | inr past ↦ (let many = are.jobs in let route = kept.laid.routes j
            in let none = position_or-past l (first_position l shop.machines) j (p.steps j) (omega arith)
            in let is = are.are j (omega arith) in let positions = kept.heads.positions in omega arith)
      ];
      timed = kept.laid.positions.times ∙ sym kept.heads.positions;
      ends = as_many ∙ sym are.jobs;
      fits = λ j known. elim (cases_lt (get_or nexts j 0) (length rows.heads)) [
        | inl lt ↦ (let many = are.jobs
            in let op = next_is nexts_at j (omega arith) lt
            in let a = stored_end nexts_at j op in let b = next_fits j op
            in rw (lt-ltb (get_or nexts j 0) (length rows.heads) lt) (omega arith))
        | inr ge ↦ rw (le-ltb (get_or nexts j 0) (length rows.heads) ge) (omega arith)
      ];
      computable = kept.computable;
    }

    -- the ends of the placing, by the lists that stand for it, and back
    pub ends_of : AreEndsAt greatest shop p rows.ends → AreEndsOf greatest nexts rows
    ends_of ends j known =
        let here : j < length shop.jobs = (let a = are.jobs in omega arith)
        in elim (cases_lt (p.steps j) (length (route_of shop j))) [
          | inl op ↦ ends.next j op
              ∙ sym (rw (lt-ltb (get_or nexts j 0) (length rows.heads)
              (next_within nexts_at j op)) (stored_end nexts_at j op))
          | inr past ↦ grind (arith, le-ltb, nexts_at)
        ]

    -- if no end is the greatest number
    pub ends_at : FitsLanes greatest shop l → AreEndsOf greatest nexts rows → AreEndsAt greatest shop p rows.ends
    ends_at holds ends = record {
      jobs = as_many;
      next = λ j op. (
          let known = IsOperation-job shop j (p.steps j) op
          in ends j (let a = are.jobs in omega arith)
          ∙ (rw (lt-ltb (get_or nexts j 0) (length rows.heads) (next_within nexts_at j op))
          (stored_end nexts_at j op)));
      none = λ j known past. grind (arith, le-ltb, nexts_at);
      fits = λ j op. grind (arith, head_first, latest_end_is);
    }

-- the ends alone differ
pub with_ends : {greatest : ℕ} {shop : Shop} {w : List ℕ} {l : LayoutState} {old new : Rows} → HasEnds old new
    → AreHeadsInLanes greatest shop w l old → AreHeadsInLanes greatest shop w l new
with_ends {shop} {w} {l} beside kept = grind arith
