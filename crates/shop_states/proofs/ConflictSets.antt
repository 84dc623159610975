-- The conflict set gathered on the machine of the operation that can end first.
use Rattle.std.proofs.Common.{rules, ◌≡◌, ℕ, ◌+◌, ◌*◌, ◌^◌, ◌≤◌, ◌<◌, List, [], ◌∷◌, length, get_or, subst, arith, refl}
use Rattle.shop_lanes.specs.{Marks.positions_among, Spans.AreOwnSpans}
use Rattle.shop_model.specs.Shop.{Shop}
use Rattle.shop_bound.specs.Conflicts.{conflict}
use Rattle.shop_layout.specs.{Lanes.rows_of, Positions.LayoutState}
use Rattle.shop_states.specs.declared.{candidate_lists.FirstEnd.FirstEnd, states.Candidate.Candidate}
use Rattle.shop_states.specs.inner.Candidates.{AreCandidatesOf, CanList, IsChosenBy, ListsGathered, told_at}
use Rattle.shop_states.specs.inner.{LaneChoices.{AreNextsOfJobs, IsAlone, IsJobBelow}, LaneStates.IsKeptInLanes}
use Rattle.shop_states.specs.inner.{Raises.IsInBlocks, RisingLists.IsGatheredWith}
use Rattle.shop_states.proofs.{Candidates.choosable, LaneChoices.alone_with, NextOperations.nexts_of_jobs}
use Rattle.shop_states.proofs.OwnSpans.{CanTell, alone, can_tell, told, told_all}

module _ {greatest : ℕ} {shop : Shop} {w : List ℕ} {l : LayoutState} {heads ends nexts : List ℕ}
    (kept : IsKeptInLanes greatest shop w l (rows_of l heads ends) nexts) where
  pub of_jobs : AreNextsOfJobs l heads nexts
  of_jobs = nexts_of_jobs (choosable kept).at

  module _ {first : FirstEnd} (chosen : IsChosenBy greatest shop w l heads nexts first)
      {from behind : ℕ} (from_is : from ≡ get_or l.blocks first.machine 0)
      (behind_is : behind ≡ get_or l.blocks (first.machine + 1) 0) where
    -- what is gathered with the chosen job between these blocks
    abbrev pub AreGathered : ℕ → ℕ → List ℕ → Type 0
    AreGathered x y = IsGatheredWith first.chosen (IsJobBelow l heads (IsInBlocks x y) first.end)

    set_is : (js : List ℕ) → AreGathered from behind js → js ≡ conflict shop w
    set_is js is = chosen.set js
        (subst (λ (x : ℕ). AreGathered (get_or l.blocks first.machine 0) x js) behind_is
        (subst (λ (x : ℕ). AreGathered x behind js) from_is is))

    -- nothing else waits there
    pub sole : IsAlone heads from behind first.end (get_or nexts first.chosen 0) → (limit : ℕ) {cs : List Candidate}
        → cs ≡ record { job = first.chosen; own = 0 } ∷ [] → AreCandidatesOf shop w l limit cs 0
    sole nothing limit {cs} are =
        let ordered = chosen.blocks.ordered
        in let within = chosen.blocks.within
        in alone kept
        (set_is (first.chosen ∷ []) (alone_with l nexts heads of_jobs from behind first.end first.chosen (omega arith)
        (omega arith) chosen.known nothing)) limit first.chosen refl cs are

    pub tells : CanTell greatest (rows_of l heads ends) from behind
    tells = can_tell kept refl first.chosen chosen.has chosen.machine_is from_is behind_is

    -- it can be listed
    pub can_list : {to : ℕ} → from ≤ to → to ≤ behind → {below : List ℕ}
        → below ≡ positions_among heads from to first.end → {count : ℕ}
        → 8 * behind ≤ 8 * from + count → length heads < 2 ^ 64
        → CanList greatest l (rows_of l heads ends) nexts (record {
          chosen = first.chosen;
          end = first.end;
          from = from;
          to = to;
          behind = behind;
          below = below;
        }) count
    can_list {to} ordered last {below} marks {count} room small =
        let within = tells.blocks.within
        in record {
          blocks_are = grind arith;
          computable = omega arith;
          nexts_of_jobs = of_jobs;
          few = (let few = kept.kept.limits.jobs in let jobs = kept.are_next.jobs in omega arith);
          known = chosen.known;
          told = λ js is. told_all kept (set_is js is) first.chosen chosen.has chosen.machine_is from_is behind_is count
              room;
        }

    pub all_told : (owns : List ℕ) → AreOwnSpans heads l.times l.tails from behind owns
        → {limit : ℕ} {cs : List Candidate} {others : ℕ}
        → ListsGathered limit (told_at nexts (8 * from) owns) (AreGathered from behind) cs others
        → AreCandidatesOf shop w l limit cs others
    all_told owns spans {limit} {cs} {others} are = search (rules, told, set_is)
