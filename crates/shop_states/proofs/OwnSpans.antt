-- Own spans tell the bound after each candidate of a word.
use Rattle.std.proofs.Common.{rules, ◌≡◌, ℕ, zero, suc, ◌+◌, ◌-◌, ◌*◌, ◌≤◌, ◌<◌, max, inl, inr, true, List, [], ◌∷◌}
use Rattle.std.proofs.{Common.{◌++◌, length, get_or, drop, refl, sym, ◌∙◌, ap, subst, arith}, lemmas.Bool.and_parts}
use Rattle.std.proofs.lemmas.{Bool.{cases_Bool, cases_lt, eqb-true}, Grind.same_number_lists, List.Elements.All-drop}
use Rattle.std.{proofs.lemmas.List.Elements.All-take, specs.List.All}
use Rattle.shop_lanes.specs.Rows.{AreBlocks, Lane, Rows, lanes, lanes_between, lanes_of, blocks}
use Rattle.shop_lanes.specs.Spans.{AreOwnSpans, FitOwnSpans}
use Rattle.shop_lanes.proofs.{Columns.All-by_columns, LaneLists.{length-blocks, length-lanes}}
use Rattle.shop_model.specs.{Limits.IsWithinLimits, Shop.{Shop, machine_of}, Word.{Placing, IsWord, placing}}
use Rattle.shop_bound.specs.{Bound.lb, Conflicts.{conflict, conflict_among, conflicts_with, next_machine}}
use Rattle.shop_states.specs.{inner.Advances.{IsAdvancing, foreseen}, States.{ListsBelow, none, listed, closed}}
use Rattle.shop_states.specs.inner.Candidates.{AreCandidatesOf, IsCandidateOf, IsTold, ListsOwn, own_at, empty}
use Rattle.shop_states.specs.inner.{Candidates.{left_out, taken, told_at}, LaneHeads.AreHeadsAt, RisingLists.IsIn}
use Rattle.shop_states.specs.{inner.LaneStates.IsKeptInLanes, declared.states.Candidate.Candidate}
use Rattle.shop_states.proofs.{Candidates.{advancing, candidate_fits, foreseen_least}, ChildRaises.heads_small}
use Rattle.shop_states.proofs.{ChildReads.{head_here, is_operation, machine_here}, LaneConflicts.in_filter}
use Rattle.shop_states.proofs.{LaneFits.{AreSpansFit, spans_fit}, StateSteps.{next_at, next_known}}
use Rattle.shop_layout.specs.{HeadLimits.latest_end, Lanes.{lanes_on, rows_of}, Positions.{IsLaidOut, LayoutState}}
use Rattle.shop_layout.specs.Positions.{first_position, position_of}
use Rattle.shop_layout.proofs.LaidPositions.{each_position, is_position_of}

-- heads of one placing are one list
module _ {shop : Shop} (limits : IsWithinLimits shop) {l : LayoutState} (laid : IsLaidOut shop l) (p : Placing)
    {hs ks : List ℕ} (a : AreHeadsAt shop p l hs) (b : AreHeadsAt shop p l ks) where
  head_same : (q : ℕ) → get_or hs q 0 ≡ get_or ks q 0
  head_same q = grind (arith, each_position, cases_lt)

  pub same_heads : hs ≡ ks
  same_heads = same_number_lists hs ks (a.positions ∙ sym b.positions) (λ q known. head_same q)

-- a conflict set is on one machine
on_its : (shop : Shop) (p : Placing) (c i : ℕ) → conflicts_with shop p c i ≡ true
    → next_machine shop p i ≡ next_machine shop p c
on_its shop p c i t = grind (arith, cases_Bool, eqb-true, and_parts)

pub on_one : (shop : Shop) (p : Placing) (js : List ℕ) (i k : ℕ) → IsIn (conflict_among shop p js) i
    → IsIn (conflict_among shop p js) k → next_machine shop p i ≡ next_machine shop p k
on_one shop p x i k h g = grind (arith, on_its, in_filter)

-- the heads of lanes
head_in : (hs ts qs : List ℕ) (top : ℕ) → ((q : ℕ) → get_or hs q 0 ≤ top)
    → All (λ (x : Lane). x.head ≤ top) (lanes hs ts qs)
head_in [] ts qs top small i d here = absurd (omega arith)
head_in (h ∷ hs) [] qs top small i d here = absurd (omega arith)
head_in (h ∷ hs) (t ∷ ts) [] top small i d here = absurd (omega arith)
head_in (h ∷ hs) (t ∷ ts) (q ∷ qs) top small zero d here = small 0
head_in (h ∷ hs) (t ∷ ts) (q ∷ qs) top small (suc i) d here =
    head_in hs ts qs top (λ x. small (suc x)) i d (omega arith)

heads_in : (hs ts qs : List ℕ) (top from to : ℕ) → length ts ≡ length hs → length qs ≡ length hs → 8 * to ≤ length hs
    → ((q : ℕ) → get_or hs q 0 ≤ top) → All (λ (x : Lane). x.head ≤ top) (lanes_of hs ts qs from to)
heads_in hs ts qs top from to a b within small =
    let long = length-lanes hs ts qs a b
    in All-by_columns (to - from) (blocks from to (lanes hs ts qs))
    (length-blocks from to (lanes hs ts qs) (omega arith) ∙ omega arith) (λ (x : Lane). x.head ≤ top)
    (All-take (λ (x : Lane). x.head ≤ top) (8 * to - 8 * from) (drop (8 * from) (lanes hs ts qs))
    (All-drop (λ (x : Lane). x.head ≤ top) (8 * from) (lanes hs ts qs) (head_in hs ts qs top small)))

-- the own spans of what waits in these blocks can be told
pub record CanTell (greatest : ℕ) (rows : Rows) (from to : ℕ) : Type 0 where
  pub blocks : AreBlocks rows from to
  pub fits : FitOwnSpans greatest (lanes_between rows from to)

module _ {greatest : ℕ} {shop : Shop} {w : List ℕ} {l : LayoutState} {heads ends nexts : List ℕ}
    (kept : IsKeptInLanes greatest shop w l (rows_of l heads ends) nexts) where
  -- the own spans of a machine can be told
  module _ (m : ℕ) (known : m < shop.machines) where
    fit : AreSpansFit greatest (latest_end shop + 1) shop.machines l (rows_of l heads ends)
    fit = search (rules, spans_fit)

    pub its_blocks : AreBlocks (rows_of l heads ends) (get_or l.blocks m 0) (get_or l.blocks (m + 1) 0)
    its_blocks = fit.blocks m known

    pub owns_fit : FitOwnSpans greatest (lanes_on (rows_of l heads ends) l m)
    owns_fit =
        let all = fit.fits m known
        in let small = heads_in heads l.times l.tails (latest_end shop + 1) (get_or l.blocks m 0)
        (get_or l.blocks (m + 1) 0)
        (kept.kept.laid.positions.times ∙ sym kept.kept.heads.positions)
        (kept.kept.laid.positions.tails ∙ sym kept.kept.heads.positions) its_blocks.within
        (heads_small shop kept.kept.limits l kept.kept.laid w kept.kept.word heads kept.kept.heads)
        in grind arith

  -- one next operation
  module _ (j : ℕ) (fits : IsWord shop (w ++ j ∷ [])) where
    abbrev x : ℕ
    x = get_or nexts j 0

    its_position_is : x ≡ position_of l j ((placing shop w).steps j)
    its_position_is = next_at j kept fits refl

    pub its_machine : get_or l.machines (get_or nexts j 0) 0 ≡ next_machine shop (placing shop w) j
    its_machine = search (rules, its_position_is, machine_here)

    -- the bound after it is no less
    own_low : max (lb shop w) (own_at l heads x - 1) ≤ lb shop (w ++ j ∷ [])
    own_low =
        let b = foreseen l heads ends x (lb shop w)
        in let a = foreseen_least j kept fits refl (lb shop w) refl refl
        in let most = a.most in omega arith

    own_of : (own : ℕ) → max (lb shop w) own ≡ max (lb shop w) (own_at l heads x - 1) → IsCandidateOf shop w l j own
    own_of own adds = record {
      fits = fits;
      adds = λ hs at.
          let same = same_heads kept.kept.limits kept.kept.laid (placing shop w) kept.kept.heads at
          in adds ∙ (ap (λ (q : ℕ). max (lb shop w) (own_at l heads q - 1)) its_position_is
          ∙ ap (λ (ks : List ℕ). max (lb shop w) (own_at l ks (position_of l j ((placing shop w).steps j)) - 1)) same);
    }

    -- what a candidate is known by is what is foreseen
    pub candidate_advancing : (own : ℕ) → IsCandidateOf shop w l j own → (given : List ℕ) → given ≡ nexts
        → (bound : ℕ) → bound ≡ lb shop w → (least : ℕ) → least ≡ max bound own
        → IsAdvancing greatest shop w l (rows_of l heads ends) given j least
    candidate_advancing own is given same bound bound_is least least_is =
        let a = is.adds heads kept.kept.heads
        in let b = ap (λ (q : ℕ). own_at l heads q) its_position_is
        in subst (λ (ns : List ℕ). IsAdvancing greatest shop w l (rows_of l heads ends) ns j least) (sym same)
        (advancing j kept fits refl refl bound_is (omega arith))

    its_head : 0 < get_or heads x 0
    its_head =
        let a = head_here kept.kept j fits
        in let b = ap (λ (q : ℕ). get_or heads q 0) its_position_is in omega arith

    -- among the positions of its machine
    module _ {m : ℕ} (m_is : get_or l.machines (get_or nexts j 0) 0 ≡ m) where
      its_from : 8 * get_or l.blocks m 0 ≤ x
      its_from =
          let at = is_position_of shop kept.kept.limits l kept.kept.laid j ((placing shop w).steps j)
          (is_operation kept.kept j fits)
          in let a = at.from in let b = its_position_is
          in let e : first_position l (machine_of shop j ((placing shop w).steps j)) ≡ first_position l m =
          ap (first_position l) (sym its_machine ∙ m_is) in omega arith

      its_to : x < 8 * get_or l.blocks (m + 1) 0
      its_to =
          let at = is_position_of shop kept.kept.limits l kept.kept.laid j ((placing shop w).steps j)
          (is_operation kept.kept j fits)
          in let a = at.to in let b = its_position_is
          in let e : first_position l (machine_of shop j ((placing shop w).steps j) + 1) ≡ first_position l (m + 1) =
          ap (λ (n : ℕ). first_position l (n + 1)) (sym its_machine ∙ m_is) in omega arith

      pub is_told : (count : ℕ) → 8 * get_or l.blocks (m + 1) 0 ≤ 8 * get_or l.blocks m 0 + count
          → IsTold nexts (8 * get_or l.blocks m 0) count j
      is_told count room = search (rules, next_known, its_from, its_to)

      told_is : (owns : List ℕ)
          → AreOwnSpans heads l.times l.tails (get_or l.blocks m 0) (get_or l.blocks (m + 1) 0) owns
          → told_at nexts (8 * get_or l.blocks m 0) owns j ≡ own_at l heads x - 1
      told_is owns are = grind (arith, its_from, its_to, its_head)

  -- the conflict set
  module _ {jobs : List ℕ} (set_is : jobs ≡ conflict shop w) where
    set_fits : (j : ℕ) → IsIn (conflict shop w) j → IsWord shop (w ++ j ∷ [])
    set_fits j h = candidate_fits shop w kept.kept.word j h

    -- one that adds what its own span does
    is_one : (j : ℕ) → IsIn (conflict shop w) j → (c : Candidate) → c.job ≡ j
        → max (lb shop w) c.own ≡ max (lb shop w) (own_at l heads (get_or nexts j 0) - 1)
        → IsCandidateOf shop w l c.job c.own
    is_one j h c same adds = grind (arith, own_of, set_fits)

    listing : (limit : ℕ) (own : ℕ → ℕ)
        → ((j : ℕ) → IsIn (conflict shop w) j → own j ≡ own_at l heads (get_or nexts j 0) - 1)
        → {js : List ℕ} {cs : List Candidate} {n : ℕ} → ListsOwn limit own js cs n
        → ((j : ℕ) → IsIn js j → IsIn (conflict shop w) j)
        → ListsBelow shop w limit (λ c. IsCandidateOf shop w l c.job c.own) js cs n
    listing limit own tells empty all = none
    listing limit own tells (taken j c same own_is low rest) all =
        listed j c same
        (is_one j (all j (inl refl)) c same (ap (max (lb shop w)) (own_is ∙ tells j (all j (inl refl)))))
        (listing limit own tells rest (λ i h. all i (inr h)))
    listing limit own tells (left_out j low rest) all =
        closed j
        (let a = own_low j (set_fits j (all j (inl refl))) in let b = tells j (all j (inl refl)) in omega arith)
        (listing limit own tells rest (λ i h. all i (inr h)))

    -- a sole one adds nothing
    pub alone : (limit j : ℕ) → jobs ≡ j ∷ [] → (cs : List Candidate) → cs ≡ record { job = j; own = 0 } ∷ []
        → AreCandidatesOf shop w l limit cs 0
    alone limit j one cs is =
        let sole : conflict shop w ≡ j ∷ [] = sym set_is ∙ one
        in let here : IsIn (conflict shop w) j = subst (λ (js : List ℕ). IsIn js j) (sym sole) (inl refl)
        in let keeps = kept.sole j sole
        in let low = own_low j (set_fits j here)
        in subst (λ (ds : List Candidate). AreCandidatesOf shop w l limit ds 0) (sym is)
        (subst (λ (js : List ℕ). ListsBelow shop w limit (λ c. IsCandidateOf shop w l c.job c.own) js
        (record { job = j; own = 0 } ∷ []) 0) (sym sole)
        (listed j (record { job = j; own = 0 }) refl (is_one j here (record { job = j; own = 0 }) refl (omega arith))
        none))

    -- there is none
    pub nobody : (limit : ℕ) → jobs ≡ [] → (cs : List Candidate) → cs ≡ [] → AreCandidatesOf shop w l limit cs 0
    nobody limit no_jobs cs is =
        subst (λ (ds : List Candidate). AreCandidatesOf shop w l limit ds 0) (sym is)
        (subst (λ (js : List ℕ). ListsBelow shop w limit (λ c. IsCandidateOf shop w l c.job c.own) js [] 0)
        (sym no_jobs ∙ set_is) none)

    -- the machine of one of them, and its blocks
    module _ (first : ℕ) (has : IsIn (conflict shop w) first) {m : ℕ}
        (m_is : m ≡ get_or l.machines (get_or nexts first 0) 0) {from to : ℕ}
        (from_is : from ≡ get_or l.blocks m 0) (to_is : to ≡ get_or l.blocks (m + 1) 0) where
      abbrev first_fits : IsWord shop (w ++ first ∷ [])
      first_fits = set_fits first has

      on_its_machine : (j : ℕ) → IsIn (conflict shop w) j → get_or l.machines (get_or nexts j 0) 0 ≡ m
      on_its_machine j h = grind (arith, its_machine, set_fits, on_one)

      m_known : m < shop.machines
      m_known =
          let a = its_machine first first_fits in let e = m_is
          in let b = kept.kept.limits.on_machines first ((placing shop w).steps first) in omega arith

      blocks_are : AreBlocks (rows_of l heads ends) from to
      blocks_are = rw (from_is, to_is) (its_blocks m m_known)

      pub can_tell : CanTell greatest (rows_of l heads ends) from to
      can_tell = grind (arith, blocks_are, owns_fit, m_known)

      pub told_all : (count : ℕ) → 8 * to ≤ 8 * from + count → (j : ℕ) → IsIn jobs j
          → IsTold nexts (8 * from) count j
      told_all count room j h =
          let g = subst (λ (js : List ℕ). IsIn js j) set_is h
          in subst (λ (n : ℕ). IsTold nexts (8 * n) count j) (sym from_is)
          (is_told j (set_fits j g) (on_its_machine j g) count (rw (from_is, to_is) at room))

      pub told : (owns : List ℕ) → AreOwnSpans heads l.times l.tails from to owns
          → (limit : ℕ) (cs : List Candidate) (others : ℕ)
          → ListsOwn limit (told_at nexts (8 * from) owns) jobs cs others
          → AreCandidatesOf shop w l limit cs others
      told owns spans limit cs others list =
          subst (λ (js : List ℕ). ListsBelow shop w limit (λ c. IsCandidateOf shop w l c.job c.own) js cs others) set_is
          (listing limit (told_at nexts (8 * from) owns) (λ j h.
          ap (λ (n : ℕ). told_at nexts (8 * n) owns j) from_is
          ∙ told_is j (set_fits j h) (on_its_machine j h) owns (rw (from_is, to_is) at spans)) list
          (λ j h. subst (λ (js : List ℕ). IsIn js j) set_is h))
