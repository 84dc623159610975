-- The conflict set is the chosen job and the jobs that are gathered from the lanes.
use Rattle.std.proofs.Common.{◌≡◌, ℕ, zero, suc, ◌+◌, ◌≤◌, ◌<◌, ◌^◌, ◌⊎◌, inl, inr, Bool, true, ◌||◌, List, [], ◌∷◌}
use Rattle.std.proofs.{Common.{length, get_or, refl, sym, ◌∙◌, ap, subst, arith, eqb, ltb}, lemmas.List.get_or_past}
use Rattle.std.proofs.lemmas.Bool.{cases_Bool, cases_eq, cases_lt, and_from, and_parts, lt-ltb, le-ltb, ltb-true}
use Rattle.std.{proofs.lemmas.Bool.{or_left, or_right, eq-eqb, eqb-true}, specs.List.{filter, range_with_len, best_of}}
use Rattle.shop_lanes.specs.{Ends.IsFirstLeast, Rows.Rows}
use Rattle.shop_model.specs.{Shop.{Shop, IsOperation, route_of, machine_of}, Word.Placing}
use Rattle.shop_model.proofs.Ends.{IsOperation-job}
use Rattle.shop_bound.specs.Conflicts.{open_jobs, next_machine, next_head, next_end, conflicts_with, conflict_among}
use Rattle.shop_bound.specs.Heads.{head_of, ready_after}
use Rattle.shop_states.specs.inner.{LaneChoices.{AreEndsAt, AreNextsAt, IsJobBelow}, Raises.{HasBlocks, IsOnMachine}}
use Rattle.shop_states.specs.inner.RisingLists.{IsIn, Rises, IsGatheredWith}
use Rattle.shop_states.proofs.NextOperations.{next_is, nexts_of_jobs, next_there, stored_end, stored_head}
use Rattle.shop_states.proofs.{RaisedHeads.{each_waiting, has_blocks}, RisingLists.{none_in, one_rising}}
use Rattle.shop_layout.specs.Positions.{LayoutState, position_of, first_position}
use Rattle.shop_layout.proofs.LaidPositions.{on_machine, is_position_of}

-- all that the choice by lanes stands on
pub record AreChoosable (greatest : ℕ) (shop : Shop) (p : Placing) (l : LayoutState) (nexts : List ℕ)
    (rows : Rows) : Type 0 where
  pub at : AreNextsAt shop p l nexts rows
  pub ends : AreEndsAt greatest shop p rows.ends
  pub computable : greatest < 2 ^ 64

-- the first of the least, going through a list
pub first_least : (e : ℕ → ℕ) (j : ℕ) (js : List ℕ) (c : ℕ) → Rises (j ∷ js) → IsIn (j ∷ js) c
    → ((i : ℕ) → IsIn (j ∷ js) i → e c ≤ e i) → ((i : ℕ) → IsIn (j ∷ js) i → i < c → e c < e i)
    → best_of (λ i b. ltb (e i) (e b)) j js ≡ c
first_least e j [] c r (inl s) least first = sym s
first_least e j [] c r (inr h) least first = absurd h
first_least e j (x ∷ xs) c r is_in least first = elim (cases_lt (e x) (e j)) [
  | inl lt ↦ rw (lt-ltb (e x) (e j) lt) (first_least e x xs c r.1 (elim is_in [
    | inl s ↦ (let a = least x (inr (inl refl)) in let b = ap e s in absurd (omega arith))
    | inr h ↦ h
  ]) (λ i h. least i (inr h)) (λ i h. first i (inr h)))
  | inr ge ↦ rw (le-ltb (e x) (e j) ge) (first_least e j xs c ((λ q h. r.0 q (inr h)), r.1.1) (elim is_in [
    | inl s ↦ inl s
    | inr (inl s) ↦ grind arith
    | inr (inr h) ↦ inr h
  ]) (λ i h. least i (elim h [
    | inl s ↦ inl s
    | inr g ↦ inr (inr g)
  ])) (λ i h. first i (elim h [
    | inl s ↦ inl s
    | inr g ↦ inr (inr g)
  ])))
]

pub conflict_of_first : (shop : Shop) (p : Placing) (js : List ℕ) (c : ℕ) → Rises js → IsIn js c
    → ((i : ℕ) → IsIn js i → next_end shop p c ≤ next_end shop p i)
    → ((i : ℕ) → IsIn js i → i < c → next_end shop p c < next_end shop p i)
    → conflict_among shop p js ≡ filter (conflicts_with shop p c) js
conflict_of_first shop p [] c r is_in least first = refl
conflict_of_first shop p (j ∷ js) c r is_in least first =
    ap (λ (i : ℕ). filter (conflicts_with shop p i) (j ∷ js)) (first_least (next_end shop p) j js c r is_in least first)

-- what is in a filtered list, and in a range
pub in_filter : (t : ℕ → Bool) (xs : List ℕ) (q : ℕ) → IsIn (filter t xs) q → IsIn xs q × (t q ≡ true)
in_filter t [] q h = absurd h
in_filter t (x ∷ xs) q h = elim (cases_Bool (t x)) [
  | inl e ↦ elim (rw e at h) [
    | inl s ↦ (inl s, ap t s ∙ e)
    | inr g ↦ (let r = in_filter t xs q g in (inr r.0, r.1))
  ]
  | inr e ↦ (let r = in_filter t xs q (rw e at h) in (inr r.0, r.1))
]

pub filter_in : (t : ℕ → Bool) (xs : List ℕ) (q : ℕ) → IsIn xs q → t q ≡ true → IsIn (filter t xs) q
filter_in t [] q h is = absurd h
filter_in t (x ∷ xs) q (inl s) is = rw (ap t (sym s) ∙ is) (inl s)
filter_in t (x ∷ xs) q (inr h) is = grind (arith, cases_Bool, filter_in t xs q h is)

pub filter_rises : (t : ℕ → Bool) (xs : List ℕ) → Rises xs → Rises (filter t xs)
filter_rises t [] r = tt
filter_rises t (x ∷ xs) r = grind (arith, cases_Bool, in_filter, filter_rises t xs r.1)

pub in_range : (a n q : ℕ) → IsIn (range_with_len a n) q → (a ≤ q) × (q < a + n)
in_range a zero q h = absurd h
in_range a (suc n) q (inl e) = (omega arith, omega arith)
in_range a (suc n) q (inr h) = grind (arith, in_range (a + 1) n q h)

pub range_in : (n a q : ℕ) → a ≤ q → q < a + n → IsIn (range_with_len a n) q
range_in zero a q low high = absurd (omega arith)
range_in (suc n) a q low high = elim (cases_eq q a) [
  | inl e ↦ inl e
  | inr ne ↦ inr (range_in n (a + 1) q (omega arith) (omega arith))
]

pub range_rises : (n a : ℕ) → Rises (range_with_len a n)
range_rises zero a = tt
range_rises (suc n) a = ((λ q h. let b = (in_range (a + 1) n q h).0 in omega arith), range_rises n (a + 1))

module _ (shop : Shop) (p : Placing) where
  pub open_rises : Rises (open_jobs shop p)
  open_rises = grind (arith, filter_rises, range_rises)

  pub open_is : (j : ℕ) → IsIn (open_jobs shop p) j → (j < length shop.jobs) × IsOperation shop j (p.steps j)
  open_is j h = grind (arith, in_filter, in_range, ltb-true)

  pub is_open : (j : ℕ) → IsOperation shop j (p.steps j) → IsIn (open_jobs shop p) j
  is_open j op = filter_in (λ i. ltb (p.steps i) (length (route_of shop i))) (range_with_len 0 (length shop.jobs)) j
      (range_in (length shop.jobs) 0 j (omega arith) (let a = IsOperation-job shop j (p.steps j) op in omega arith))
      (lt-ltb (p.steps j) (length (route_of shop j)) op)

either : (a b : Bool) → (a || b) ≡ true → (a ≡ true) ⊎ (b ≡ true)
either x b e = grind arith

-- what follows a next operation begins no earlier than that can end
ready_from_end : (shop : Shop) (p : Placing) (j n : ℕ) → next_end shop p j ≤ ready_after shop p j (suc n)
ready_from_end shop p j zero = grind arith
ready_from_end shop p j (suc n) = let a = ready_from_end shop p j n in omega arith

later_head : (shop : Shop) (p : Placing) (j k : ℕ) → p.steps j < k → next_end shop p j ≤ head_of shop p j k
later_head shop p j k later = grind (arith, ready_from_end)

-- the next operation of a job waits among some positions with a head below a limit
pub record IsNextBelow (nexts heads : List ℕ) (among : ℕ → Type 0) (limit j : ℕ) : Type 0 where
  pub job : j < length nexts
  pub there : among (get_or nexts j 0)
  pub waits : 0 < get_or heads (get_or nexts j 0) 0
  pub below : get_or heads (get_or nexts j 0) 0 < limit

gathered_as : (j : ℕ) (P Q : ℕ → Type 0) → ((i : ℕ) → P i → Q i) → ((i : ℕ) → Q i → P i) → (js : List ℕ)
    → IsGatheredWith j P js → IsGatheredWith j Q js
gathered_as j P Q to back js is = grind arith

module _ {shop : Shop} {p : Placing} {l : LayoutState} {nexts : List ℕ} {rows : Rows}
    (can : AreNextsAt shop p l nexts rows) where
  -- what waits below the least end of next operations is one
  module _ (limit : ℕ) (least : (i : ℕ) → IsOperation shop i (p.steps i) → limit ≤ next_end shop p i + 1) where
    waits_next : (q : ℕ) → 0 < get_or rows.heads q 0 → get_or rows.heads q 0 < limit
        → IsOperation shop (get_or l.jobs q 0) (p.steps (get_or l.jobs q 0)) × (get_or nexts (get_or l.jobs q 0) 0 ≡ q)
    waits_next q waits below = each_waiting can.limits can.laid can.heads (λ x. get_or rows.heads x 0 < limit
        → IsOperation shop (get_or l.jobs x 0) (p.steps (get_or l.jobs x 0)) × (get_or nexts (get_or l.jobs x 0) 0 ≡ x))
        (λ i k op opened low.
        let a = can.heads.waiting i k op opened
        in elim (cases_lt (p.steps i) k) [
          | inl later ↦ grind (arith, later_head)
          | inr same ↦ (let e : k ≡ p.steps i = omega arith in let here = subst (IsOperation shop i) e op
              in rw (is_position_of shop can.limits l can.laid i k op).job
              (here, next_there can i here ∙ ap (position_of l i) (sym e)))
        ]) q waits below

    to_next : (among : ℕ → Type 0) (j : ℕ) → IsJobBelow l rows.heads among limit j
        → IsNextBelow nexts rows.heads among limit j
    to_next among j is =
        let w = waits_next is.position is.waits is.below
        in let at : get_or nexts j 0 ≡ is.position = ap (λ (i : ℕ). get_or nexts i 0) (sym is.job) ∙ w.1
        in let here = ap (λ (q : ℕ). get_or rows.heads q 0) at
        in let waits = is.waits in let below = is.below
        in let known = IsOperation-job shop (get_or l.jobs is.position 0) (p.steps (get_or l.jobs is.position 0)) w.0
        in let many = can.are.jobs in let job = is.job
        in grind arith

    from_next : (among : ℕ → Type 0) (j : ℕ) → IsNextBelow nexts rows.heads among limit j
        → IsJobBelow l rows.heads among limit j
    from_next among j is =
        let here : get_or nexts j 0 < length rows.heads = elim (cases_lt (get_or nexts j 0) (length rows.heads)) [
          | inl h ↦ h
          | inr past ↦ grind (arith, get_or_past)
        ]
        in record {
          position = get_or nexts j 0;
          there = is.there;
          waits = is.waits;
          below = is.below;
          job = (nexts_of_jobs can).own j is.job here;
        }

  module _ (r : ℕ) (op : IsOperation shop r (p.steps r)) where
    module _ {m limit : ℕ} (on : m ≡ machine_of shop r (p.steps r)) (end : limit ≡ next_end shop p r + 1) where
      abbrev pub Below : ℕ → Type 0
      Below = IsNextBelow nexts rows.heads (IsOnMachine l m) limit

      in_conflict : (i : ℕ) → Below i
          → IsOperation shop i (p.steps i) × (conflicts_with shop p r i ≡ true)
      in_conflict i next =
          let many = can.are.jobs
          in let known = next.job
          in let here : get_or nexts i 0 < length rows.heads = elim (cases_lt (get_or nexts i 0) (length rows.heads)) [
            | inl h ↦ h
            | inr past ↦ grind (arith, get_or_past)
          ]
          in let o = next_is can i (omega arith) here
          in let at = next_there can i o
          in let there = next.there
          in let low = there.0 in let high = there.1
          in let machines = can.limits.on_machines r (p.steps r)
          in let machine = on_machine shop can.limits l can.laid m i (p.steps i) (omega arith) o (omega arith)
          (omega arith)
          in let head = stored_head can i o
          in let under = next.below
          in grind (arith, or_right, and_from, eq-eqb, lt-ltb)

      below_from : (i : ℕ) → IsOperation shop i (p.steps i) → next_machine shop p i ≡ next_machine shop p r
          → next_head shop p i < next_end shop p r → Below i
      below_from i o machine lt =
          let known = IsOperation-job shop i (p.steps i) o
          in let at = next_there can i o
          in let many = can.are.jobs
          in let head = stored_head can i o
          in let stands = is_position_of shop can.limits l can.laid i (p.steps i) o
          in let its : machine_of shop i (p.steps i) ≡ m = machine ∙ sym on
          in let first : first_position l (machine_of shop i (p.steps i)) ≡ first_position l m = ap (first_position l)
          its
          in let behind : first_position l (machine_of shop i (p.steps i) + 1) ≡ first_position l (m + 1) =
          ap (λ (x : ℕ). first_position l (x + 1)) its
          in let from = stands.from in let to = stands.to
          in grind arith

      -- the jobs whose next operations conflict with that of r
      pub are_conflicting : (js : List ℕ) → IsGatheredWith r Below js
          → js ≡ filter (conflicts_with shop p r) (open_jobs shop p)
      are_conflicting js is =
          let all = open_jobs shop p
          in one_rising js (filter (conflicts_with shop p r) all) is.rises
          (filter_rises (conflicts_with shop p r) all (open_rises shop p)) (λ q h. elim (is.only q h) [
            | inl e ↦ grind (arith, filter_in, is_open, or_left, eq-eqb)
            | inr next ↦ grind (arith, in_conflict, filter_in, is_open)
          ]) (λ q h.
          let f = in_filter (conflicts_with shop p r) all q h
          in let o = open_is shop p q f.0
          in elim (either (eqb q r) _ f.1) [
            | inl e ↦ subst (IsIn js) (sym (eqb-true q r e)) is.has
            | inr e ↦ grind (arith, and_parts, below_from, eqb-true, ltb-true)
          ])

module _ {greatest : ℕ} {shop : Shop} {p : Placing} {l : LayoutState} {nexts : List ℕ} {rows : Rows}
    (can : AreChoosable greatest shop p l nexts rows) where
  -- as many positions as heads
  as_many : length l.jobs ≡ length rows.heads
  as_many = can.at.laid.positions.jobs ∙ sym can.at.heads.positions

  module _ (r : ℕ) (is : IsFirstLeast rows.ends r) where
    pub chosen_job : r < length shop.jobs
    chosen_job = let a = is.within in let b = can.ends.jobs in omega arith

    none_left : (n : ℕ) → n ≡ length l.jobs → n ≤ get_or nexts r 0 → length (route_of shop r) ≤ p.steps r
    none_left n many past = elim (cases_lt (p.steps r) (length (route_of shop r))) [
      | inl op ↦ absurd (let at = next_there can.at r op
          in let a = (is_position_of shop can.at.limits l can.at.laid r (p.steps r) op).within
          in let b = can.at.heads.positions in let d = as_many in omega arith)
      | inr done ↦ done
    ]

    pub none_open : {n : ℕ} → n ≡ length l.jobs → n ≤ get_or nexts r 0
        → [] ≡ conflict_among shop p (open_jobs shop p)
    none_open {n} many past = sym (ap (conflict_among shop p) (none_in (open_jobs shop p) (λ i h.
        let o = open_is shop p i h
        in let a = is.least i (let b = can.ends.jobs in let d = o.0 in omega arith)
        in let b = can.ends.next i o.1
        in let d = can.ends.none r chosen_job (none_left n many past)
        in let e = can.ends.fits i o.1 in omega arith)))

    -- what was read of it
    pub record IsChosenAt (position machine : ℕ) : Type 0 where
      pub operation : IsOperation shop r (p.steps r)
      pub machine_is : machine ≡ machine_of shop r (p.steps r)
      pub blocks : HasBlocks l (length rows.heads) machine
      pub within : position < length rows.heads
      pub end : get_or rows.heads position 0 + get_or rows.times position 0 ≡ next_end shop p r + 1
      pub fits : next_end shop p r + 1 < greatest

    pub chosen_at : {n : ℕ} → n ≡ length l.jobs → get_or nexts r 0 < n
        → IsChosenAt (get_or nexts r 0) (get_or l.machines (get_or nexts r 0) 0)
    chosen_at many below =
        let position = get_or nexts r 0
        in let here : position < length rows.heads = (let a = as_many in omega arith)
        in let op = next_is can.at r chosen_job here
        in let at : position ≡ position_of l r (p.steps r) = next_there can.at r op
        in let stands = is_position_of shop can.at.limits l can.at.laid r (p.steps r) op
        in let from = stands.from in let to = stands.to
        in let known = can.at.limits.on_machines r (p.steps r)
        in let machine : get_or l.machines position 0 ≡ machine_of shop r (p.steps r) =
        ap (λ (x : ℕ). get_or l.machines x 0) at
        ∙ can.at.laid.machines_at.at (machine_of shop r (p.steps r)) (position_of l r (p.steps r)) known (omega arith)
        (omega arith)
        in let end = stored_end can.at r op
        in record {
          operation = op;
          machine_is = machine;
          blocks = has_blocks can.at.limits can.at.laid (get_or l.machines position 0) can.at.heads.positions (omega
              arith);
          within = here;
          end = end;
          fits = can.ends.fits r op;
        }

    module _ (op : IsOperation shop r (p.steps r)) where
      least_end : IsFirstLeast rows.ends r
      least_end = is

      pub chosen_is : conflict_among shop p (open_jobs shop p) ≡ filter (conflicts_with shop p r) (open_jobs shop p)
      chosen_is = grind (arith, conflict_of_first, open_rises, is_open, open_is)

      pub chosen_in : IsIn (conflict_among shop p (open_jobs shop p)) r
      chosen_in = grind (arith, chosen_is, filter_in, is_open, or_left, eq-eqb)

      pub is_conflict : {m limit : ℕ} → m ≡ machine_of shop r (p.steps r) → limit ≡ next_end shop p r + 1
          → (js : List ℕ) → IsGatheredWith r (IsJobBelow l rows.heads (IsOnMachine l m) limit) js
          → js ≡ conflict_among shop p (open_jobs shop p)
      is_conflict {m} {limit} on end js is =
          let least : (i : ℕ) → IsOperation shop i (p.steps i) → limit ≤ next_end shop p i + 1 = (λ i o.
          let known = IsOperation-job shop i (p.steps i) o
          in let a = least_end.least i (let b = can.ends.jobs in omega arith)
          in let b = can.ends.next i o in let d = can.ends.next r op in omega arith)
          in are_conflicting can.at r op on end js (gathered_as r (IsJobBelow l rows.heads (IsOnMachine l m) limit)
          (IsNextBelow nexts rows.heads (IsOnMachine l m) limit) (to_next can.at limit least (IsOnMachine l m))
          (from_next can.at limit least (IsOnMachine l m)) js is)
          ∙ sym chosen_is
