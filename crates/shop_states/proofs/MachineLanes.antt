-- The lanes of a machine's blocks are its operations that wait, by nonincreasing tail.
use Rattle.std.proofs.Common.{rules, ◌≡◌, ℕ, zero, suc, ◌+◌, ◌-◌, ◌*◌, ◌≤◌, ◌<◌, inl, inr, true, false, List, [], ◌∷◌}
use Rattle.std.proofs.{Common.{length, get_or, refl, sym, ◌∙◌, ap, arith}, lemmas.List.{get_or-take, get_or-drop}}
use Rattle.std.proofs.lemmas.Bool.{cases_Bool, cases_eq, cases_lt, leb-true, le-leb}
use Rattle.shop_lanes.{specs.Rows.{Lane, lanes, lanes_of, blocks}, proofs.Columns.{by_columns-at, length-by_columns}}
use Rattle.shop_lanes.proofs.LaneLists.{lane_at, length-lanes, length-blocks}
use Rattle.shop_model.specs.{Limits.IsWithinLimits, Shop.{Shop, route_of, machine_of, IsOperation}, Word.Placing}
use Rattle.shop_model.proofs.Ends.{IsOperation-job}
use Rattle.shop_layout.specs.{declared.slots.Slot.Slot, Slots.slot_at, Positions.{LayoutState, IsLaidOut, position_of}}
use Rattle.shop_layout.{specs.Positions.{first_position, position_at_rank}, proofs.SlotFacts.slots_are_operations}
use Rattle.shop_layout.proofs.{SlotFacts.slots_are_all, LaidPositions.machines_rise, Ranks.{position_within, same_rank}}
use Rattle.shop_bound.specs.declared.triples.Triple.{Triple}
use Rattle.shop_states.{specs.inner.LaneHeads.{AreHeadsAt, AreStored}, proofs.LaneSpans.{AreMatched, nothing, empty}}
use Rattle.shop_states.proofs.{LaneSpans.{matched, IsLaneOf}, LeftSlots.{is_left, triple_of, left_of, left_for}}

-- lanes that stand for what is left of some slots, and for nothing else
slots_matched : (R : Triple → Lane → Type 0) (shop : Shop) (p : Placing) (ls : List Lane) (xs : List Slot)
    → length xs ≤ length ls
    → ((i : ℕ) (d : Slot) (e : Lane) → i < length xs → is_left p (get_or xs i d) ≡ true
    → R (triple_of shop p (get_or xs i d)) (get_or ls i e))
    → ((i : ℕ) (d : Slot) (e : Lane) → i < length xs → is_left p (get_or xs i d) ≡ false
    → (get_or ls i e).head ≡ 0)
    → ((i : ℕ) (e : Lane) → length xs ≤ i → i < length ls → (get_or ls i e).head ≡ 0)
    → AreMatched R (left_of shop p xs) ls
slots_matched R shop p [] [] long left placed behind = nothing
slots_matched R shop p [] (s ∷ xs) long left placed behind = absurd (omega arith)
slots_matched R shop p (x ∷ ls) [] long left placed behind =
    empty x (behind 0 x (omega arith) (omega arith))
    (slots_matched R shop p ls [] (omega arith) (λ i d e h. absurd (omega arith)) (λ i d e h. absurd (omega arith))
    (λ i e h b. behind (suc i) e (omega arith) (omega arith)))
slots_matched R shop p (x ∷ ls) (s ∷ xs) long left placed behind =
    let rest = slots_matched R shop p ls xs (omega arith) (λ i d e h. left (suc i) d e (omega arith))
    (λ i d e h. placed (suc i) d e (omega arith)) (λ i e h b. behind (suc i) e (omega arith) (omega arith))
    in elim (cases_Bool (is_left p s)) [
      | inl e ↦ rw e (matched (triple_of shop p s) x (left 0 s x (omega arith) e) rest)
      | inr e ↦ rw e (empty x (placed 0 s x (omega arith) e) rest)
    ]

lane_here : (hs ts qs : List ℕ) (i : ℕ) (d : Lane) → length ts ≡ length hs → length qs ≡ length hs → i < length hs
    → get_or (lanes hs ts qs) i d ≡ lane_at hs ts qs i
lane_here [] ts qs i d a b lt = absurd (omega arith)
lane_here (h ∷ hs) [] qs i d a b lt = absurd (omega arith)
lane_here (h ∷ hs) (t ∷ ts) [] i d a b lt = absurd (omega arith)
lane_here (h ∷ hs) (t ∷ ts) (q ∷ qs) zero d a b lt = refl
lane_here (h ∷ hs) (t ∷ ts) (q ∷ qs) (suc i) d a b lt =
    lane_here hs ts qs i d (omega arith) (omega arith) (omega arith)

module _ {shop : Shop} (limits : IsWithinLimits shop) {l : LayoutState} (laid : IsLaidOut shop l) where
  abbrev pub slots_of : ℕ → List Slot
  slots_of m = get_or laid.slots m []

  -- where an operation stands among those of its machine
  pub record HasIndex (j k m i : ℕ) : Type 0 where
    pub below : i < length (slots_of m)
    pub position : position_of l j k ≡ position_at_rank l.blocks m i

  pub index_of : (j k : ℕ) → IsOperation shop j k → (i : ℕ) × HasIndex j k (machine_of shop j k) i
  index_of j k op =
      let m = machine_of shop j k
      in let known = limits.on_machines j k
      in let c = slots_are_all shop m (slots_of m) (laid.are.slots m known) j k (IsOperation-job shop j k op) op refl
      in let s = slot_at (route_of shop j) j k
      in let at = (laid.each m known).at c.0 s c.1
      in let there : position_of l j k
      ≡ position_of l (get_or (slots_of m) c.0 s).job (get_or (slots_of m) c.0 s).step =
      ap (λ (x : Slot). position_of l x.job x.step) (sym c.2)
      in (c.0, record { below = c.1; position = there ∙ at.position })

  -- at the ranks behind a machine's operations nothing stands
  pub none_behind : (m r : ℕ) → m < shop.machines → length (slots_of m) ≤ r
      → first_position l m + r < first_position l (m + 1) → (j k : ℕ) → IsOperation shop j k
      → position_of l j k ≡ position_at_rank l.blocks m r → ⊥
  none_behind m r known behind before j k op e =
      let n = machine_of shop j k
      in let other = limits.on_machines j k
      in let i = index_of j k op
      in let below = i.1.below
      in let there = i.1.position
      in let room = (laid.each n other).room
      in let its = position_within l.blocks n i.0 (omega arith)
      in let at = position_within l.blocks m r before
      in elim (cases_eq n m) [
        | inl same ↦ grind (arith, same_rank)
        | inr ne ↦ elim (cases_lt n m) [
          | inl low ↦ (let a = machines_rise shop limits l laid (n + 1) m (omega arith) (omega arith) in omega arith)
          | inr high ↦ (let a = machines_rise shop limits l laid (m + 1) n (omega arith) (omega arith) in omega arith)
        ]
      ]

  module _ (m : ℕ) (known : m < shop.machines) (p : Placing) {f : ℕ → ℕ → ℕ} {hs : List ℕ}
      (stored : AreStored shop p.steps f l hs) where
    pub machine_within : first_position l (m + 1) ≤ length hs
    machine_within =
        let a = machines_rise shop limits l laid (m + 1) shop.machines (omega arith) (omega arith)
        in let b = stored.positions in omega arith

    abbrev from : ℕ
    from = get_or l.blocks m 0

    abbrev to : ℕ
    to = get_or l.blocks (m + 1) 0

    machine_lanes : List Lane
    machine_lanes = lanes_of hs l.times l.tails from to

    lanes_as_many : (length l.times ≡ length hs) × (length l.tails ≡ length hs)
    lanes_as_many = grind arith

    whole_blocks : length (blocks from to (lanes hs l.times l.tails)) ≡ 8 * (to - from)
    whole_blocks = grind (arith, machine_within, length-lanes, lanes_as_many, length-blocks)

    lane_in : (i : ℕ) (d : Lane) → first_position l m + i < first_position l (m + 1)
        → get_or machine_lanes i d ≡ lane_at hs l.times l.tails (position_at_rank l.blocks m i)
    unfolding machine_lanes
    lane_in i d below =
        grind (
          arith,
          machine_within,
          position_within,
          by_columns-at,
          whole_blocks,
          get_or-take,
          get_or-drop,
          lane_here,
          lanes_as_many,
        )

    machine_long : length machine_lanes ≡ first_position l (m + 1) - first_position l m
    unfolding machine_lanes
    machine_long = grind (arith, length-by_columns, whole_blocks)

    -- the lanes of a machine, if what is related to a waiting operation's triple is its lane
    pub lanes_matched : (R : Triple → Lane → Type 0)
        → ((s : Slot) → IsOperation shop s.job s.step → machine_of shop s.job s.step ≡ m → p.steps s.job ≤ s.step
        → R (triple_of shop p s) (record { head = f s.job s.step + 1; time = s.time; tail = s.tail }))
        → AreMatched R (left_of shop p (slots_of m))
        (lanes_of hs l.times l.tails (get_or l.blocks m 0) (get_or l.blocks (m + 1) 0))
    unfolding machine_lanes
    lanes_matched R related =
        grind (
          arith,
          machine_long,
          slots_matched,
          slots_are_operations,
          leb-true,
          lane_at,
          triple_of,
          lane_in,
          cases_lt,
          le-leb,
          none_behind,
        )

  -- the lanes of what waits for a machine
  pub left_matched : (m : ℕ) → m < shop.machines → (p : Placing) (hs : List ℕ) → AreHeadsAt shop p l hs
      → AreMatched IsLaneOf (left_for shop laid.slots p m)
      (lanes_of hs l.times l.tails (get_or l.blocks m 0) (get_or l.blocks (m + 1) 0))
  left_matched m known p hs heads = search (rules, lanes_matched)
