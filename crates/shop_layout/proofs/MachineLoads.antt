-- The times of a machine, its greatest tail included, stay small.
use Rattle.std.proofs.Common.{◌≡◌, ℕ, zero, suc, ◌+◌, ◌-◌, ◌*◌, ◌^◌, ◌≤◌, ◌<◌, inl, inr, List, [], ◌∷◌, length, get_or}
use Rattle.std.proofs.{Common.{ap, arith}, lemmas.{Bool.cases_lt, List.{get_or-take, get_or-drop, get_or_past}}}
use Rattle.std.{proofs.lemmas.List.Sums.{sum_by-cons, sum_by-take-drop}, specs.List.sum_by}
use Rattle.shop_lanes.specs.Rows.{blocks, by_columns}
use Rattle.shop_lanes.proofs.{Columns.{by_columns-at, length-by_columns, index_fits}, LaneLists.length-blocks}
use Rattle.shop_model.specs.{declared.ops.Op.Op, Limits.IsWithinLimits, Shop.{Shop, route_of, time_of}}
use Rattle.shop_bound.{specs.{OneMachine.greatest_of, Heads.tail_in}, proofs.TimeSums.route_times}
use Rattle.shop_layout.specs.{HeadLimits.{total_before, most_load_on}, declared.slots.Slot.Slot}
use Rattle.shop_layout.specs.Positions.{LayoutState, IsLaidOut, first_position, position_at_rank}
use Rattle.shop_layout.proofs.{ApartSlots.slots_few, ColumnSums.sum_by_columns, LaidPositions.machines_rise}
use Rattle.shop_layout.proofs.Ranks.{rank_at}
use Rattle.shop_layout.proofs.SlotFacts.{slots_are_operations}

pub total_small : (shop : Shop) → IsWithinLimits shop → (n : ℕ) → total_before shop n ≤ n * 100000000000
total_small shop limits zero = omega arith
total_small shop limits (suc n) = grind (arith, total_small shop limits n, route_times)

-- a sum of which only the first n numbers are not 0
sum_front : (b : ℕ) (xs : List ℕ) (n : ℕ) → ((i : ℕ) → get_or xs i 0 ≤ b) → ((i : ℕ) → n ≤ i → get_or xs i 0 ≡ 0)
    → sum_by (λ t. t) xs ≤ n * b
sum_front b [] n each rest = omega arith
sum_front b (x ∷ xs) zero each rest =
    let a = sum_front b xs zero (λ i. each (suc i)) (λ i h. rest (suc i) (omega arith))
    in let c = sum_by-cons (λ (t : ℕ). t) x xs in let d = rest 0 (omega arith) in omega arith
sum_front b (x ∷ xs) (suc n) each rest =
    let a = sum_front b xs n (λ i. each (suc i)) (λ i h. rest (suc i) (omega arith))
    in let c = sum_by-cons (λ (t : ℕ). t) x xs in let d = each 0
    in let m : suc n * b ≡ n * b + b = grind arith in omega arith

greatest_each : (b : ℕ) (xs : List ℕ) → ((i : ℕ) → get_or xs i 0 ≤ b) → greatest_of (λ t. t) xs ≤ b
greatest_each b [] each = omega arith
greatest_each b (x ∷ xs) each = let a = greatest_each b xs (λ i. each (suc i)) in let d = each 0 in omega arith

-- what stands at an index of some blocks
pub block_at : (xs : List ℕ) (from to i : ℕ) → i < 8 * to - 8 * from
    → get_or (blocks from to xs) i 0 ≡ get_or xs (8 * from + i) 0
block_at xs from to i here = grind (arith, get_or-take, get_or-drop)

block_past : (xs : List ℕ) (from to i : ℕ) → 8 * to ≤ length xs → 8 * to - 8 * from ≤ i
    → get_or (blocks from to xs) i 0 ≡ 0
block_past xs from to i within here = grind (arith, length-blocks, get_or_past)

module _ (shop : Shop) (limits : IsWithinLimits shop) (l : LayoutState) (laid : IsLaidOut shop l) where
  module _ (m : ℕ) (known : m < shop.machines) where
    within : first_position l (m + 1) ≤ first_position l shop.machines
    within = machines_rise shop limits l laid (m + 1) shop.machines (omega arith) (omega arith)

    -- its positions are among all
    pub machine_in : (first_position l m ≤ first_position l (m + 1)) × (first_position l (m + 1) ≤ length l.times)
        × (first_position l (m + 1) ≤ length l.tails)
    machine_in = grind (arith, within)

    slots : List Slot
    slots = get_or laid.slots m []

    abbrev from : ℕ
    from = get_or l.blocks m 0

    abbrev to : ℕ
    to = get_or l.blocks (m + 1) 0

    -- times in order of rank
    ranked : List ℕ
    ranked = by_columns (to - from) (blocks from to l.times)

    whole_blocks : length (blocks from to l.times) ≡ 8 * (to - from)
    whole_blocks = grind (arith, within, length-blocks)

    time_at : (i : ℕ) → i < 8 * (to - from) → get_or ranked i 0 ≡ get_or l.times (position_at_rank l.blocks m i) 0
    unfolding ranked
    time_at i here = grind (arith, by_columns-at, whole_blocks, block_at, index_fits)

    time_past : (i : ℕ) → 8 * (to - from) ≤ i → get_or ranked i 0 ≡ 0
    unfolding ranked
    time_past i past = grind (arith, length-by_columns, whole_blocks, get_or_past, ranked)

    -- the times and tails of a machine are small, and 0 behind its operations
    time_small : (i : ℕ) → get_or ranked i 0 ≤ 1000000000
    unfolding slots
    time_small i = elim (cases_lt i (8 * (to - from))) [
      | inl here ↦ (let e = time_at i here
          in elim (cases_lt i (length slots)) [
            | inl of ↦ (let d : Slot = record { job = 0; step = 0; time = 0; tail = 0 }
                in let at = (laid.each m known).at i d of
                in let op = slots_are_operations shop m slots (laid.are.slots m known) i d of
                in let t = at.time
                in let is : (get_or slots i d).time ≡ time_of shop (get_or slots i d).job (get_or slots i d).step =
                ap (λ (s : Slot). s.time) op.is
                in let small = limits.times (get_or slots i d).job (get_or slots i d).step
                in omega (arith, e, t, is, small))
            | inr behind ↦ (let t = ((laid.each m known).padding i behind (omega arith)).time in omega (arith, e, t))
          ])
      | inr past ↦ (let e = time_past i past in omega (arith, e))
    ]

    time_behind : (i : ℕ) → length slots ≤ i → get_or ranked i 0 ≡ 0
    unfolding slots
    time_behind i behind = grind (arith, cases_lt, time_at, time_past)

    tail_at : (q : ℕ) → first_position l m ≤ q → q < first_position l (m + 1) → get_or l.tails q 0 ≤ 100000000000
    unfolding slots
    tail_at q low high =
        let r = rank_at l.blocks m q low high
        in let i = r.rank
        in let here : get_or l.tails (position_at_rank l.blocks m i) 0 ≡ get_or l.tails q 0 =
        ap (λ (x : ℕ). get_or l.tails x 0) r.at
        in elim (cases_lt i (length slots)) [
          | inl of ↦ (let d : Slot = record { job = 0; step = 0; time = 0; tail = 0 }
              in let at = (laid.each m known).at i d of
              in let op = slots_are_operations shop m slots (laid.are.slots m known) i d of
              in let t = at.tail
              in let is : (get_or slots i d).tail
              ≡ tail_in (route_of shop (get_or slots i d).job) (get_or slots i d).step =
              ap (λ (s : Slot). s.tail) op.is
              in let whole = route_times shop limits (get_or slots i d).job
              in let part = sum_by-take-drop (λ (o : Op). o.time) (route_of shop (get_or slots i d).job)
              ((get_or slots i d).step + 1) in omega (arith, here, t, is, whole, part))
          | inr behind ↦ (let t = ((laid.each m known).padding i behind r.within).tail in omega (arith, here, t))
        ]

    tail_small : (i : ℕ) → get_or (blocks from to l.tails) i 0 ≤ 100000000000
    tail_small i = grind (arith, within, cases_lt, block_at, tail_at, block_past)

    pub most_load_small : most_load_on l m < 2 ^ 47
    unfolding slots ranked
    most_load_small =
        let a = sum_front 1000000000 ranked (length slots) time_small time_behind
        in let same = sum_by_columns (λ (t : ℕ). t) (to - from) (blocks from to l.times) whole_blocks
        in let few = slots_few shop limits m slots (laid.are.slots m known)
        in let b = greatest_each 100000000000 (blocks from to l.tails) tail_small
        in omega arith
