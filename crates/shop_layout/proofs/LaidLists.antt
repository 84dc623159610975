-- The lists of the machines, laid out.
use Rattle.std.proofs.Common.{◌≡◌, ℕ, zero, suc, ◌+◌, ◌-◌, ◌*◌, ◌≤◌, ◌<◌, inl, inr, List, [], length, map, get_or, refl}
use Rattle.std.proofs.{Common.arith, lemmas.{Bool.{cases_eq, cases_lt}, List.{get_or-map, get_or_past, get_or_default}}}
use Rattle.std.{proofs.lemmas.List.length-map, specs.List.All}
use Rattle.shop_model.specs.{Limits.IsWithinLimits, Shop.Shop}
use Rattle.shop_layout.specs.{declared.slots.Slot.Slot, Slots.{AreMachineSlots, AreSlotsOf}}
use Rattle.shop_layout.specs.inner.Layings.{AreCells, AreNoted, AreShorter, AreStepPositions, HasRoutes, IsInRows}
use Rattle.shop_layout.specs.{inner.Layings.no_slot, Positions.{AreMachinesOf, IsLaidOut, LayoutState}}
use Rattle.shop_layout.proofs.{ApartSlots.slots_few, Ranks.rank_at, SlotFacts.slots_are_operations}

pub machine_few : (shop : Shop) → IsWithinLimits shop → (lists : List (List Slot)) → AreMachineSlots shop lists
    → AreShorter 100000 lists
machine_few shop limits lists are m = grind (arith, cases_lt, slots_few, get_or_past)

pub rows_in : (shop : Shop) (rows : List (List ℕ)) → HasRoutes shop rows → (m : ℕ) (slots : List Slot)
    → AreSlotsOf shop m slots → All (IsInRows rows) slots
rows_in shop rows shape m slots are k d here = grind (arith, slots_are_operations shop m slots are k d here)

-- the steps' positions of one more machine
pub positions_turn : (shop : Shop) (lists : List (List Slot)) (blocks : List ℕ) (n : ℕ) (old new : List (List ℕ))
    → AreMachineSlots shop lists → n < shop.machines → AreStepPositions shop lists blocks n old
    → (slots : List Slot) → slots ≡ get_or lists n []
    → AreNoted (length slots) (8 * get_or blocks n 0) (get_or blocks (n + 1) 0 - get_or blocks n 0) slots old new
    → AreStepPositions shop lists blocks (n + 1) new
positions_turn shop lists blocks n old new are known before slots is noted =
    grind (arith, cases_eq, slots_are_operations)

-- the positions of one more machine
pub machines_turn : (blocks : List ℕ) (n : ℕ) (old new : List ℕ) (to : ℕ) → AreMachinesOf blocks n old
    → to ≡ get_or blocks (n + 1) 0 → get_or blocks n 0 ≤ get_or blocks (n + 1) 0
    → ((m : ℕ) → m < n → get_or blocks m 0 ≤ get_or blocks (m + 1) 0)
    → length new ≡ 8 * to
    → ((k d : ℕ) → k < 8 * to → k < length old → get_or new k d ≡ get_or old k d)
    → ((k d : ℕ) → length old ≤ k → k < 8 * to → get_or new k d ≡ n)
    → AreMachinesOf blocks (n + 1) new
machines_turn blocks n old new to before is order orders long front behind =
    let positions = before.positions
    in record {
      positions = omega arith;
      known = λ q here. grind (arith, cases_lt);
      at = λ m q known low high. elim (cases_eq m n) [
        | inl e ↦ grind arith
        | inr ne ↦ (let within = rises (m + 1) (n - (m + 1)) n (omega arith) (omega arith)
            in let e = front q 0 (omega arith) (omega arith)
            in let b = before.at m q (omega arith) low high in omega arith)
      ];
    }
  where
    rises : (a d b : ℕ) → a + d ≡ b → b ≤ n → get_or blocks a 0 ≤ get_or blocks b 0
    rises a zero b e within = grind arith
    rises a (suc d) b e within = grind (arith, rises a d (a + d) refl)

module _ (shop : Shop) (limits : IsWithinLimits shop) (lists : List (List Slot)) (are : AreMachineSlots shop lists)
    (cells : List Slot) (blocks : List ℕ) (laid : AreCells lists shop.machines cells blocks) where
  -- which machine a cell belongs to
  machine_at : (k q : ℕ) → k ≤ shop.machines → q < 8 * get_or blocks k 0
      → (m : ℕ) × (m < shop.machines) × (8 * get_or blocks m 0 ≤ q) × (q < 8 * get_or blocks (m + 1) 0)
  machine_at zero q known below = absurd (let a = laid.from_0 in omega arith)
  machine_at (suc k) q known below = grind (arith, cases_lt, machine_at k q)

  -- where there are cells there is a job
  jobs_known : 0 < length cells → 0 < length shop.jobs
  jobs_known any = grind (arith, slots_are_operations)

  pub cells_known : All (λ s. (s.job < length shop.jobs) × (s.step < 100)) cells
  cells_known q d here =
      let whole = laid.whole
      in let at = machine_at shop.machines q (omega arith) (omega arith)
      in let m = at.0
      in let list = laid.each at.0 at.1
      in let slots = get_or lists at.0 []
      in let same = get_or_default cells q d no_slot here
      in let low = at.2 in let high = at.3
      in let r = rank_at blocks at.0 q low high
      in let i = r.rank
      in elim (cases_lt i (length slots)) [
        | inl l ↦ grind (arith, slots_are_operations shop at.0 slots (are.slots at.0 at.1) i no_slot l)
        | inr l ↦ grind (arith, jobs_known (omega arith))
      ]

  -- there are few blocks
  pub blocks_few : All (λ b. b ≤ 10000800) blocks
  blocks_few k d here = grind (arith, get_or_default blocks k d 0 here)

  column : (f : Slot → ℕ) → f no_slot ≡ 0 → (q : ℕ) → get_or (map f cells) q 0 ≡ f (get_or cells q no_slot)
  column f nil q = grind (arith, cases_lt, get_or-map, get_or_past, length-map)

  pub laid_out : (rows : List (List ℕ)) → AreStepPositions shop lists blocks shop.machines rows → (l : LayoutState)
      → l.jobs ≡ map (λ s. s.job) cells → l.steps ≡ map (λ s. s.step) cells → l.times ≡ map (λ s. s.time) cells
      → l.tails ≡ map (λ s. s.tail) cells → l.step_positions ≡ rows → l.blocks ≡ blocks
      → AreMachinesOf blocks shop.machines l.machines → IsLaidOut shop l
  laid_out rows known l jobs steps times tails positions is machines =
      grind (arith, column, length-map, cells_known, get_or-map)
