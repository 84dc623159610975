use Rattle.std.proofs.Common.{◌≡◌, ◌∙◌, ℕ, ◌+◌, ◌-◌, ◌≤◌, ◌<◌, List, length, map, refl, ap, sym, subst, arith}
use Rattle.std.{proofs.lemmas.List.length-map, specs.{List.All, Prelude.Vec, declared.alloc.Global.Global}}
use Rattle.shop_model.specs.{Limits.IsWithinLimits, Shop.Shop}
use Rattle.shop_layout.specs.{declared.slots.Slot.Slot, Ranks.{AreRanks, ranked}, Slots.AreMachineSlots}
use Rattle.shop_layout.specs.inner.Layings.{AreCells, AreStepPositions, AreShorter, HaveRoom}
use Rattle.shop_layout.{specs.Positions.AreMachinesOf, proofs.RankedShops.{jobs_ranked, limits_ranked}}
use Rattle.shop_layout.proofs.{LaidLists.{blocks_few, cells_known, laid_out, machine_few}, RankedSlots.positions_ranked}
use Rattle.shop_layout.proofs.positions.Positions.new.Goals as goal

-- the slots of the machines, as they were lent, and the cells that they make
module _ {shop : Shop} (limits : IsWithinLimits shop) {ranks : List ℕ} (by : AreRanks shop.machines ranks)
    {lists now : List (Vec Slot Global)} (lent : now ≡ lists)
    (made : AreMachineSlots (ranked ranks shop) (map (λ v. v.items) lists)) where
  within : IsWithinLimits (ranked ranks shop)
  within = limits_ranked ranks shop limits by

  are : AreMachineSlots (ranked ranks shop) (map (λ v. v.items) now)
  are = grind arith

  short : AreShorter 100000 (map (λ v. v.items) now)
  short = machine_few (ranked ranks shop) within (map (λ v. v.items) now) are

  module _ {cells : List Slot} {blocks : List ℕ}
      (given : AreCells (map (λ v. v.items) now) (length now) cells blocks) where
    laid : AreCells (map (λ v. v.items) now) shop.machines cells blocks
    laid = grind (arith, length-map, are)

    few : All (λ b. b ≤ 10000800) blocks
    few = blocks_few (ranked ranks shop) within (map (λ v. v.items) now) are cells blocks laid

    known : {read : List Slot} → read ≡ cells → All (λ s. (s.job < length shop.jobs) × (s.step < 100)) read
    known e =
        subst (All (λ s. (s.job < length shop.jobs) × (s.step < 100))) (sym e)
        (subst (λ (n : ℕ). All (λ s. (s.job < n) × (s.step < 100)) cells) (jobs_ranked ranks shop)
        (cells_known (ranked ranks shop) within (map (λ v. v.items) now) are cells blocks laid))

    job_small : {read : List Slot} → read ≡ cells → All (λ s. s.job < 4294967296) read
    job_small e = λ k d here. let b = known e k d here in let j = limits.jobs in omega arith

    step_small : {read : List Slot} → read ≡ cells → All (λ s. s.step < 4294967296) read
    step_small e = λ k d here. let b = known e k d here in omega arith

    slots_small : {read : List Slot} → read ≡ cells → length read < 4294967296
    slots_small e = let l = ap length e in let n = laid.few in let m = limits.machines in omega arith

    room_in : {again : List (Vec Slot Global)} → again ≡ lists → {read : List ℕ} → read ≡ blocks
        → HaveRoom (map (λ v. v.items) again) shop.machines read
    room_in {again} more e = subst (HaveRoom (map (λ v. v.items) again) shop.machines) (sym e)
        (subst (λ (vs : List (Vec Slot Global)). HaveRoom (map (λ v. v.items) vs) shop.machines blocks)
        (lent ∙ sym more) (λ m here. (laid.each m here).room))

pub cells_of-requires-clause-short : goal.cells_of-requires-clause-short
cells_of-requires-clause-short c = grind (arith, short)

pub positions_of_steps-requires-clause-slots : goal.positions_of_steps-requires-clause-slots
positions_of_steps-requires-clause-slots c = grind (arith, are)

pub positions_of_steps-requires-clause-few : goal.positions_of_steps-requires-clause-few
positions_of_steps-requires-clause-few c = grind (arith, few)

pub jobs_of-requires : goal.jobs_of-requires
jobs_of-requires c =
    job_small c.keeps_limits.ensures c.requires c.as_slice.ensures.value c.in_ok-lists.ensures
    c.in_ok-slots.ensures c.as_slice-slots.ensures.value

pub steps_of-requires : goal.steps_of-requires
steps_of-requires c =
    step_small c.keeps_limits.ensures c.requires c.as_slice.ensures.value c.in_ok-lists.ensures
    c.in_ok-slots.ensures c.as_slice-slots.ensures.value

pub machines_of-requires : goal.machines_of-requires
machines_of-requires c =
    let cells = laid c.keeps_limits.ensures c.requires c.as_slice.ensures.value c.in_ok-lists.ensures
    c.in_ok-slots.ensures
    in let long = cells.machines
    in let many = c.keeps_limits.ensures.machines
    in grind (arith, few)

-- the lists that were lent, as they are
machines_are : (lent blocks : List ℕ) → lent ≡ blocks → (n : ℕ) → length blocks ≡ n + 1 → (ms : List ℕ)
    → AreMachinesOf lent (length lent - 1) ms → AreMachinesOf blocks n ms
machines_are lent blocks e n long ms are = grind arith

pub returns : goal.returns
returns c =
    let shop = ranked c.args.ranks.now c.args.instance.now
    in let slots = c.in_ok-slots.field-0.slots.items
    in let blocks = c.in_ok-slots.field-0.blocks.items
    in let rows = map (λ v. v.items) c.in_ok-step_positions.step_positions.items
    in let cells = laid c.keeps_limits.ensures c.requires c.as_slice.ensures.value c.in_ok-lists.ensures
    c.in_ok-slots.ensures
    in laid_out shop (within c.keeps_limits.ensures c.requires c.as_slice.ensures.value c.in_ok-lists.ensures)
    (map (λ v. v.items) c.as_slice.result.now)
    (are c.keeps_limits.ensures c.requires c.as_slice.ensures.value c.in_ok-lists.ensures) slots blocks cells rows
    (subst (λ (bs : List ℕ). AreStepPositions shop (map (λ v. v.items) c.as_slice.result.now) bs shop.machines rows)
    c.as_slice-3.ensures.value
    (subst (λ (vs : List (Vec Slot Global)). AreStepPositions shop (map (λ v. v.items) vs) c.as_slice-3.result.now
    shop.machines rows)
    (c.as_slice-2.ensures.value ∙ sym c.as_slice.ensures.value)
    (positions_ranked c.args.ranks.now c.args.instance.now (map (λ v. v.items) c.as_slice-2.result.now)
    c.as_slice-3.result.now shop.machines rows c.in_ok-step_positions.ensures)))
    (record {
      jobs = c.in_ok-jobs_of.field-0.items;
      steps = c.in_ok-steps_of.field-0.items;
      times = c.in_ok-collect.field-0.items;
      tails = c.in_ok-collect-2.field-0.items;
      step_positions = rows;
      blocks = blocks;
      machines = c.in_ok-machines_of.field-0.items;
    })
    (c.in_ok-jobs_of.ensures ∙ ap (map (λ s. s.job)) c.as_slice-slots.ensures.value)
    (c.in_ok-steps_of.ensures ∙ ap (map (λ s. s.step)) c.as_slice-slots.ensures.value)
    (grind arith)
    (grind arith)
    refl refl
    (machines_are c.as_slice-4.result.now blocks c.as_slice-4.ensures.value shop.machines
    cells.machines c.in_ok-machines_of.field-0.items c.in_ok-machines_of.ensures)

pub invariant_of-result : goal.invariant_of-result
invariant_of-result c =
    let small = slots_small c.keeps_limits.ensures c.requires c.as_slice.ensures.value c.in_ok-lists.ensures
    c.in_ok-slots.ensures c.as_slice-slots.ensures.value
    in let long = ap length c.in_ok-jobs_of.ensures ∙ length-map c.as_slice-slots.result.now _ in omega arith

pub positions_of_steps-requires-clause-room : goal.positions_of_steps-requires-clause-room
positions_of_steps-requires-clause-room c =
    room_in c.keeps_limits.ensures c.requires c.as_slice.ensures.value c.in_ok-lists.ensures c.in_ok-slots.ensures
    c.as_slice-2.ensures.value c.as_slice-3.ensures.value

pub positions_of_steps-requires-clause-blocks : goal.positions_of_steps-requires-clause-blocks
positions_of_steps-requires-clause-blocks c = ap length c.as_slice-3.ensures.value
    ∙ (laid c.keeps_limits.ensures c.requires c.as_slice.ensures.value c.in_ok-lists.ensures
    c.in_ok-slots.ensures).machines
