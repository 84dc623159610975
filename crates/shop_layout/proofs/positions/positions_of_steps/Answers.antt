use Rattle.std.{proofs.lemmas.{Bool.cases_eq, Grind.common_steps}, specs.{Prelude.Vec, declared.alloc.Global.Global}}
use Rattle.std.proofs.lemmas.List.{get_or_append_left, get_or_push, length-map, length_push, map-append}
use Rattle.std.proofs.Common.{◌≡◌, ◌∙◌, ℕ, ◌+◌, ◌-◌, ◌*◌, ◌<◌, List, [], get_or, length, map, sym, subst, arith}
use Rattle.shop_model.specs.Shop.{Shop}
use Rattle.shop_layout.specs.{declared.slots.Slot.Slot, Ranks.ranked, Slots.{AreMachineSlots, AreSlotsOf}}
use Rattle.shop_layout.specs.inner.Layings.{AreNoted, AreStepPositions}
use Rattle.shop_layout.proofs.{ApartSlots.slots_apart, LaidLists.positions_turn, SlotLists.items_read}
use Rattle.shop_layout.proofs.Written.{written_vec}
use Rattle.shop_layout.proofs.RankedSlots.{positions_asked, positions_ranked, rows_by_rank}
use Rattle.shop_layout.proofs.positions.positions_of_steps.Goals as goal

-- the slots at hand are those of machine m
at_hand : (lists : List (Vec Slot Global)) (m : ℕ) (item : Vec Slot Global) (slots : List Slot) → m < length lists
    → item ≡ get_or lists m item → slots ≡ item.items → slots ≡ get_or (map (λ v. v.items) lists) m []
at_hand lists m item slots here is e = e ∙ sym (items_read lists m item item here is)

known : (shop : Shop) (lists : List (Vec Slot Global)) → AreMachineSlots shop (map (λ v. v.items) lists) → (m : ℕ)
    → m < length lists → m < shop.machines
known shop lists are m here = let a = are.machines in omega (arith, length-map lists (λ v. v.items))

-- and they are slots of the machine
of_machine : (shop : Shop) (lists : List (Vec Slot Global)) → AreMachineSlots shop (map (λ v. v.items) lists) → (m : ℕ)
    → m < length lists → (slots : List Slot) → slots ≡ get_or (map (λ v. v.items) lists) m [] → AreSlotsOf shop m slots
of_machine shop lists are m here slots e = grind (arith, known shop lists are m here)

pub note_positions-requires-clause-rows : goal.note_positions-requires-clause-rows
note_positions-requires-clause-rows c = grind (arith, common_steps, at_hand, rows_by_rank, of_machine)

pub note_positions-requires-clause-apart : goal.note_positions-requires-clause-apart
note_positions-requires-clause-apart c =
    let shop = ranked c.requires.slots.0 c.args.instance.now in let m = c.loop-m.m
    in let slots = c.as_slice.result.now
    in let is = at_hand c.args.lists.now m c.index-lists-m.result slots c.loop-m-test.true c.index-lists-m.is
    c.as_slice.ensures.value
    in slots_apart shop m slots (of_machine shop c.args.lists.now c.requires.slots.1 m c.loop-m-test.true slots is)

pub note_positions-requires-clause-small : goal.note_positions-requires-clause-small
note_positions-requires-clause-small c = grind (arith, common_steps, at_hand, known)

pub loop-m-preserved : goal.loop-m-preserved
loop-m-preserved c =
    let ranks = c.requires.slots.0 in let shop = ranked ranks c.args.instance.now in let m = c.loop-m.m
    in let is = at_hand c.args.lists.now m c.index-lists-m.result c.as_slice.result.now c.loop-m-test.true
    c.index-lists-m.is c.as_slice.ensures.value
    in let whole = written_vec c.loop-m.step_positions c.as_mut_slice.result.now c.note_positions.new.step_positions
    c.as_mut_slice.ensures.value c.note_positions.ensures.long
    in let noted = subst (λ (vs : List (Vec ℕ Global)). AreNoted (length c.as_slice.result.now)
    (8 * get_or c.args.blocks.now m 0) (get_or c.args.blocks.now (m + 1) 0 - get_or c.args.blocks.now m 0)
    c.as_slice.result.now
    (map (λ v. v.items) vs) (map (λ v. v.items) c.note_positions.new.step_positions)) c.as_mut_slice.ensures.value
    c.note_positions.ensures.noted
    in subst (λ (vs : List (Vec ℕ Global)). AreStepPositions c.args.instance.now (map (λ v. v.items) c.args.lists.now)
    c.args.blocks.now (c.loop-m.m + 1) (map (λ v. v.items) vs)) (sym whole)
    (positions_asked ranks c.args.instance.now (map (λ v. v.items) c.args.lists.now) c.args.blocks.now (m + 1)
    (map (λ v. v.items) c.note_positions.new.step_positions)
    (positions_turn shop (map (λ v. v.items) c.args.lists.now) c.args.blocks.now m
    (map (λ v. v.items) c.loop-m.step_positions.items) (map (λ v. v.items) c.note_positions.new.step_positions)
    c.requires.slots.1 (known shop c.args.lists.now c.requires.slots.1 m c.loop-m-test.true)
    (positions_ranked ranks c.args.instance.now (map (λ v. v.items) c.args.lists.now) c.args.blocks.now m
    (map (λ v. v.items) c.loop-m.step_positions.items) c.loop-m.invariant) c.as_slice.result.now is noted))

pub bounds-blocks-m : goal.bounds-blocks-m
bounds-blocks-m c =
    let few = known (ranked c.requires.slots.0 c.args.instance.now) c.args.lists.now c.requires.slots.1 c.loop-m.m
    c.loop-m-test.true in let long = c.requires.blocks in omega arith

pub bounds-blocks-m-in-loop-m : goal.bounds-blocks-m-in-loop-m
bounds-blocks-m-in-loop-m c =
    let few = known (ranked c.requires.slots.0 c.args.instance.now) c.args.lists.now c.requires.slots.1 c.loop-m.m
    c.loop-m-test.true in let long = c.requires.blocks in omega arith

pub returns : goal.returns
returns c = grind (arith, length-map)

pub loop-j-preserved : goal.loop-j-preserved
loop-j-preserved c = grind (arith, cases_eq, length_push, length-map, map-append, get_or_append_left, get_or_push)

pub loop-m-init : goal.loop-m-init
loop-m-init c = grind (arith, common_steps)
