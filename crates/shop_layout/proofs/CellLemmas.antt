-- The lists of the machines one after another, each down the columns of its blocks.
use Rattle.std.proofs.Common.{◌≡◌, ℕ, ◌+◌, ◌-◌, ◌*◌, ◌/◌, ◌%◌, ◌≤◌, ◌<◌, List, [], ◌∷◌, ◌++◌, length, get_or, sym}
use Rattle.std.proofs.{Common.{◌∙◌, ap, arith}, lemmas.{Bool.cases_eq, Grind.div_ceil_times, List.get_or_append_left}}
use Rattle.std.proofs.{lemmas.List.{get_or_default, get_or_past, length-append}, Math.Seq.get_or-append_seam}
use Rattle.std.specs.Int.{div_ceil}
use Rattle.shop_lanes.{specs.Rows.index_at_rank, proofs.Columns.{index_fits, rank_of_index}}
use Rattle.shop_layout.specs.{declared.slots.Slot.Slot, Positions.position_at_rank, inner.Layings.{AreAdded, AreCells}}
use Rattle.shop_layout.{specs.inner.Layings.{AreShorter, no_slot}, proofs.Ranks.position_within}

-- one more list
pub cells_more : (lists : List (List Slot)) (n : ℕ) (cells : List Slot) (blocks : List ℕ)
    → AreCells lists n cells blocks
    → AreShorter 100000 lists → (slots : List Slot) → slots ≡ get_or lists n [] → (count : ℕ)
    → length slots ≤ 8 * count → 8 * count < length slots + 8
    → (more : List Slot) → AreAdded slots count (8 * count) cells more → (last : ℕ) → 8 * last ≡ length more
    → (after : List ℕ) → after ≡ blocks ++ last ∷ [] → AreCells lists (n + 1) more after
cells_more lists n cells blocks before short slots are count low high more added last whole after noted =
    let long = added.long
    in let many = before.machines
    in let old : (m : ℕ) → m ≤ n → get_or after m 0 ≡ get_or blocks m 0 =
    (λ m below. ap (λ (xs : List ℕ). get_or xs m 0) noted ∙ get_or_append_left blocks (last ∷ []) 0 m (omega arith))
    in let new : get_or after (n + 1) 0 ≡ last =
    ap (λ (xs : List ℕ). get_or xs (n + 1) 0) noted
    ∙ (ap (λ (k : ℕ). get_or (blocks ++ last ∷ []) k 0) (sym many) ∙ get_or-append_seam blocks last [] 0)
    in let full = before.whole
    in let its : get_or after (n + 1) 0 - get_or after n 0 ≡ count =
    (let a = old n (omega arith) in let b = new in omega arith)
    -- what stands at a rank
    in let stands : (i : ℕ) → i < 8 * count
    → get_or more (position_at_rank after n i) no_slot ≡ get_or slots i no_slot =
    (λ i here. let index = index_at_rank count i
    in let fits = index_fits count i here
    in let rank : index % 8 * count + index / 8 ≡ i = rank_of_index count i here
    in let first : 8 * get_or after n 0 ≡ length cells = (let a = old n (omega arith) in omega arith)
    in let there : position_at_rank after n i ≡ length cells + index =
    ap (λ (k : ℕ). 8 * get_or after n 0 + index_at_rank k i) its ∙ ap (λ (k : ℕ). k + index) first
    in ap (λ (q : ℕ). get_or more q no_slot) there
    ∙ (added.at index fits ∙ ap (λ (k : ℕ). get_or slots k no_slot) rank))
    in grind (arith, length-append, cases_eq, get_or_default, get_or_past, position_within)

-- a number of cells in whole blocks
pub count_bounds : (a count : ℕ) → count ≡ div_ceil a 8 → (a ≤ 8 * count) × (8 * count < a + 8)
count_bounds a count is = let t = div_ceil_times a 8 (omega arith) in (omega arith, omega arith)

module _ (lists : List (List Slot)) (n : ℕ) (cells : List Slot) (blocks : List ℕ)
    (before : AreCells lists n cells blocks)
    (short : AreShorter 100000 lists) (slots : List Slot) (are : slots ≡ get_or lists n []) (count : ℕ)
    (whole : count ≡ div_ceil (length slots) 8)
  where
    module _ (more : List Slot) (added : AreAdded slots count (8 * count) cells more) (last : ℕ)
        (last_is : last ≡ length more / 8) where
      eights : 8 * last ≡ length more
      eights = let a = added.long in let b = before.whole in omega arith

      pub cells_turn : (after : List ℕ) → after ≡ blocks ++ last ∷ [] → AreCells lists (n + 1) more after
      cells_turn after noted =
          let bounds = count_bounds (length slots) count whole
          in cells_more lists n cells blocks before short slots are count bounds.0 bounds.1 more added last eights
          after noted
