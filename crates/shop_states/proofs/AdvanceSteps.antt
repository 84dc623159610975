-- One more operation in the heads by position.
use Rattle.std.proofs.Common.{rules, ◌≡◌, ℕ, ◌+◌, ◌≤◌, ◌<◌, ◌^◌, inl, inr, List, [], ◌∷◌, ◌++◌, length, get_or, set}
use Rattle.std.proofs.{Common.{refl, sym, ◌∙◌, ap, subst, arith}, lemmas.Bool.{cases_eq, cases_lt, lt-ltb, le-ltb}}
use Rattle.std.proofs.lemmas.{Grind.get_or-set_at, List.{get_or-set_other, length-set}}
use Rattle.shop_lanes.specs.Rows.{Rows, with_head}
use Rattle.shop_model.specs.{Shop.{Shop, IsOperation, machine_of, time_of}, Word.{Placing, IsWord, placing, place_next}}
use Rattle.shop_model.proofs.{Placings.{IsNext, place_next-is}, Unders.{placing-snoc, next_operation, after_word}}
use Rattle.shop_bound.{specs.Heads.head_of, proofs.HeadTurns.ready_first}
use Rattle.shop_states.specs.inner.{LaneEnds.IsEndOf, LaneHeads.AreHeadsAt, LaneStates.AreHeadsInLanes}
use Rattle.shop_states.specs.inner.Raises.{AreFirst, AsksOwn, HasBlocks, IsLeastRaise, IsOnMachine, IsRaisable, Raises}
use Rattle.shop_states.proofs.RaisedHeads.{left, raisable, raised, has_blocks}
use Rattle.shop_layout.{specs.Positions.{LayoutState, position_of, first_position}, proofs.LaidPositions.is_position_of}

module _ {greatest : ℕ} {shop : Shop} {l : LayoutState} {rows : Rows} {w : List ℕ} (j : ℕ)
    (kept : AreHeadsInLanes greatest shop w l rows) (fits : IsWord shop (w ++ j ∷ [])) where
  abbrev pub before : Placing
  before = placing shop w

  abbrev pub after : Placing
  after = place_next shop before j

  pub next_is : IsNext shop before j after
  next_is = place_next-is shop before j

  pub first_left : IsOperation shop j (before.steps j)
  first_left = let a = next_operation shop w j fits in let b = (after_word shop w kept.word).steps j in omega arith

  pub machine_known : machine_of shop j (before.steps j) < shop.machines
  machine_known = kept.limits.on_machines j (before.steps j)

  -- the machine of its position
  pub machine_here : {q m : ℕ} → q ≡ position_of l j (before.steps j) → m ≡ get_or l.machines q 0
      → m ≡ machine_of shop j (before.steps j)
  machine_here is read =
      let a = is_position_of shop kept.limits l kept.laid j (before.steps j) first_left
      in let from = a.from in let to = a.to
      in read ∙ (ap (λ (x : ℕ). get_or l.machines x 0) is
      ∙ kept.laid.machines_at.at (machine_of shop j (before.steps j)) (position_of l j (before.steps j)) machine_known
      (omega arith) (omega arith))

  pub within : {q : ℕ} → q ≡ position_of l j (before.steps j) → q < length rows.heads
  within is = search (rules, is_position_of, first_left)

  -- what is read of it
  pub head_is : {q : ℕ} → q ≡ position_of l j (before.steps j) → get_or rows.heads q 0 ≡ head_of shop before j
      (before.steps j) + 1
  head_is is = grind (arith, first_left)

  pub time_is : {q : ℕ} → q ≡ position_of l j (before.steps j) → get_or rows.times q 0 ≡ time_of shop j (before.steps j)
  time_is {q} is = ap (λ (xs : List ℕ). get_or xs q 0) kept.times
      ∙ (ap (λ (x : ℕ). get_or l.times x 0) is
      ∙ (is_position_of shop kept.limits l kept.laid j (before.steps j) first_left).time)

  small : head_of shop before j (before.steps j) + time_of shop j (before.steps j) < greatest
  small = kept.fits w kept.word j (before.steps j) first_left (omega arith)

  pub end_small : {q h t : ℕ} → q ≡ position_of l j (before.steps j) → h ≡ get_or rows.heads q 0
      → t ≡ get_or rows.times q 0 → (h ≤ greatest) × (h + t ≤ greatest) × (h + t < 2 ^ 64)
  end_small {q} is read timed = grind (arith, head_is, time_is, small)

  pub end_is : {q h t : ℕ} → q ≡ position_of l j (before.steps j) → h ≡ get_or rows.heads q 0
      → t ≡ get_or rows.times q 0 → h + t ≡ after.free (machine_of shop j (before.steps j)) + 1
  end_is {q} is read timed = grind (arith, head_is, time_is, ready_first, next_is)

  pub next_fits : (i k : ℕ) → IsOperation shop i k → after.steps i ≤ k
      → head_of shop after i k + time_of shop i k < greatest
  next_fits i k op opened =
      let e = placing-snoc shop w j
      in let f : head_of shop (placing shop (w ++ j ∷ [])) i k ≡ head_of shop after i k =
      ap (λ (p : Placing). head_of shop p i k) e
      in let g : (placing shop (w ++ j ∷ [])).steps i ≡ after.steps i = ap (λ (p : Placing). p.steps i) e
      in let a = kept.fits (w ++ j ∷ []) fits i k op (omega arith)
      in omega arith

  module _ {q h t : ℕ} (is : q ≡ position_of l j (before.steps j)) (read : h ≡ get_or rows.heads q 0)
      (timed : t ≡ get_or rows.times q 0) {lifted : Rows} (wrote : lifted ≡ with_head rows q 0) {m : ℕ}
      (on : m ≡ machine_of shop j (before.steps j)) where
    lifted_heads : lifted.heads ≡ set rows.heads (position_of l j (before.steps j)) 0
    lifted_heads = ap (λ (r : Rows). r.heads) wrote ∙ ap (λ (x : ℕ). set rows.heads x 0) is

    lifted_times : lifted.times ≡ l.times
    lifted_times = ap (λ (r : Rows). r.times) wrote ∙ kept.times

    lifted_long : length lifted.heads ≡ first_position l shop.machines
    lifted_long = grind (arith, lifted_heads, length-set)

    pub lifted_blocks : HasBlocks l (length lifted.heads) m
    lifted_blocks = has_blocks kept.limits kept.laid m lifted_long
        (let a = machine_known in omega arith)

    lifted_ends : lifted.ends ≡ rows.ends
    lifted_ends = ap (λ (r : Rows). r.ends) wrote

    lifted_here : length lifted.heads ≡ length rows.heads
    lifted_here = lifted_long ∙ sym kept.heads.positions

    lifted_other : (x : ℕ) → (x ≡ q → ⊥) → get_or lifted.heads x 0 ≡ get_or rows.heads x 0
    lifted_other x ne = ap (λ (r : Rows). get_or r.heads x 0) wrote ∙ get_or-set_other rows.heads q x 0 0 ne

    lifted_none : (x : ℕ) → get_or rows.heads x 0 ≡ 0 → get_or lifted.heads x 0 ≡ 0
    lifted_none x none = grind (arith, cases_eq, get_or-set_at, within, lifted_other)

    module _ {nexts : List ℕ} (firsts : AreFirst l nexts rows.heads) (ends : length nexts ≤ length rows.ends) where
      lifted_firsts : AreFirst l nexts lifted.heads
      lifted_firsts = grind (arith, lifted_here, lifted_none)

      pub lifted_raisable : IsRaisable greatest l nexts lifted (IsOnMachine l m) (AsksOwn (h + t))
      lifted_raisable =
          subst (λ (x : ℕ). IsRaisable greatest l nexts lifted (IsOnMachine l x) (AsksOwn (h + t))) (sym on)
          (raisable kept.limits kept.laid next_is first_left (left kept.limits kept.laid next_is first_left kept.heads)
          (end_is is read timed) lifted_heads lifted_times lifted_firsts
          (let a = ap length lifted_ends in omega arith) kept.computable next_fits)

    module _ {nexts : List ℕ} {new : Rows}
        (raising : Raises greatest l nexts (IsOnMachine l m) (AsksOwn (h + t)) lifted new) where
      pub advanced_times : new.times ≡ rows.times
      advanced_times = raising.times ∙ ap (λ (r : Rows). r.times) wrote

      pub advanced_tails : new.tails ≡ rows.tails
      advanced_tails = raising.tails ∙ ap (λ (r : Rows). r.tails) wrote

      pub advanced_long : length new.ends ≡ length rows.ends
      advanced_long = raising.ends.long ∙ ap length lifted_ends

      pub advanced_others : (i : ℕ) → i < length nexts → (get_or nexts i 0 ≡ q → ⊥) → IsEndOf greatest nexts rows i
          → IsEndOf greatest nexts new i
      advanced_others i known ne was =
          let x = get_or nexts i 0
          in let head = lifted_other x ne
          in let time : get_or lifted.times x 0 ≡ get_or rows.times x 0 =
          ap (λ (r : Rows). get_or r.times x 0) wrote
          in let long = lifted_here
          in raising.ends.each i known (ap (λ (xs : List ℕ). get_or xs i 0) lifted_ends
          ∙ (was ∙ (elim (cases_lt x (length rows.heads)) [
            | inl lt ↦ grind (arith, lt-ltb)
            | inr ge ↦ rw (le-ltb x (length rows.heads) ge, le-ltb x (length lifted.heads) (omega arith)) refl
          ])))

      pub advanced : AreHeadsInLanes greatest shop (w ++ j ∷ []) l new
      advanced = record {
        limits = kept.limits;
        word = fits;
        laid = kept.laid;
        times = advanced_times ∙ kept.times;
        tails = advanced_tails ∙ kept.tails;
        fits = kept.fits;
        computable = kept.computable;
        heads = subst (λ (p : Placing). AreHeadsAt shop p l new.heads) (sym (placing-snoc shop w j))
            (raised kept.limits kept.laid next_is first_left (left kept.limits kept.laid next_is first_left
            kept.heads) (end_is is read timed)
            (subst (λ (x : ℕ). IsLeastRaise l (IsOnMachine l x) (AsksOwn (h + t))
            (set rows.heads (position_of l j (before.steps j)) 0)
            new.heads) on
            (subst (λ (xs : List ℕ). IsLeastRaise l (IsOnMachine l m) (AsksOwn (h + t)) xs new.heads) lifted_heads
            raising.raised)));
      }
