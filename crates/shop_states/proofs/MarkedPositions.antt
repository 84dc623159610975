-- The positions at which something waits with a head below a limit, and the marks of these.
use Rattle.std.proofs.Common.{◌≡◌, ℕ, zero, suc, ◌+◌, ◌*◌, ◌-◌, ◌≤◌, ◌<◌, inl, inr, Bool, true, List, [], ◌∷◌, length}
use Rattle.std.proofs.Common.{get_or, take, drop, refl, ◌∙◌, ap, subst, arith, ltb}
use Rattle.std.proofs.lemmas.Bool.{cases_Bool, and_from, and_parts, lt-ltb, ltb-true}
use Rattle.std.proofs.lemmas.List.{get_or-take, get_or-drop, length-take-le, length-drop}
use Rattle.shop_lanes.specs.Marks.{marked, waits_below, positions_among}
use Rattle.shop_states.specs.inner.{RisingLists.{IsIn, Rises}, Raises.IsInBlocks}

module _ (p : ℕ → Bool) where
  pub marked_in : (at : ℕ) (xs : List ℕ) (i : ℕ) → i < length xs → p (get_or xs i 0) ≡ true
      → IsIn (marked p at xs) (at + i)
  marked_in at [] i below is = absurd (omega arith)
  marked_in at (x ∷ xs) zero below is = rw is (inl (omega arith))
  marked_in at (x ∷ xs) (suc i) below is = grind (arith, cases_Bool, marked_in (at + 1) xs i (omega arith) is)

  abbrev IsMarked : ℕ → List ℕ → ℕ → Type 0
  IsMarked at xs q = (i : ℕ) × (i < length xs) × (q ≡ at + i) × (p (get_or xs i 0) ≡ true)

  later : (at : ℕ) (x : ℕ) (xs : List ℕ) (q : ℕ) → IsMarked (at + 1) xs q → IsMarked at (x ∷ xs) q
  later at x xs q m = (suc m.0, (let a = m.1 in omega arith), (let a = m.2 in omega arith), m.3)

  pub marked_out : (at : ℕ) (xs : List ℕ) (q : ℕ) → IsIn (marked p at xs) q → IsMarked at xs q
  marked_out at [] q h = absurd h
  marked_out at (x ∷ xs) q h = elim (cases_Bool (p x)) [
    | inl t ↦ elim (rw t at h) [
      | inl e ↦ (zero, omega arith, omega arith, t)
      | inr rest ↦ later at x xs q (marked_out (at + 1) xs q rest)
    ]
    | inr t ↦ later at x xs q (marked_out (at + 1) xs q (rw t at h))
  ]

  pub marked_rises : (at : ℕ) (xs : List ℕ) → Rises (marked p at xs)
  marked_rises at [] = tt
  marked_rises at (x ∷ xs) = grind (arith, cases_Bool, marked_out, marked_rises (at + 1) xs)

pub among_same : (heads : List ℕ) {from to first behind : ℕ} (limit : ℕ) → from ≡ first → to ≡ behind
    → positions_among heads from to limit ≡ positions_among heads first behind limit
among_same heads limit begins ends = rw (begins, ends) refl

-- the positions of some blocks at which something waits below a limit
pub record IsBelow (heads : List ℕ) (from to limit q : ℕ) : Type 0 where
  pub there : IsInBlocks from to q
  pub waits : 0 < get_or heads q 0
  pub below : get_or heads q 0 < limit

module _ (heads : List ℕ) (from to limit : ℕ) (ordered : from ≤ to) (within : 8 * to ≤ length heads) where
  abbrev part : List ℕ
  part = take (8 * to - 8 * from) (drop (8 * from) heads)

  part_long : length part ≡ 8 * to - 8 * from
  part_long = grind (arith, length-take-le, length-drop)

  part_at : (i : ℕ) → i < 8 * to - 8 * from → get_or part i 0 ≡ get_or heads (8 * from + i) 0
  part_at i below = grind (arith, get_or-take, get_or-drop)

  pub below_is_in : (q : ℕ) → IsBelow heads from to limit q → IsIn (positions_among heads from to limit) q
  below_is_in q is =
      let i = q - 8 * from
      in let a = is.there.0 in let b = is.there.1
      in let e_q : 8 * from + i ≡ q = omega arith
      in let same = part_at i (omega arith) ∙ ap (λ (x : ℕ). get_or heads x 0) e_q
      in let waits = is.waits in let below = is.below
      in let long = part_long
      in subst (IsIn (marked (waits_below limit) (8 * from) part)) e_q
      (marked_in (waits_below limit) (8 * from) part i (omega arith)
      (and_from (ltb 0 (get_or part i 0)) (ltb (get_or part i 0) limit) (lt-ltb 0 (get_or part i 0) (omega arith))
      (lt-ltb (get_or part i 0) limit (omega arith))))

  pub in_is_below : (q : ℕ) → IsIn (positions_among heads from to limit) q → IsBelow heads from to limit q
  in_is_below q h = grind (arith, marked_out, part_long, part_at, and_parts, ltb-true)

  pub below_rises : Rises (positions_among heads from to limit)
  below_rises = marked_rises (waits_below limit) (8 * from) part
