-- Positions that are written one after another.
use Rattle.std.proofs.Common.{◌≡◌, ℕ, ◌+◌, ◌<◌, inl, inr, List, [], length, get_or, set, ◌∙◌, ap, arith}
use Rattle.std.proofs.lemmas.{Bool.cases_eq, List.{get_or-set_same, get_or-set_other, length-set, get_or_default}}
use Rattle.std.specs.List.{All}
use Rattle.shop_lanes.specs.Rows.{index_at_rank}
use Rattle.shop_layout.specs.{declared.slots.Slot.Slot, inner.Layings.{AreApart, AreNoted, IsInRows, no_slot}}
use Rattle.shop_layout.specs.Positions.{position_in}

module _ (now : List (List ℕ)) (j k x : ℕ) (job : j < length now) (step : k < length (get_or now j [])) where
  abbrev written : List (List ℕ)
  written = set now j (set (get_or now j []) k x)

  row_here : get_or written j [] ≡ set (get_or now j []) k x
  row_here = get_or-set_same now j (set (get_or now j []) k x) [] job

  position_here : position_in written j k ≡ x
  position_here = ap (λ (row : List ℕ). get_or row k 0) row_here ∙ get_or-set_same (get_or now j []) k x 0 step

  position_other : (i n : ℕ) → (i ≡ j → n ≡ k → ⊥) → position_in written i n ≡ position_in now i n
  position_other i n ne = grind (arith, cases_eq, row_here, get_or-set_other)

  row_long : (i : ℕ) → length (get_or written i []) ≡ length (get_or now i [])
  row_long i = grind (arith, cases_eq, row_here, length-set, get_or-set_other)

pub noted_more : (n first count : ℕ) (slots : List Slot) (old now new : List (List ℕ))
    → AreNoted n first count slots old now
    → n < length slots → AreApart slots → All (IsInRows old) slots → (x : ℕ) → x ≡ first + index_at_rank count n
    → new ≡ set now (get_or slots n no_slot).job (set (get_or now (get_or slots n no_slot).job [])
    (get_or slots n no_slot).step x)
    → AreNoted (n + 1) first count slots old new
noted_more n first count slots old now new before here apart rows x x_is is =
    let s = get_or slots n no_slot
    in let at = rows n no_slot here
    in let long = before.long
    in let row = before.rows s.job
    in let a = at.job
    in let b = at.step
    in let job : s.job < length now = omega arith
    in let step : s.step < length (get_or now s.job []) = omega arith
    in record {
      long = ap length is ∙ (length-set now s.job (set (get_or now s.job []) s.step x) ∙ long);
      rows = λ j. grind (arith, row_long);
      noted = λ i d below. elim (cases_eq i n) [
        | inl e ↦ grind (arith, get_or_default, position_here)
        | inr ne ↦ (let t = get_or slots i d
            in ap (λ (xs : List (List ℕ)). position_in xs t.job t.step) is
            ∙ (position_other now s.job s.step x job step t.job t.step
            (λ e f. apart i n d (omega arith) here
            (e ∙ ap (λ (u : Slot). u.job) (get_or_default slots n no_slot d here))
            (f ∙ ap (λ (u : Slot). u.step) (get_or_default slots n no_slot d here)))
            ∙ before.noted i d (omega arith)))
      ];
      others = λ j k none. grind (arith, position_other);
    }
