-- Two jobs whose steps are in order, gone through together: what ends first is clear of what comes later.
use Rattle.std.proofs.Common.{◌≡◌, ℕ, zero, suc, ◌+◌, ◌≤◌, ◌<◌, ◌⊎◌, inl, inr, List, length, slice_index, arith}
use Rattle.std.proofs.{Common.add-one, lemmas.Bool.{cases_eq, cases_lt}}
use Rattle.shop_model.specs.{declared.ops.Op.Op, inner.Steps.{IsClear, KeepsOrder, machine_at, finish_at}}

-- the steps before k of one job are clear of all, and those before l of the other
abbrev pub ClearSoFar : List Op → List ℕ → List Op → List ℕ → ℕ → ℕ → Type 0
ClearSoFar route row others other_row k l = (m n : ℕ) → m < length route → n < length others → (m < k) ⊎ (n < l)
    → IsClear (machine_at route m) (slice_index row m) (finish_at route row m) others other_row n

-- a step ends before all later ones begin
pub in_order-later : (route : List Op) (row : List ℕ) → KeepsOrder route row → (k l : ℕ) → k < l → l < length route
    → finish_at route row k ≤ slice_index row l
in_order-later route row o k zero before op = absurd (omega arith)
in_order-later route row o k (suc l) before op = grind (arith, cases_eq, add-one, in_order-later route row o k l)

module _ (route : List Op) (row : List ℕ) (others : List Op) (other_row : List ℕ) (k l : ℕ)
    (far : ClearSoFar route row others other_row k l)
    (here : IsClear (machine_at route k) (slice_index row k) (finish_at route row k) others other_row l) where
  -- the step of the first job ends first
  pub clear_first : KeepsOrder others other_row → finish_at route row k ≤ finish_at others other_row l
      → ClearSoFar route row others other_row (k + 1) l
  clear_first o first m n op other before = elim (cases_lt m k) [
    | inl h ↦ far m n op other (inl h)
    | inr h ↦ elim (cases_lt n l) [
      | inl g ↦ far m n op other (inr g)
      | inr g ↦ elim before [
        | inl f ↦ (let e : m ≡ k = omega arith in elim (cases_eq n l) [
          | inl i ↦ rw (e, i) here
          | inr ne ↦ (λ _. inl (rw e (let a = in_order-later others other_row o l n (omega arith) other
              in omega arith)))
        ])
        | inr f ↦ absurd (omega arith)
      ]
    ]
  ]

  -- the step of the other job does
  pub clear_second : KeepsOrder route row → finish_at others other_row l < finish_at route row k
      → ClearSoFar route row others other_row k (l + 1)
  clear_second o first m n op other before = elim (cases_lt m k) [
    | inl h ↦ far m n op other (inl h)
    | inr h ↦ elim (cases_lt n l) [
      | inl g ↦ far m n op other (inr g)
      | inr g ↦ elim before [
        | inl f ↦ absurd (omega arith)
        | inr f ↦ (let e : n ≡ l = omega arith in elim (cases_eq m k) [
          | inl i ↦ rw (e, i) here
          | inr ne ↦ (λ _. inr (rw e (let a = in_order-later route row o k m (omega arith) op in omega arith)))
        ])
      ]
    ]
  ]
