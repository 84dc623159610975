-- The heads that a child of a word has, before any list of them is at hand.
use Rattle.std.proofs.Common.{◌≡◌, ℕ, zero, suc, ◌+◌, ◌≤◌, ◌<◌, inl, inr, List, [], ◌∷◌, ◌++◌, length, get_or, set}
use Rattle.std.proofs.{Common.{refl, ◌∙◌, ap, arith}, lemmas.{Bool.{cases_eq, cases_lt}, Grind.get_or-set_at}}
use Rattle.std.proofs.lemmas.List.{get_or_append_left, get_or_past, get_or-set_other, length-append}
use Rattle.std.proofs.Math.Seq.{get_or-append_seam}
use Rattle.shop_lanes.specs.Rows.{Rows}
use Rattle.shop_model.specs.{Shop.{Shop, IsOperation, machine_of}, Word.{IsWord, Placing, place_next, placing}}
use Rattle.shop_model.proofs.Unders.{placing-snoc}
use Rattle.shop_bound.{specs.Heads.head_of, proofs.HeadsStay.steps_rise}
use Rattle.shop_layout.specs.{HeadLimits.latest_end, Positions.{LayoutState, first_position, position_of}}
use Rattle.shop_layout.proofs.{LaidPositions.is_position_of, LatestEnds.latest_end_is}
use Rattle.shop_states.specs.inner.{LaneHeads.{AreHeadsAt, AreStored}, LaneStates.AreHeadsInLanes}
use Rattle.shop_states.specs.inner.Raises.{AreInRouteOrder, AsksOwn, IsOnMachine, IsRaised, at_in}
use Rattle.shop_states.proofs.{AdvanceSteps.{first_left, next_fits, next_is, within}, ChildReads.left_stored}
use Rattle.shop_states.proofs.RaisedHeads.{each_waiting, in_order, target, target_at, target_least}
use Rattle.shop_states.proofs.RaisedHeads.{target_none, target_raised}

-- the list of the first values of a function
abbrev values : (ℕ → ℕ) → ℕ → List ℕ
values f zero = []
values f (suc n) = values f n ++ f n ∷ []

length-values : (f : ℕ → ℕ) (n : ℕ) → length (values f n) ≡ n
length-values f zero = refl
length-values f (suc n) = let a = length-append (values f n) (f n ∷ []) in let b = length-values f n in omega arith

values_at : (f : ℕ → ℕ) (n i : ℕ) → i < n → get_or (values f n) i 0 ≡ f i
values_at f zero i within = absurd (omega arith)
values_at f (suc n) i within = let long = length-values f n in elim (cases_lt i n) [
  | inl before ↦ get_or_append_left (values f n) (f n ∷ []) 0 i (omega arith) ∙ values_at f n i before
  | inr last ↦ grind (arith, get_or-append_seam)
]

module _ {greatest : ℕ} {shop : Shop} {w : List ℕ} {l : LayoutState} {rows : Rows}
    (kept : AreHeadsInLanes greatest shop w l rows) (j : ℕ) (fits : IsWord shop (w ++ j ∷ [])) where
  pub its_within : position_of l j ((placing shop w).steps j) < length rows.heads
  its_within = within j kept fits refl

  pub struck_here : (q : ℕ) → q ≡ position_of l j ((placing shop w).steps j)
      → get_or (set rows.heads (position_of l j ((placing shop w).steps j)) 0) q 0 ≡ 0
  struck_here q e = get_or-set_at rows.heads (position_of l j ((placing shop w).steps j)) q 0 0 e its_within

  pub struck_other : (q : ℕ) → (q ≡ position_of l j ((placing shop w).steps j) → ⊥)
      → get_or (set rows.heads (position_of l j ((placing shop w).steps j)) 0) q 0 ≡ get_or rows.heads q 0
  struck_other q ne = get_or-set_other rows.heads (position_of l j ((placing shop w).steps j)) q 0 0 ne

  pub struck_low : (q : ℕ)
      → get_or (set rows.heads (position_of l j ((placing shop w).steps j)) 0) q 0 ≤ get_or rows.heads q 0
  struck_low q = grind (arith, cases_eq, struck_here, struck_other)

  stored : AreStored shop (place_next shop (placing shop w) j).steps (head_of shop (placing shop w)) l
      (set rows.heads (position_of l j ((placing shop w).steps j)) 0)
  stored = left_stored kept j fits

  -- the head of what is left at a position
  pub child_head : ℕ → ℕ
  child_head = target kept.limits kept.laid (next_is j kept fits) (first_left j kept fits) stored

  pub child_raised : IsRaised l (IsOnMachine l (machine_of shop j ((placing shop w).steps j)))
      (AsksOwn ((place_next shop (placing shop w) j).free (machine_of shop j ((placing shop w).steps j)) + 1))
      (at_in (set rows.heads (position_of l j ((placing shop w).steps j)) 0)) child_head
  unfolding child_head
  child_raised = target_raised kept.limits kept.laid (next_is j kept fits) (first_left j kept fits) stored refl

  pub struck_order : AreInRouteOrder l (at_in (set rows.heads (position_of l j ((placing shop w).steps j)) 0))
  struck_order = in_order kept.limits kept.laid (placing shop w) stored
      (steps_rise shop (placing shop w) j (place_next shop (placing shop w) j) (next_is j kept fits))

  nothing : (q : ℕ) → get_or (set rows.heads (position_of l j ((placing shop w).steps j)) 0) q 0 ≡ 0 → child_head q ≡ 0
  unfolding child_head
  nothing = target_none kept.limits kept.laid (next_is j kept fits) (first_left j kept fits) stored

  least_head : (other : ℕ → ℕ) → IsRaised l (IsOnMachine l (machine_of shop j ((placing shop w).steps j)))
      (AsksOwn ((place_next shop (placing shop w) j).free (machine_of shop j ((placing shop w).steps j)) + 1))
      (at_in (set rows.heads (position_of l j ((placing shop w).steps j)) 0)) other
      → (q : ℕ) → child_head q ≤ other q
  unfolding child_head
  least_head other raised =
      target_least kept.limits kept.laid (next_is j kept fits) (first_left j kept fits) stored refl raised

  head_at : (i k : ℕ) → IsOperation shop i k → (place_next shop (placing shop w) j).steps i ≤ k
      → child_head (position_of l i k) ≡ head_of shop (place_next shop (placing shop w) j) i k + 1
  unfolding child_head
  head_at = target_at kept.limits kept.laid (next_is j kept fits) (first_left j kept fits) stored

  -- what is so of each operation that is left is so where a head is
  each_left : (P : ℕ → Type 0) → ((i k : ℕ) → IsOperation shop i k
      → (place_next shop (placing shop w) j).steps i ≤ k → P (position_of l i k)) → (q : ℕ) → 0 < child_head q → P q
  each_left P each q some =
      elim (cases_eq (get_or (set rows.heads (position_of l j ((placing shop w).steps j)) 0) q 0) 0) [
        | inl none ↦ (let a = nothing q none in absurd (omega arith))
        | inr waits ↦ each_waiting kept.limits kept.laid stored P each q (omega arith)
      ]

  pub child_fits : (q : ℕ) → 0 < child_head q → child_head q + get_or l.times q 0 ≤ greatest
  child_fits = each_left (λ q. child_head q + get_or l.times q 0 ≤ greatest) (λ i k op opened.
      let head = head_at i k op opened in let time = (is_position_of shop kept.limits l kept.laid i k op).time
      in let fit = next_fits j kept fits i k op opened in omega arith)

  pub child_small : (q : ℕ) → child_head q ≤ latest_end shop + 1
  child_small q = elim (cases_lt 0 (child_head q)) [
    | inr none ↦ omega arith
    | inl some ↦ each_left (λ x. child_head x ≤ latest_end shop + 1) (λ i k op opened.
        let head = head_at i k op opened in let is = placing-snoc shop w j
        in let steps = ap (λ (p : Placing). p.steps i) is in let heads = ap (λ (p : Placing). head_of shop p i k) is
        in let low = latest_end_is shop (w ++ j ∷ []) fits i k op (omega arith) in omega arith) q some
  ]

  -- a list of these heads, and that any list of the child's heads has no greater ones than raised heads
  pub child_heads : List ℕ
  child_heads = values child_head (first_position l shop.machines)

  pub child_heads_are : AreHeadsAt shop (place_next shop (placing shop w) j) l child_heads
  unfolding child_heads
  child_heads_are =
      let n = first_position l shop.machines
      in record {
        positions = length-values child_head n;
        waiting = grind (arith, values_at, is_position_of, head_at);
        placed = λ i k op before.
            values_at child_head n (position_of l i k) (is_position_of shop kept.limits l kept.laid i k op).within
            ∙ nothing (position_of l i k) (stored.placed i k op before);
        padding = λ q free. grind (arith, cases_lt, values_at, nothing, stored, length-values, get_or_past);
      }

  pub heads_least : {now : List ℕ} → AreHeadsAt shop (place_next shop (placing shop w) j) l now → (other : ℕ → ℕ)
      → IsRaised l (IsOnMachine l (machine_of shop j ((placing shop w).steps j)))
      (AsksOwn ((place_next shop (placing shop w) j).free (machine_of shop j ((placing shop w).steps j)) + 1))
      (at_in (set rows.heads (position_of l j ((placing shop w).steps j)) 0)) other
      → (q : ℕ) → get_or now q 0 ≤ other q
  heads_least {now} are other raised q = elim (cases_lt 0 (get_or now q 0)) [
    | inr none ↦ omega arith
    | inl some ↦ each_waiting kept.limits kept.laid are (λ x. get_or now x 0 ≤ other x) (λ i k op opened.
        let is = are.waiting i k op opened in let head = head_at i k op opened
        in let least = least_head other raised (position_of l i k) in omega arith) q some
  ]
