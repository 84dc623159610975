-- Where the conflict set is one job, its next operation leaves the bound as it is.
use Rattle.std.proofs.Common.{rules, ◌≡◌, ℕ, zero, suc, ◌+◌, ◌-◌, ◌≤◌, ◌<◌, inl, inr, List, [], ◌∷◌, ◌++◌, refl, sym}
use Rattle.std.proofs.{Common.{ap, subst, arith, eqb, ltb, true}, lemmas.Bool.{cases_eq, cases_lt, and_from, eq-eqb}}
use Rattle.std.{proofs.lemmas.Bool.{le-ltb, lt-ltb, or_left, or_right}, specs.List.best_of}
use Rattle.shop_model.specs.{Limits.IsWithinLimits, Shop.{Shop, IsOperation, machine_of}}
use Rattle.shop_model.specs.Word.{Placing, IsWord, placing, place_next}
use Rattle.shop_model.proofs.{Greatest.le-greatest_below, Placings.{IsNext, place_next-is}, Unders.after_word}
use Rattle.shop_bound.specs.{Bound.{waiting, triples_on, lb}, Heads.{ready_after, head_of}, OneMachine.one}
use Rattle.shop_bound.specs.Conflicts.{open_jobs, next_machine, next_head, next_end, chosen_of, conflicts_with}
use Rattle.shop_bound.{specs.Conflicts.{conflict, conflict_among, SoleCandidateKeepsBound}, proofs.HeadTurns.ready_more}
use Rattle.shop_bound.proofs.{BoundsRise.{bounds_rise, end-le-left}, Entries.IsWord-snoc, HeadsStay.head_stays}
use Rattle.shop_layout.specs.{Slots.AreMachineSlots, declared.slots.Slot.Slot}
use Rattle.shop_states.specs.inner.RisingLists.{IsIn}
use Rattle.shop_states.proofs.{ChildBounds.{child-le, raised_left}, LaneConflicts.{filter_in, is_open, open_is}}
use Rattle.shop_states.proofs.{Raising.one_between-none, LeftSlots.left_for, NextOperations.head_first}

-- what is chosen by least value
record IsLeastOf (f : ℕ → ℕ) (js : List ℕ) (c : ℕ) : Type 0 where
  member : IsIn js c
  least : (i : ℕ) → IsIn js i → f c ≤ f i

best_is_least : (f : ℕ → ℕ) (j : ℕ) (js : List ℕ) → IsLeastOf f (j ∷ js) (best_of (λ i b. ltb (f i) (f b)) j js)
best_is_least f j [] = grind arith
best_is_least f j (x ∷ xs) = grind (arith, cases_lt, lt-ltb, le-ltb, best_is_least f x xs, best_is_least f j xs)

-- Job j is in conflict with no other: its next operation ends first, and no other one can begin on its machine before.
record IsSole (shop : Shop) (p : Placing) (j : ℕ) : Type 0 where
  operation : IsOperation shop j (p.steps j)
  first : (i : ℕ) → IsOperation shop i (p.steps i) → next_end shop p j ≤ next_end shop p i
  late : (i : ℕ) → IsOperation shop i (p.steps i) → (i ≡ j → ⊥) → next_machine shop p i ≡ next_machine shop p j
      → next_end shop p j ≤ next_head shop p i

module _ (shop : Shop) (p : Placing) where
  sole_among : (j : ℕ) (js : List ℕ) → open_jobs shop p ≡ js → conflict_among shop p js ≡ j ∷ [] → IsSole shop p j
  sole_among j [] e alone = absurd (cc)
  sole_among j (a ∷ js) e alone =
      let c = chosen_of shop p a js
      in let chosen : IsLeastOf (next_end shop p) (a ∷ js) c = best_is_least (next_end shop p) a js
      in let only : (i : ℕ) → IsIn (a ∷ js) i → conflicts_with shop p c i ≡ true → i ≡ j = (λ i h t.
      elim (subst (λ (xs : List ℕ). IsIn xs i) alone (filter_in (conflicts_with shop p c) (a ∷ js) i h t)) [
        | inl s ↦ s
        | inr none ↦ absurd none
      ])
      in let is : c ≡ j = only c chosen.member (or_left (eqb c c) _ (eq-eqb c c refl))
      in let opened : (i : ℕ) → IsOperation shop i (p.steps i) → IsIn (a ∷ js) i = (λ i op.
      subst (λ (xs : List ℕ). IsIn xs i) e (is_open shop p i op))
      in subst (IsSole shop p) is (record {
        operation = (open_is shop p c (subst (λ (xs : List ℕ). IsIn xs c) (sym e) chosen.member)).1;
        first = λ i op. chosen.least i (opened i op);
        late = λ i op ne machine. grind (arith, cases_lt, or_right, and_from, eq-eqb, lt-ltb);
      })

  -- later steps of a job are ready at the end of its next one or later
  later_ready : (i d l : ℕ) → p.steps i + 1 + d ≡ l → next_end shop p i ≤ ready_after shop p i (l - p.steps i)
  later_ready i zero l e = grind (arith, ready_more, head_first)
  later_ready i (suc d) l e =
      let k = p.steps i + 1 + d
      in let before = later_ready i d k refl
      in let more = ready_more shop p i k (omega arith)
      in let f : k + 1 ≡ l = omega arith
      in let same = ap (λ (x : ℕ). ready_after shop p i (x - p.steps i)) f in omega arith

  -- so all else that waits for its machine has a head of at least its end
  module _ (j : ℕ) (sole : IsSole shop p j) (q : Placing) (n : IsNext shop p j q) where
    heads_late : (i k : ℕ) → IsOperation shop i k → q.steps i ≤ k → machine_of shop i k ≡ next_machine shop p j
        → next_end shop p j ≤ head_of shop p i k
    heads_late i k op opened on = elim (cases_eq i j) [
      | inl e ↦ (let a : p.steps i ≡ p.steps j = ap p.steps e in let b : q.steps i ≡ q.steps j = ap q.steps e
          in let c = n.steps_here
          in let later = later_ready i (k - p.steps i - 1) k (omega arith)
          in let same : next_end shop p i ≡ next_end shop p j = ap (next_end shop p) e in omega arith)
      | inr ne ↦ (let a = n.steps_other i ne
          in let op_next : IsOperation shop i (p.steps i) = omega arith
          in elim (cases_eq k (p.steps i)) [
            | inl f ↦ grind (arith, head_first)
            | inr later ↦ (let b = later_ready i (k - p.steps i - 1) k (omega arith)
                in let first = sole.first i op_next in omega arith)
          ])
    ]

    its_end : q.free (next_machine shop p j) ≡ next_end shop p j
    its_end = let a = n.free_here (next_machine shop p j) refl in let b = n.begins_here in omega arith

    heads_stay : (i k : ℕ) → IsOperation shop i k → q.steps i ≤ k → head_of shop q i k ≡ head_of shop p i k
    heads_stay i k op opened = grind (arith, head_stays, heads_late, its_end)

pub sole_keeps_bound : (shop : Shop) → IsWithinLimits shop → (slots : List (List Slot)) → AreMachineSlots shop slots
    → (w : List ℕ) → IsWord shop w → SoleCandidateKeepsBound shop w
sole_keeps_bound shop limits slots are w word j alone =
    let p = placing shop w
    in let q = place_next shop p j
    in let n : IsNext shop p j q = place_next-is shop p j
    in let sole = sole_among shop p j (open_jobs shop p) refl alone
    in let count = (after_word shop w word).steps j
    in let fits = IsWord-snoc shop w j word (omega arith)
    in let m = next_machine shop p j
    in let known = limits.on_machines j (p.steps j)
    in let left : (i : ℕ) → i < shop.machines → one (left_for shop slots q i) ≤ lb shop w = (λ i machine.
    let a = raised_left limits are w j fits i 1 0 machine
    (λ x k op on opened. inl (sym (heads_stay shop p j sole q n x k op opened)))
    in let c = one_between-none 1 0 (left_for shop slots q i) (omega arith) in omega arith)
    in let a = end-le-left shop limits p j q n sole.operation m refl
    in let b = le-greatest_below (λ i. one (triples_on i (waiting shop p))) shop.machines m known
    in let most = child-le limits are w j fits (lb shop w) (omega arith) (omega arith) left
    in let least = bounds_rise shop w (j ∷ []) limits fits
    in omega arith

-- the word goes on with it, and heads stay as they are
module _ (shop : Shop) (w : List ℕ) (word : IsWord shop w) (j : ℕ) (alone : conflict shop w ≡ j ∷ []) where
  its_sole : IsSole shop (placing shop w) j
  its_sole = sole_among shop (placing shop w) j (open_jobs shop (placing shop w)) refl alone

  pub sole_fits : IsWord shop (w ++ j ∷ [])
  sole_fits = let count = (after_word shop w word).steps j in let op = its_sole.operation
      in IsWord-snoc shop w j word (omega arith)

  pub sole_heads : (i k : ℕ) → IsOperation shop i k → (place_next shop (placing shop w) j).steps i ≤ k
      → head_of shop (place_next shop (placing shop w) j) i k ≡ head_of shop (placing shop w) i k
  sole_heads = search (rules, heads_stay, its_sole, place_next-is)
