-- What is left for a machine, by its slots: what waits for it, so the bound of a word.
use Rattle.std.proofs.Common.{rules, ◌≡◌, ℕ, zero, suc, ◌+◌, ◌-◌, ◌≤◌, ◌<◌, max, inl, inr, Bool, true, false, List, []}
use Rattle.std.proofs.{Common.{◌∷◌, length, get_or, map, refl, sym, ◌∙◌, ap, arith, eqb, leb}, lemmas.List.map-append}
use Rattle.std.proofs.lemmas.{Bool.{cases_Bool, cases_lt, le-leb, leb-true}, List.Elements.filter-append, Simd.map-map}
use Rattle.std.specs.List.{AllByRecursion, filter, flat_map, range_with_len}
use Rattle.shop_model.specs.{Limits.IsWithinLimits, Shop.{Shop, route_of, machine_of, greatest_below}}
use Rattle.shop_model.specs.Word.{Placing, IsWord, placing}
use Rattle.shop_bound.specs.{declared.triples.Triple.Triple, OneMachine.one, inner.NonincreasingTails.IsNonincreasing}
use Rattle.shop_bound.specs.{Bound.{Waiting, waiting, triples_on, lb}, Heads.{head_of, waiting_at, steps_left}}
use Rattle.shop_bound.proofs.{SameSums.{permuted_sums, filtered_sums, mapped_sums, same_one}, HeadWalks.waiting_is}
use Rattle.shop_bound.proofs.{LowerBounds.{greatest_below-equal, greatest_below-both}, PlacedEnds.placed_end-free}
use Rattle.shop_layout.specs.Slots.{slot_at, operations_in, operations_on, AreMachineSlots, AreSlotsOf}
use Rattle.shop_layout.specs.declared.slots.Slot.{Slot}

-- the operation isn't placed, and what the bound sees of it then
abbrev pub is_left : Placing → Slot → Bool
is_left p s = leb (p.steps s.job) s.step

abbrev pub triple_of : Shop → Placing → Slot → Triple
triple_of shop p s = record { head = head_of shop p s.job s.step; time = s.time; tail = s.tail }

abbrev pub left_of : Shop → Placing → List Slot → List Triple
left_of shop p slots = map (triple_of shop p) (filter (is_left p) slots)

-- what is left for machine m
abbrev pub left_for : Shop → List (List Slot) → Placing → ℕ → List Triple
left_for shop slots p m = left_of shop p (get_or slots m [])

filter_mapped : {A B : Type 0} (test : B → Bool) (g : A → B) (xs : List A)
    → filter test (map g xs) ≡ map g (filter (λ x. test (g x)) xs)
filter_mapped test g [] = refl
filter_mapped test g (x ∷ xs) = grind (arith, cases_Bool, filter_mapped test g xs)

flat_mapped : {A B : Type 0} (v : A → B) (test : A → Bool) (f : ℕ → List A) (js : List ℕ)
    → map v (filter test (flat_map f js)) ≡ flat_map (λ j. map v (filter test (f j))) js
flat_mapped v test f [] = refl
flat_mapped v test f (j ∷ js) = grind (arith, filter-append, map-append, flat_mapped v test f js)

filter_swap : {A : Type 0} (p q : A → Bool) (xs : List A) → filter p (filter q xs) ≡ filter q (filter p xs)
filter_swap p q [] = refl
filter_swap p q (x ∷ xs) = grind (arith, cases_Bool, filter_swap p q xs)

range_from : (s a n : ℕ) → filter (leb s) (range_with_len a n) ≡ range_with_len (max s a) (n - (s - a))
range_from s a zero = let e : zero - (s - a) ≡ zero = omega arith in sym (ap (range_with_len (max s a)) e)
range_from s a (suc n) =
    let rest = range_from s (a + 1) n
    in elim (cases_lt a s) [
      | inl l ↦ grind (arith, lt-not_leb)
      | inr h ↦ (let e : leb s a ≡ true = le-leb s a h
          in let f : max s (a + 1) ≡ a + 1 = omega arith
          in let g : n - (s - (a + 1)) ≡ n = omega arith
          in let p : max s a ≡ a = omega arith
          in let q : suc n - (s - a) ≡ suc n = omega arith
          in rw e (ap (λ xs. a ∷ xs) (rest ∙ ap (λ x. range_with_len x (n - (s - (a + 1)))) f
          ∙ ap (range_with_len (a + 1)) g)
          ∙ sym (ap (λ x. range_with_len x (suc n - (s - a))) p ∙ ap (range_with_len a) q)))
    ]
  where
    lt-not_leb : (s a : ℕ) → a < s → leb s a ≡ false
    lt-not_leb s a l = elim (cases_Bool (leb s a)) [
      | inl e ↦ absurd (let b = leb-true s a e in omega arith)
      | inr e ↦ e
    ]

module _ (shop : Shop) (p : Placing) (m : ℕ) where
  -- of one job, on the machine
  abbrev waiting_in : ℕ → List Triple
  waiting_in j = map (λ x. x.triple) (filter (λ x. eqb x.machine m) (map (waiting_at shop p j) (steps_left shop p j)))

  left_of_job : (j : ℕ) → left_of shop p (operations_in (route_of shop j) m j) ≡ waiting_in j
  left_of_job j =
      let n = length (route_of shop j)
      in let on : ℕ → Bool = λ k. eqb (machine_of shop j k) m
      in let slot : ℕ → Slot = slot_at (route_of shop j) j
      in let left = filter on (steps_left shop p j)
      in let zero_more : max (p.steps j) 0 ≡ p.steps j = omega arith
      in let zero_less : n - (p.steps j - 0) ≡ n - p.steps j = omega arith
      in let steps : filter (leb (p.steps j)) (filter on (range_with_len 0 n)) ≡ left =
      filter_swap (leb (p.steps j)) on (range_with_len 0 n)
      ∙ ap (filter on) (range_from (p.steps j) 0 n
      ∙ ap (λ x. range_with_len x (n - (p.steps j - 0))) zero_more ∙ ap (range_with_len (p.steps j)) zero_less)
      in ap (map (triple_of shop p))
      (filter_mapped (is_left p) slot (filter on (range_with_len 0 n)) ∙ ap (map slot) steps)
      ∙ map-map (triple_of shop p) slot left
      ∙ sym (map-map (λ (x : Waiting). x.triple) (waiting_at shop p j) left)
      ∙ ap (map (λ x. x.triple)) (sym (filter_mapped (λ x. eqb x.machine m) (waiting_at shop p j)
      (steps_left shop p j)))

  left_of_jobs : (js : List ℕ)
      → flat_map (λ j. left_of shop p (operations_in (route_of shop j) m j)) js ≡ flat_map waiting_in js
  left_of_jobs [] = refl
  left_of_jobs (j ∷ js) = grind (arith, left_of_job, left_of_jobs js)

  left_is_waiting : left_of shop p (operations_on shop m) ≡ triples_on m (waiting shop p)
  left_is_waiting = search (rules, flat_mapped, left_of_jobs, waiting_is)

  -- so slots in any order have the same bound
  left_one : (slots : List Slot) → AreSlotsOf shop m slots
      → one (left_of shop p slots) ≡ one (triples_on m (waiting shop p))
  left_one slots are = grind (arith, same_one, left_is_waiting, mapped_sums, filtered_sums, permuted_sums)

-- their tails fall
pub left_falls : (shop : Shop) (p : Placing) (slots : List Slot) → IsNonincreasing (λ s. s.tail) slots
    → IsNonincreasing (λ t. t.tail) (left_of shop p slots)
left_falls shop p [] h = tt
left_falls shop p (s ∷ slots) h = elim (cases_Bool (is_left p s)) [
  | inl e ↦ rw e (left_below s.tail slots h.0, left_falls shop p slots h.1)
  | inr e ↦ rw e (left_falls shop p slots h.1)
] where
  left_below : (b : ℕ) (slots : List Slot) → AllByRecursion (λ s. s.tail ≤ b) slots
      → AllByRecursion (λ t. t.tail ≤ b) (left_of shop p slots)
  left_below b [] h = tt
  left_below b (s ∷ slots) h = elim (cases_Bool (is_left p s)) [
    | inl e ↦ rw e (h.0, left_below b slots h.1)
    | inr e ↦ rw e (left_below b slots h.1)
  ]

-- the greater of when a machine is free and of the bound of what is left for it
abbrev pub part_of : Shop → List (List Slot) → Placing → ℕ → ℕ
part_of shop slots p m = max (p.free m) (one (left_for shop slots p m))

pub lb_by_parts : (shop : Shop) → IsWithinLimits shop → (slots : List (List Slot)) → AreMachineSlots shop slots
    → (w : List ℕ) → IsWord shop w → greatest_below shop.machines (part_of shop slots (placing shop w)) ≡ lb shop w
lb_by_parts shop limits slots are w word =
    let p = placing shop w
    in let left = λ (m : ℕ). one (triples_on m (waiting shop p))
    in let each : (m : ℕ) → m < shop.machines → part_of shop slots p m ≡ max (p.free m) (left m) =
    (λ m known. let b = left_one shop p m (get_or slots m []) (are.slots m known) in omega arith)
    in greatest_below-equal (part_of shop slots p) (λ m. max (p.free m) (left m)) shop.machines each
    ∙ (greatest_below-both p.free left shop.machines
    ∙ ap (λ (end : ℕ). max end (greatest_below shop.machines left)) (sym (placed_end-free shop w limits word)))
