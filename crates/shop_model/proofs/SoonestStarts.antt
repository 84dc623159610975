-- In the table of a word each operation begins as soon as it can.
use Rattle.std.proofs.Common.{◌≡◌, ℕ, ◌≤◌, ◌<◌, max, inl, inr, List, [], ◌∷◌, ◌++◌, refl, ap, arith, cond, eqb}
use Rattle.std.proofs.lemmas.{Bool.cases_eq, List.Sums.sum_by-append}
use Rattle.shop_model.specs.{Shop.{Shop, machine_of, finish_of}, Word.{Placing, place_next, placing, count_of}}
use Rattle.shop_model.{specs.{Checking.earliest_of, Placed.{BeginsAsSoon, AllBeginAsSoon}}, proofs.Placings.IsNext}
use Rattle.shop_model.proofs.{Placings.{place_next-is, each_placed, steps_grow, earliest_old}, Unders.placing-snoc}
use Rattle.shop_model.proofs.{Unders.count_of-cut, WordLemmas.{snoc_induct, count_of-snoc_same, count_of-snoc_other}}
use Rattle.shop_model.proofs.WordLemmas.{cut_snoc}

-- what stands once w is placed: a job is ready where its last step ends, a machine is free at its last end, and each
-- entry began as soon as it could
record IsTight (shop : Shop) (w : List ℕ) (p : Placing) : Type 0 where
  pub steps : (i : ℕ) → p.steps i ≡ count_of i w
  pub ready : (i : ℕ) → p.ready i ≡ earliest_of shop p.begins i (p.steps i)
  pub free : (i l : ℕ) → l < p.steps i → finish_of shop p.begins i l ≤ p.free (machine_of shop i l)
  pub free_first : (m t : ℕ)
      → ((i l : ℕ) → l < p.steps i → machine_of shop i l ≡ m → finish_of shop p.begins i l ≤ t) → p.free m ≤ t
  pub entries : (v later : List ℕ) (j : ℕ) → w ≡ v ++ j ∷ later → BeginsAsSoon shop p.begins v j (count_of j v)

count_of-front : (v later : List ℕ) (i : ℕ) → count_of i v ≤ count_of i (v ++ later)
count_of-front v later i = let a = sum_by-append (λ x. cond (eqb x i) 1 0) v later in omega arith

module _ (shop : Shop) (w : List ℕ) (j : ℕ) (p q : Placing) (n : IsNext shop p j q) (a : IsTight shop w p) where
  counts : (i : ℕ) → q.steps i ≡ count_of i (w ++ j ∷ [])
  counts i = elim (cases_eq i j) [
    | inl e ↦ (let b = count_of-snoc_same w i j e in let c = n.steps_here
        in let d : q.steps i ≡ q.steps j = ap q.steps e in let f = a.steps i
        in let g : p.steps i ≡ p.steps j = ap p.steps e in omega arith)
    | inr ne ↦ (let b = count_of-snoc_other w i j ne in let c = n.steps_other i ne in let f = a.steps i in omega arith)
  ]

  ready_next : (i : ℕ) → q.ready i ≡ earliest_of shop q.begins i (q.steps i)
  ready_next i = grind (arith, cases_eq, earliest_old)

  -- where the new operation may begin
  start_here : q.begins j (p.steps j)
      ≡ max (earliest_of shop q.begins j (p.steps j)) (p.free (machine_of shop j (p.steps j)))
  start_here = grind (arith, earliest_old)

  free_next : (i l : ℕ) → l < q.steps i → finish_of shop q.begins i l ≤ q.free (machine_of shop i l)
  free_next = grind (arith, each_placed, cases_eq)

  free_first_next : (m t : ℕ)
      → ((i l : ℕ) → l < q.steps i → machine_of shop i l ≡ m → finish_of shop q.begins i l ≤ t) → q.free m ≤ t
  free_first_next m t h = grind (arith, cases_eq, steps_grow)

  -- the new operation begins as soon as it can
  new_entry : BeginsAsSoon shop q.begins w j (p.steps j)
  new_entry = record {
    after_job = let b = start_here in omega arith;
    after_machine = λ i l below same.
        let c : l < p.steps i = (let d = a.steps i in omega arith)
        in let d = a.free i l c in let e = n.begins_old i l c in let f = start_here
        in let g : p.free (machine_of shop i l) ≡ p.free (machine_of shop j (p.steps j)) = ap p.free same
        in omega arith;
    first = λ t job machine.
        let b = a.free_first (machine_of shop j (p.steps j)) t (λ i l below same.
        let c = machine i l (let d = a.steps i in omega arith) same in let d = n.begins_old i l below in omega arith)
        in let c = start_here in omega arith;
  }

  -- and the others began so
  old_entry : (v later : List ℕ) (i : ℕ) → w ≡ v ++ i ∷ later → BeginsAsSoon shop q.begins v i (count_of i v)
  old_entry v later i e =
      let b = a.entries v later i e
      in let here : count_of i v < p.steps i =
      (let c = count_of-cut v later i in let d : count_of i w ≡ count_of i (v ++ i ∷ later) = ap (count_of i) e
      in let f = a.steps i in omega arith)
      in let front : (x l : ℕ) → l < count_of x v → l < p.steps x = (λ x l h. let c = count_of-front v (i ∷ later) x
      in let d : count_of x w ≡ count_of x (v ++ i ∷ later) = ap (count_of x) e in let f = a.steps x in omega arith)
      in let start = n.begins_old i (count_of i v) here
      in let job = earliest_old shop p j q n i (count_of i v) (omega arith)
      in record {
        after_job = let c = b.after_job in omega arith;
        after_machine = λ x l below same. let c = b.after_machine x l below same
            in let d = n.begins_old x l (front x l below) in omega arith;
        first = λ t early machine. let c = b.first t (omega arith) (λ x l below same.
            let d = machine x l below same in let f = n.begins_old x l (front x l below) in omega arith) in omega arith;
      }

  tight_next : IsTight shop (w ++ j ∷ []) q
  tight_next = grind (arith, counts, ready_next, free_next, free_first_next, cut_snoc, new_entry, old_entry)

tight_none : (shop : Shop) → IsTight shop [] (placing shop [])
tight_none shop = record {
  steps = λ i. refl;
  ready = λ i. refl;
  free = λ i l h. absurd (omega arith);
  free_first = λ m t h. omega arith;
  entries = λ v later j e. absurd (nothing_cut v later j e);
}
  where
    nothing_cut : (v later : List ℕ) (j : ℕ) → [] ≡ v ++ j ∷ later → ⊥
    nothing_cut [] later j e = cc
    nothing_cut (x ∷ v) later j e = cc

tight_word : (shop : Shop) (w : List ℕ) → IsTight shop w (placing shop w)
tight_word shop = snoc_induct (λ w. IsTight shop w (placing shop w)) (tight_none shop)
    (λ w j before. rw placing-snoc (tight_next shop w j (placing shop w) (place_next shop (placing shop w) j)
    (place_next-is shop (placing shop w) j) before))

pub all_begin_as_soon : AllBeginAsSoon
all_begin_as_soon shop w v later j e = (tight_word shop w).entries v later j e
