-- The start word is full.
use Rattle.std.proofs.Common.{◌≡◌, ℕ, zero, suc, ◌+◌, ◌≤◌, ◌<◌, ◌⊎◌, inl, inr, cond, List, ◌∷◌, length, refl, ap, arith}
use Rattle.std.proofs.{Common.eqb, lemmas.{Bool.{cases_lt, Decides.eqb_tells}, List.{get_or_past, Sums.sum_by-cons}}}
use Rattle.std.{proofs.lemmas.List.Sums.sum_by-append, specs.{Prelude.replicate, List.{flat_map, range_with_len}}}
use Rattle.shop_model.specs.{Shop.{Shop, ShopJob, no_job, route_of}, Word.{count_of, IsFull, start_jobs}}

count-replicate : (j i n : ℕ) → count_of j (replicate n i) ≡ cond (eqb i j) n 0
count-replicate j i zero = elim (eqb_tells i j) [ inl e ↦ rw e.0 refl | inr e ↦ rw e.0 refl ]
count-replicate j i (suc n) =
    let a : count_of j (i ∷ replicate n i) ≡ cond (eqb i j) 1 0 + count_of j (replicate n i) =
    sum_by-cons (λ x. cond (eqb x j) 1 0) i (replicate n i)
    in let b = count-replicate j i n
    in grind (arith, eqb_tells)

module _ (shop : Shop) where
  from_jobs : ℕ → ℕ → List ℕ
  from_jobs a n = flat_map (λ j. replicate (length (route_of shop j)) j) (range_with_len a n)

  module _ where
    count-cons : (j a n : ℕ) → count_of j (from_jobs a (suc n)) ≡ cond (eqb a j)
        (length (route_of shop a)) 0 + count_of j (from_jobs (a + 1) n)
    unfolding from_jobs
    count-cons j a n = grind (arith, sum_by-append, from_jobs, count-replicate)

    outside : (j a n : ℕ) → (j < a) ⊎ (a + n ≤ j) → count_of j (from_jobs a n) ≡ 0
    unfolding from_jobs
    outside j a zero h = refl
    outside j a (suc n) h = elim (eqb_tells a j) [
      | inl e ↦ (let f = e.1 in elim h [ inl k ↦ absurd (omega arith) | inr k ↦ absurd (omega arith) ])
      | inr e ↦ (let c = count-cons j a n
          in let d : cond (eqb a j) (length (route_of shop a)) 0 ≡ 0 = ap (λ t. cond t (length (route_of shop a)) 0) e.0
          in let r = outside j (a + 1) n (elim h [ inl k ↦ inl (omega arith) | inr k ↦ inr (omega arith) ])
          in omega arith)
    ]

    inside : (j a n : ℕ) → a ≤ j → j < a + n → count_of j (from_jobs a n) ≡ length (route_of shop j)
    unfolding from_jobs
    inside j a zero h k = absurd (omega arith)
    inside j a (suc n) h k = let c = count-cons j a n in elim (eqb_tells a j) [
      | inl e ↦ (let f = e.1
          in let d : cond (eqb a j) (length (route_of shop a)) 0 ≡ length (route_of shop a) =
          ap (λ t. cond t (length (route_of shop a)) 0) e.0
          in let r = outside j (a + 1) n (inl (omega arith))
          in let g : length (route_of shop a) ≡ length (route_of shop j) = ap (λ i. length (route_of shop i)) f
          in omega arith)
      | inr e ↦ grind (arith, cases_lt, inside j (a + 1) n)
    ]

  pub start_full : IsFull shop (start_jobs shop)
  unfolding from_jobs
  start_full j = elim (cases_lt j (length shop.jobs)) [
    | inl h ↦ inside j 0 (length shop.jobs) (omega arith) (omega arith)
    | inr h ↦ (let c : length (route_of shop j) ≡ 0 =
        ap (λ (job : ShopJob). length job.route) (get_or_past shop.jobs j no_job h)
        in let r = outside j 0 (length shop.jobs) (inr (omega arith)) in omega arith)
  ]
