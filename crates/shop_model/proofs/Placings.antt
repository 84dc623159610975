-- What holds of a placing, and of a table that completes it.
use Rattle.std.proofs.Common.{◌≡◌, ℕ, ◌+◌, ◌≤◌, ◌<◌, max, ◌⊎◌, inl, inr, refl, rules, sym, ap, subst, arith, add-one}
use Rattle.std.proofs.{Common.{cond, ltb}, lemmas.Bool.{cases_eq, cases_lt, le-ltb, lt-ltb}}
use Rattle.shop_model.specs.{Shop.{Shop, Starts, machine_of, IsOperation, IsFeasible, finish_of, end_of}, Word.Placing}
use Rattle.shop_model.{specs.{Word.place_next, Checking.{earliest_of, NoneEarly}}, proofs.Ends.AreDifferent}
use Rattle.shop_model.proofs.Ends.{le-end_of, end_of-le, feasible-in_time, feasible_from}

-- one more step of job j is placed
pub record IsNext (shop : Shop) (p : Placing) (j : ℕ) (q : Placing) : Type 0 where
  pub steps_here : q.steps j ≡ p.steps j + 1
  pub steps_other : (i : ℕ) → (i ≡ j → ⊥) → q.steps i ≡ p.steps i
  pub begins_here : q.begins j (p.steps j) ≡ max (p.ready j) (p.free (machine_of shop j (p.steps j)))
  pub begins_old : (i l : ℕ) → l < p.steps i → q.begins i l ≡ p.begins i l
  pub ready_here : q.ready j ≡ finish_of shop q.begins j (p.steps j)
  pub ready_other : (i : ℕ) → (i ≡ j → ⊥) → q.ready i ≡ p.ready i
  pub free_here : (m : ℕ) → m ≡ machine_of shop j (p.steps j) → q.free m ≡ finish_of shop q.begins j (p.steps j)
  pub free_other : (m : ℕ) → (m ≡ machine_of shop j (p.steps j) → ⊥) → q.free m ≡ p.free m

next_start : Shop → Placing → ℕ → ℕ
next_start shop p j = max (p.ready j) (p.free (machine_of shop j (p.steps j)))

pub place_next-is : (shop : Shop) (p : Placing) (j : ℕ) → IsNext shop p j (place_next shop p j)
unfolding next_start
place_next-is shop p j = grind arith

-- a placing that keeps releases, routes and machines among what it has placed
pub record IsSound (shop : Shop) (p : Placing) : Type 0 where
  pub operations : (i l : ℕ) → l < p.steps i → IsOperation shop i l
  pub in_time : (i l : ℕ) → l < p.steps i → earliest_of shop p.begins i l ≤ p.begins i l
  pub ready : (i : ℕ) → earliest_of shop p.begins i (p.steps i) ≤ p.ready i
  pub free : (i l : ℕ) → l < p.steps i → finish_of shop p.begins i l ≤ p.free (machine_of shop i l)
  pub apart : (i l : ℕ) → l < p.steps i → (a b : ℕ) → b < p.steps a → machine_of shop i l ≡ machine_of shop a b
      → AreDifferent i l a b
      → (finish_of shop p.begins i l ≤ p.begins a b) ⊎ (finish_of shop p.begins a b ≤ p.begins i l)

-- two tables that agree below a step agree on when it may begin
pub earliest_of-same : (shop : Shop) (s t : Starts) (i l : ℕ) → ((k : ℕ) → k < l → s i k ≡ t i k)
    → earliest_of shop s i l ≡ earliest_of shop t i l
earliest_of-same shop s t i x h = grind arith

module _ (shop : Shop) (p : Placing) (j : ℕ) (q : Placing) (n : IsNext shop p j q) where
  -- what is placed now was placed before, or is the one
  pub each_placed : (P : ℕ → ℕ → Type 0) → ((i l : ℕ) → l < p.steps i → P i l) → P j (p.steps j) → (i l : ℕ)
      → l < q.steps i → P i l
  each_placed P old new i l h = grind (arith, cases_eq)

  -- nothing is taken back, and no machine is free earlier
  pub steps_grow : (i : ℕ) → p.steps i ≤ q.steps i
  steps_grow i = grind (arith, cases_eq)

  pub free_grows : (m : ℕ) → p.free m ≤ q.free m
  free_grows m = grind (arith, cases_eq)

  pub earliest_old : (i l : ℕ) → l ≤ p.steps i → earliest_of shop q.begins i l ≡ earliest_of shop p.begins i l
  earliest_old i l h = earliest_of-same shop q.begins p.begins i l (λ k below. n.begins_old i k (omega arith))

  -- what was placed on the machine ends before the new one begins
  pub before_new : IsSound shop p → (i l : ℕ) → l < p.steps i → machine_of shop i l ≡ machine_of shop j (p.steps j)
      → finish_of shop q.begins i l ≤ q.begins j (p.steps j)
  before_new s i l h e = grind arith

  pub sound_next : IsSound shop p → IsOperation shop j (p.steps j) → IsSound shop q
  sound_next s op = record {
    operations = each_placed (λ i l. IsOperation shop i l) s.operations op;
    in_time = each_placed (λ i l. earliest_of shop q.begins i l ≤ q.begins i l)
        (λ i l h. let a = earliest_old i l (omega arith) in let b = n.begins_old i l h in let c = s.in_time i l h
        in omega arith)
        (let a = earliest_old j (p.steps j) (omega arith) in let b = n.begins_here in let c = s.ready j in omega arith);
    ready = λ i. elim (cases_eq i j) [
      | inl e ↦ subst (λ (x : ℕ). earliest_of shop q.begins x (q.steps x) ≤ q.ready x) (sym e)
          (rw (n.steps_here, add-one) (let a = n.ready_here in omega arith))
      | inr ne ↦ rw (n.steps_other i ne)
          (let a = earliest_old i (p.steps i) (omega arith) in let b = n.ready_other i ne in let c = s.ready i
          in omega arith)
    ];
    free = each_placed (λ i l. finish_of shop q.begins i l ≤ q.free (machine_of shop i l))
        (λ i l h. let a = n.begins_old i l h in let b = s.free i l h
        in elim (cases_eq (machine_of shop i l) (machine_of shop j (p.steps j))) [
          | inl e ↦ (let c = n.free_here (machine_of shop i l) e in let d = n.begins_here
              in let f : p.free (machine_of shop i l) ≡ p.free (machine_of shop j (p.steps j)) = ap p.free e
              in omega arith)
          | inr ne ↦ (let c = n.free_other (machine_of shop i l) ne in omega arith)
        ])
        (let a = n.free_here (machine_of shop j (p.steps j)) refl in omega arith);
    apart = each_placed (λ i l. (a b : ℕ) → b < q.steps a → machine_of shop i l ≡ machine_of shop a b
        → AreDifferent i l a b
        → (finish_of shop q.begins i l ≤ q.begins a b) ⊎ (finish_of shop q.begins a b ≤ q.begins i l))
        (λ i l h. each_placed (λ a b. machine_of shop i l ≡ machine_of shop a b → AreDifferent i l a b
        → (finish_of shop q.begins i l ≤ q.begins a b) ⊎ (finish_of shop q.begins a b ≤ q.begins i l))
        (λ a b k e d. rw (n.begins_old i l h, n.begins_old a b k) (s.apart i l h a b k e d))
        (λ e d. inl (before_new s i l h e)))
        (each_placed (λ a b. machine_of shop j (p.steps j) ≡ machine_of shop a b → AreDifferent j (p.steps j) a b
        → (finish_of shop q.begins j (p.steps j) ≤ q.begins a b)
        ⊎ (finish_of shop q.begins a b ≤ q.begins j (p.steps j)))
        (λ a b k e d. inr (before_new s a b k (sym e)))
        (λ e d. absurd (d (refl, refl))));
  }

-- a table in which nothing begins before the placing has it, or before the placing leaves its job and its machine
pub record Follows (shop : Shop) (p : Placing) (starts : Starts) : Type 0 where
  pub begins : (i l : ℕ) → l < p.steps i → p.begins i l ≤ starts i l
  pub ready : (i : ℕ) → IsOperation shop i (p.steps i) → p.ready i ≤ starts i (p.steps i)
  pub free : (i l : ℕ) → IsOperation shop i l → p.steps i ≤ l → p.free (machine_of shop i l) ≤ starts i l
  pub ends : (m : ℕ) → p.free m ≤ end_of shop starts

module _ (shop : Shop) (p : Placing) (j : ℕ) (q : Placing) (n : IsNext shop p j q) where
  -- the new one begins no later than in the table
  pub new_follows : (starts : Starts) → Follows shop p starts → IsOperation shop j (p.steps j)
      → q.begins j (p.steps j) ≤ starts j (p.steps j)
  new_follows starts f op = grind arith

  -- a table follows one step more if what is left on the machine begins after it
  pub follows_next : (starts : Starts) → IsFeasible shop starts → Follows shop p starts → IsOperation shop j (p.steps j)
      → ((i l : ℕ) → IsOperation shop i l → q.steps i ≤ l → machine_of shop i l ≡ machine_of shop j (p.steps j)
      → finish_of shop q.begins j (p.steps j) ≤ starts i l)
      → Follows shop q starts
  follows_next starts feasible f op after = grind (arith, new_follows, each_placed, cases_eq, steps_grow, le-end_of)

-- the placed steps as they are placed, the others as in the table
pub merged : Placing → Starts → Starts
merged p starts i l = cond (ltb l (p.steps i)) (p.begins i l) (starts i l)

pub merged-placed : (p : Placing) (starts : Starts) (i l : ℕ) → l < p.steps i → merged p starts i l ≡ p.begins i l
unfolding merged
merged-placed p starts i l h = rw (lt-ltb l (p.steps i) h)

pub merged-other : (p : Placing) (starts : Starts) (i l : ℕ) → p.steps i ≤ l → merged p starts i l ≡ starts i l
unfolding merged
merged-other p starts i l h = rw (le-ltb l (p.steps i) h)

module _ (shop : Shop) (p : Placing) (starts : Starts) (sound : IsSound shop p) (feasible : IsFeasible shop starts)
    (f : Follows shop p starts) where
  pub merged-le : (i l : ℕ) → merged p starts i l ≤ starts i l
  merged-le i l = grind (arith, cases_lt, merged-placed, merged-other)

  merged-in_time : NoneEarly shop (merged p starts)
  merged-in_time i l op =
      grind (arith, cases_lt, merged-placed, earliest_of-same, merged, cases_eq, merged-other, feasible-in_time)

  -- what is placed on a machine ends before what isn't begins
  pub between : (j k i l : ℕ) → k < p.steps j → p.steps i ≤ l → IsOperation shop i l
      → machine_of shop j k ≡ machine_of shop i l
      → finish_of shop (merged p starts) j k ≤ merged p starts i l
  between j k i l h g r e = grind (arith, merged-placed, merged-other)

  merged-apart : (j k i l : ℕ) → IsOperation shop j k → IsOperation shop i l → machine_of shop j k ≡ machine_of shop i l
      → AreDifferent j k i l
      → (finish_of shop (merged p starts) j k ≤ merged p starts i l)
      ⊎ (finish_of shop (merged p starts) i l ≤ merged p starts j k)
  merged-apart j k i l o r e d = search (rules, cases_lt, merged-placed, between, merged-other)

  pub merged_feasible : IsFeasible shop (merged p starts)
  merged_feasible = feasible_from shop (merged p starts) merged-in_time merged-apart

  pub merged_ends : end_of shop (merged p starts) ≤ end_of shop starts
  merged_ends = grind (arith, end_of-le, merged, merged-le, le-end_of)
