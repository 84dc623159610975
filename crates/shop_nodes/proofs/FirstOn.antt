-- In a table, the first operation of a machine among those that a word leaves.
use Rattle.std.proofs.Common.{◌≡◌, ℕ, zero, suc, ◌+◌, ◌≤◌, ◌<◌, max, inl, inr, List, [], ◌∷◌, length, drop, refl, sym}
use Rattle.std.proofs.{Common.{◌∙◌, ap, subst, arith, eqb, ltb}, lemmas.Bool.{cases_eq, eqb-true, eq-eqb}}
use Rattle.std.specs.List.{AllByRecursion, filter, flat_map, range_with_len, best_of}
use Rattle.shop_model.specs.{declared.ops.Op.Op, Shop.{Shop, Starts, route_of, machine_of, time_of, IsOperation}}
use Rattle.shop_model.{specs.{Shop.{IsFeasible, finish_of}, Word.Placing}, proofs.Ends.{AreDifferent, IsOperation-job}}
use Rattle.shop_model.proofs.Placings.{Follows}
use Rattle.shop_bound.{specs.Bound.{Waiting, waiting_from, waiting_of, waiting}, proofs.Lists.{all_map, all_append}}
use Rattle.shop_bound.proofs.{Lists.{all_filter, all_both}, BoundLaw.{Fits, waiting-fits, from_step, front_of}}
use Rattle.shop_nodes.proofs.Members.{In, in_all, in_filter, in_flat_map, in_range, best_of-least}

-- what waits stands behind the placed steps
waiting-later : (shop : Shop) (p : Placing) (js : List ℕ) → AllByRecursion (λ x. p.steps x.job ≤ x.step)
    (flat_map (λ j. waiting_of shop p j) js)
waiting-later shop p [] = tt
waiting-later shop p (j ∷ js) = grind (arith, all_append, all_map, from_step, waiting-later shop p js)

-- and each step behind them waits
record WaitsAt (shop : Shop) (xs : List Waiting) (i l : ℕ) : Type 0 where
  one : Waiting
  member : In one xs
  job : one.job ≡ i
  step : one.step ≡ l
  machine : one.machine ≡ machine_of shop i l

waits_in_route : (shop : Shop) (free : ℕ → ℕ) (j k ready : ℕ) (os : List Op) → drop k (route_of shop j) ≡ os → (l : ℕ)
    → k ≤ l → IsOperation shop j l
    → WaitsAt shop (waiting_from free j k ready os) j l
waits_in_route shop free j k ready [] e l h op = absurd (none_left (route_of shop j) k l h op e) where
  none_left : (xs : List Op) (k l : ℕ) → k ≤ l → l < length xs → drop k xs ≡ [] → ⊥
  none_left [] k l h g e = omega arith
  none_left (x ∷ xs) zero l h g e = cc
  none_left (x ∷ xs) (suc k) zero h g e = omega arith
  none_left (x ∷ xs) (suc k) (suc l) h g e = none_left xs k l (omega arith) (omega arith) e
waits_in_route shop free j k ready (o ∷ os) e l h op = elim (cases_eq l k) [
  | inl s ↦ (let f = front_of (route_of shop j) k o os e in record {
    one = _;
    member = inl refl;
    job = refl;
    step = sym s;
    machine = sym (ap (λ (n : ℕ). machine_of shop j n) s ∙ ap (λ (p : Op). p.machine) f.1);
  })
  | inr ne ↦ (let f = front_of (route_of shop j) k o os e
      in let r = waits_in_route shop free j (k + 1) (max ready (free o.machine) + o.time) os f.2 l (omega arith) op
      in record { one = r.one; member = inr r.member; job = r.job; step = r.step; machine = r.machine })
]

waits : (shop : Shop) (p : Placing) (i l : ℕ) → p.steps i ≤ l → IsOperation shop i l → WaitsAt shop (waiting shop p) i l
waits shop p i l h op =
    let r = waits_in_route shop p.free i (p.steps i) (p.ready i) (drop (p.steps i) (route_of shop i)) refl l h op
    in record {
      one = r.one;
      member = in_flat_map (λ j. waiting_of shop p j) i r.one (range_with_len 0 (length shop.jobs))
          (in_range 0 (length shop.jobs) i (omega arith) (let a = IsOperation-job shop i l op in omega arith)) r.member;
      job = r.job;
      step = r.step;
      machine = r.machine;
    }

-- the first operation of a machine in a table, of those that aren't placed
pub record IsFirstOn (shop : Shop) (p : Placing) (starts : Starts) (m i l : ℕ) : Type 0 where
  pub operation : IsOperation shop i l
  pub behind : p.steps i ≤ l
  pub machine : machine_of shop i l ≡ m
  pub first : (a b : ℕ) → IsOperation shop a b → p.steps a ≤ b → machine_of shop a b ≡ m → AreDifferent a b i l
      → finish_of shop starts i l ≤ starts a b

module _ (shop : Shop) (p : Placing) (starts : Starts) (feasible : IsFeasible shop starts) (f : Follows shop p starts)
  where
    key : Waiting → ℕ
    key x = starts x.job x.step + (starts x.job x.step + time_of shop x.job x.step)

    -- the one with the least start and end together
    first_of_list : (m : ℕ) (x : Waiting) (xs : List Waiting) → filter (λ y. eqb y.machine m) (waiting shop p) ≡ x ∷ xs
        → (i : ℕ) × (l : ℕ) × IsFirstOn shop p starts m i l
    unfolding key
    first_of_list m x xs e =
        let b = best_of (λ y z. ltb (key y) (key z)) x xs
        in let least = best_of-least key x xs
        in let facts : AllByRecursion (λ y. (Fits shop starts y × (p.steps y.job ≤ y.step)) × (y.machine ≡ m))
        (x ∷ xs) =
        subst (λ (ys : List Waiting). AllByRecursion (λ y. (Fits shop starts y × (p.steps y.job ≤ y.step))
        × (y.machine ≡ m)) ys) e (all_filter (λ y. eqb y.machine m) (λ y. Fits shop starts y
        × (p.steps y.job ≤ y.step)) (λ y. (Fits shop starts y × (p.steps y.job ≤ y.step)) × (y.machine ≡ m))
        (λ y h t. (h, eqb-true y.machine m t)) (waiting shop p)
        (all_both (Fits shop starts) (λ y. p.steps y.job ≤ y.step) (waiting shop p)
        (waiting-fits shop starts feasible p f (range_with_len 0 (length shop.jobs)))
        (waiting-later shop p (range_with_len 0 (length shop.jobs)))))
        in let own = in_all (λ y. (Fits shop starts y × (p.steps y.job ≤ y.step)) × (y.machine ≡ m)) b (x ∷ xs)
        least.member facts
        in let on : machine_of shop b.job b.step ≡ m = sym own.0.0.machine ∙ own.1
        in (
          b.job,
          b.step,
          record {
            operation = own.0.0.operation;
            behind = own.0.1;
            machine = on;
            first = λ c d op h mm different.
                let w = waits shop p c d h op
                in let member : In w.one (x ∷ xs) = subst (λ (ys : List Waiting). In w.one ys) e
                (in_filter (λ y. eqb y.machine m) w.one (waiting shop p) w.member
                (eq-eqb w.one.machine m (w.machine ∙ mm)))
                in let le = least.least w.one member
                in let same : key w.one ≡ starts c d + (starts c d + time_of shop c d) = ap
                (λ (n : ℕ). starts n w.one.step + (starts n w.one.step + time_of shop n w.one.step)) w.job
                ∙ ap (λ (n : ℕ). starts c n + (starts c n + time_of shop c n)) w.step
                in elim (feasible.apart c d b.job b.step op own.0.0.operation (mm ∙ sym on) different) [
                  | inl before ↦ omega arith
                  | inr after ↦ after
                ];
          },
        )

    pub first_on : (m i l : ℕ) → IsOperation shop i l → p.steps i ≤ l → machine_of shop i l ≡ m → (a : ℕ) × (b : ℕ)
        × IsFirstOn shop p starts m a b
    first_on m i l op h e = in_list (filter (λ y. eqb y.machine m) (waiting shop p)) refl
      where
        in_list : (ys : List Waiting) → filter (λ y. eqb y.machine m) (waiting shop p) ≡ ys → (a : ℕ) × (b : ℕ)
            × IsFirstOn shop p starts m a b
        in_list [] s = (let w = waits shop p i l h op in let member : In w.one [] = subst
            (λ (ys : List Waiting). In w.one ys) s (in_filter (λ y. eqb y.machine m) w.one (waiting shop p) w.member
            (eq-eqb w.one.machine m (w.machine ∙ e))) in absurd member)
        in_list (x ∷ xs) s = first_of_list m x xs s
