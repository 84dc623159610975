-- Tables of an instance give tables of its relaxations.
use Rattle.std.proofs.Common.{◌≡◌, ℕ, zero, suc, ◌≤◌, ◌<◌, ◌+◌, inl, inr, List, [], ◌∷◌, ◌++◌, length, get_or, refl}
use Rattle.std.proofs.Common.{sym, ap, ◌∙◌, subst, arith}
use Rattle.shop_model.specs.{declared.ops.Op.Op, Shop.end_of}
use Rattle.shop_model.specs.Shop.{Shop, ShopJob, Starts, no_job, no_op, release_of, machine_of, IsOperation, IsFeasible}
use Rattle.shop_model.proofs.Ends.{le-end_of, end_of-le, feasible-in_time, in_time-later}
use Rattle.shop_engine.specs.{Easier.AsksNoMore, Relaxations.{IsRelaxation, shop_with, job_with, RelaxationsAskNoMore}}

module _ (easy hard : Shop) (r : IsRelaxation easy hard) where
  -- the starts of what the operations stand for
  part_of : Starts → Starts
  part_of starts j k = starts (r.job j) (r.step j k)

  released : (starts : Starts) → IsFeasible hard starts → (i l : ℕ) → IsOperation hard i l
      → release_of hard i ≤ starts i l
  released starts f i zero op = f.released i op
  released starts f i (suc l) op =
      let first = f.released i (omega arith)
      in let later = in_time-later hard starts (feasible-in_time hard starts f) i 0 (suc l) (omega arith) op
      in omega arith

  part_feasible : (starts : Starts) → IsFeasible hard starts → IsFeasible easy (part_of starts)
  unfolding part_of
  part_feasible starts f = record {
    released = λ j op. let a = r.releases j op
        in let b = released starts f (r.job j) (r.step j 0) (r.operations j 0 op) in omega arith;
    in_order = λ j k op. let before : IsOperation easy j k = omega arith in let a = r.times j k before
        in let b = in_time-later hard starts (feasible-in_time hard starts f) (r.job j) (r.step j k) (r.step j (k + 1))
        (r.in_order j k op) (r.operations j (k + 1) op) in omega arith;
    apart = λ j k i l op other same different. let a = r.times j k op in let b = r.times i l other
        in elim (f.apart (r.job j) (r.step j k) (r.job i) (r.step i l) (r.operations j k op) (r.operations i l other)
        (r.machines j k i l op other same) (r.different j k i l op other different)) [
          | inl h ↦ inl (omega arith)
          | inr h ↦ inr (omega arith)
        ];
  }

  part_ends : (starts : Starts) → end_of easy (part_of starts) ≤ end_of hard starts
  unfolding part_of
  part_ends starts = grind (arith, end_of-le, le-end_of)

  pub relaxed : AsksNoMore easy hard
  relaxed c h = record {
    table = part_of h.table;
    feasible = part_feasible h.table h.feasible;
    ends = (let a = part_ends h.table in let b = h.ends in omega arith);
  }

-- ---- jobs that stand elsewhere

pub moved_jobs : (easy hard : Shop) (to : ℕ → ℕ) → ((j i : ℕ) → to j ≡ to i → j ≡ i)
    → ((j : ℕ) → get_or hard.jobs (to j) no_job ≡ get_or easy.jobs j no_job) → IsRelaxation easy hard
moved_jobs easy hard to one same = record {
  job = to;
  step = λ j k. k;
  operations = λ j k op. let e = ap (λ (x : ShopJob). length x.route) (same j) in omega arith;
  in_order = λ j k op. omega arith;
  different = λ j k i l op other different both. different (one j i both.0, both.1);
  times = λ j k op. let e = ap (λ (x : ShopJob). (get_or x.route k no_op).time) (same j) in omega arith;
  releases = λ j op. let e = ap (λ (x : ShopJob). x.release) (same j) in omega arith;
  machines = λ j k i l op other e. machine j k ∙ e ∙ sym (machine i l);
}
  where
    machine : (j k : ℕ) → machine_of hard (to j) k ≡ machine_of easy j k
    machine j k = ap (λ (x : ShopJob). (get_or x.route k no_op).machine) (same j)

-- ---- one element is left out

-- where the elements stand once one more stands behind the front
past : {A : Type 0} → List A → ℕ → ℕ
past [] j = suc j
past (x ∷ front) zero = zero
past (x ∷ front) (suc j) = suc (past front j)

past_same : {A : Type 0} (front back : List A) (x d : A) (j : ℕ)
    → get_or (front ++ x ∷ back) (past front j) d ≡ get_or (front ++ back) j d
unfolding past
past_same [] back x d j = refl
past_same (y ∷ front) back x d zero = refl
past_same (y ∷ front) back x d (suc j) = past_same front back x d j

past_rises : {A : Type 0} (front : List A) (j i : ℕ) → j < i → past front j < past front i
unfolding past
past_rises [] j i h = omega arith
past_rises (y ∷ front) j zero h = absurd (omega arith)
past_rises (y ∷ front) zero (suc i) h = omega arith
past_rises (y ∷ front) (suc j) (suc i) h = let a = past_rises front j i (omega arith) in omega arith

past_one : {A : Type 0} (front : List A) (j i : ℕ) → past front j ≡ past front i → j ≡ i
unfolding past
past_one [] j i e = omega arith
past_one (y ∷ front) zero zero e = refl
past_one (y ∷ front) zero (suc i) e = absurd (omega arith)
past_one (y ∷ front) (suc j) zero e = absurd (omega arith)
past_one (y ∷ front) (suc j) (suc i) e = ap suc (past_one front j i (omega arith))

past_within : {A : Type 0} (front back : List A) (x : A) (j : ℕ) → j < length (front ++ back)
    → past front j < length (front ++ x ∷ back)
unfolding past
past_within [] back x j h = omega arith
past_within (y ∷ front) back x zero h = omega arith
past_within (y ∷ front) back x (suc j) h = let a = past_within front back x j (omega arith) in omega arith

job_left_out : (machines : ℕ) (front back : List ShopJob) (job : ShopJob)
    → IsRelaxation (shop_with machines (front ++ back)) (shop_with machines (front ++ job ∷ back))
job_left_out machines front back job =
    moved_jobs (shop_with machines (front ++ back)) (shop_with machines (front ++ job ∷ back)) (past front)
    (past_one front) (past_same front back job no_job)

-- ---- one step is left out

module _ (release : ℕ) (before after : List Op) (op : Op) (back : List ShopJob) where
  abbrev less : List ShopJob → List ShopJob
  less front = front ++ job_with release (before ++ after) ∷ back

  abbrev more : List ShopJob → List ShopJob
  more front = front ++ job_with release (before ++ op ∷ after) ∷ back

  -- the step that step k of job j was
  was : List ShopJob → ℕ → ℕ → ℕ
  was [] zero k = past before k
  was [] (suc j) k = k
  was (x ∷ front) zero k = k
  was (x ∷ front) (suc j) k = was front j k

  was_op : (front : List ShopJob) (j k : ℕ) → get_or (get_or (more front) j no_job).route (was front j k) no_op
      ≡ get_or (get_or (less front) j no_job).route k no_op
  unfolding was
  was_op [] zero k = past_same before after op no_op k
  was_op [] (suc j) k = refl
  was_op (x ∷ front) zero k = refl
  was_op (x ∷ front) (suc j) k = was_op front j k

  was_within : (front : List ShopJob) (j k : ℕ) → k < length (get_or (less front) j no_job).route
      → was front j k < length (get_or (more front) j no_job).route
  unfolding was
  was_within [] zero k h = past_within before after op k h
  was_within [] (suc j) k h = h
  was_within (x ∷ front) zero k h = h
  was_within (x ∷ front) (suc j) k h = was_within front j k h

  was_rises : (front : List ShopJob) (j k l : ℕ) → k < l → was front j k < was front j l
  unfolding was
  was_rises [] zero k l h = past_rises before k l h
  was_rises [] (suc j) k l h = h
  was_rises (x ∷ front) zero k l h = h
  was_rises (x ∷ front) (suc j) k l h = was_rises front j k l h

  was_one : (front : List ShopJob) (j k l : ℕ) → was front j k ≡ was front j l → k ≡ l
  unfolding was
  was_one [] zero k l e = past_one before k l e
  was_one [] (suc j) k l e = e
  was_one (x ∷ front) zero k l e = e
  was_one (x ∷ front) (suc j) k l e = was_one front j k l e

  was_release : (front : List ShopJob) (j : ℕ) → (get_or (more front) j no_job).release
      ≡ (get_or (less front) j no_job).release
  was_release [] zero = refl
  was_release [] (suc j) = refl
  was_release (x ∷ front) zero = refl
  was_release (x ∷ front) (suc j) = was_release front j

  step_left_out : (machines : ℕ) (front : List ShopJob)
      → IsRelaxation (shop_with machines (less front)) (shop_with machines (more front))
  step_left_out machines front = record {
    job = λ j. j;
    step = was front;
    operations = was_within front;
    in_order = λ j k h. was_rises front j k (k + 1) (omega arith);
    different = λ j k i l h other different both. different
        (both.0, was_one front i k l (subst (λ (n : ℕ). was front n k ≡ was front i l) both.0 both.1));
    times = λ j k h. let e = ap (λ (o : Op). o.time) (was_op front j k) in omega arith;
    releases = λ j h. let e = was_release front j in omega arith;
    machines = λ j k i l h other e. ap (λ (o : Op). o.machine) (was_op front j k) ∙ e
        ∙ sym (ap (λ (o : Op). o.machine) (was_op front i l));
  }

pub relaxations_ask_no_more : RelaxationsAskNoMore
relaxations_ask_no_more = record {
  relaxed = relaxed;
  job_left_out = job_left_out;
  step_left_out = λ machines release front back before after op.
      step_left_out release before after op back machines front;
}
