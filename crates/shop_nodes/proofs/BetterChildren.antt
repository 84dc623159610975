-- Branching loses no table: for each table under a word that isn't full, some child has one under it that ends no
-- later.
use Rattle.std.proofs.Common.{◌≡◌, ℕ, zero, suc, ◌+◌, ◌-◌, ◌≤◌, ◌⊎◌, inl, inr, false, List, [], ◌∷◌, ◌++◌, length, map}
use Rattle.std.proofs.{Common.{refl, sym, ◌∙◌, ap, subst, arith, ltb}, lemmas.{List.length-append, Bool.cases_Bool}}
use Rattle.std.proofs.lemmas.Bool.{cases_eq, cases_lt, eq-eqb, ltb-true, ltb-false, lt-ltb, true≢false, or_right}
use Rattle.std.specs.List.{AllByRecursion, filter, range_with_len}
use Rattle.shop_nodes.specs.{Laws.LosesNoTable, Branching.{open_jobs, next_machine, next_head, next_end, chosen_of}}
use Rattle.shop_nodes.{specs.Branching.{conflicts_with, conflict_among, conflict, branch}, proofs.FirstOn.IsFirstOn}
use Rattle.shop_nodes.proofs.{FirstOn.first_on, Members.{In, in_all, in_filter, in_map, in_sort, in_range}}
use Rattle.shop_nodes.proofs.Members.{best_of-least, contains_in}
use Rattle.shop_model.specs.Shop.{Shop, Starts, route_of, machine_of, IsOperation, IsFeasible, finish_of, end_of}
use Rattle.shop_model.{specs.Word.{Placing, placing, count_of, IsWord, IsFull, IsUnder}, proofs.Ends.AreDifferent}
use Rattle.shop_model.proofs.{Ends.IsOperation-job, WordLemmas.{count_of-snoc_same, count_of-snoc_other}}
use Rattle.shop_model.proofs.Placings.{IsNext, place_next-is, Follows, follows_next, steps_grow, merged, merged_ends}
use Rattle.shop_model.proofs.Unders.{AfterWord, after_word, follows_word, merged_under, under-snoc, placing-snoc}
use Rattle.shop_bound.{specs.Bound.lb, proofs.{Entries.IsWord-snoc, Lists.all_filter}}

-- a child of w with a table under it that ends no later
pub record HasChild (shop : Shop) (w : List ℕ) (js : List ℕ) (starts : Starts) : Type 0 where
  pub job : ℕ
  pub member : In job js
  pub is_word : IsWord shop (w ++ job ∷ [])
  pub better : Starts
  pub under : IsUnder shop (w ++ job ∷ []) better
  pub ends : end_of shop better ≤ end_of shop starts

-- in a job the starts rise from step to step
later_begins : (shop : Shop) (starts : Starts) → IsFeasible shop starts → (j k d : ℕ) → IsOperation shop j (k + suc d)
    → finish_of shop starts j k ≤ starts j (k + suc d)
later_begins shop starts feasible j k zero op = grind arith
later_begins shop starts feasible j k (suc d) op = grind (arith, later_begins shop starts feasible j k d (omega arith))

module _ (shop : Shop) (w : List ℕ) (starts : Starts) (word : IsWord shop w) (under : IsUnder shop w starts) where
  at : AfterWord shop w (placing shop w)
  at = after_word shop w word

  follows : Follows shop (placing shop w) starts
  follows = follows_word shop starts w word under

  -- the next operation of an open job begins no earlier than its head
  head-le : (i : ℕ) → IsOperation shop i ((placing shop w).steps i) → next_head shop (placing shop w) i ≤ starts i
      ((placing shop w).steps i)
  head-le i op = grind (arith, follows)

  -- the table itself, where the first operation of the machine can be next
  itself : (m i : ℕ) → IsFirstOn shop (placing shop w) starts m i ((placing shop w).steps i)
      → IsUnder shop (w ++ i ∷ []) starts
  itself m i first =
      let same = at.steps i
      in under-snoc shop w i starts under (λ a b op h e.
      let count = at.steps a
      in let behind : (placing shop w).steps a ≤ b = elim (cases_eq a i) [
        | inl s ↦ (let x = count_of-snoc_same w a i s in omega arith)
        | inr ne ↦
            (let x = count_of-snoc_other w a i ne in omega arith)
      ]
      in let different : AreDifferent a b i ((placing shop w).steps i) = (λ d. let x = count_of-snoc_same w a i d.0
      in let y : count_of a w ≡ count_of i w = ap (λ n. count_of n w) d.0 in let z = d.1 in omega arith)
      in rw (sym same) (first.first a b op behind (rw (sym same) at e ∙ first.machine) different))

  -- else what is placed first is the chosen operation, and the rest stays
  moved : (c : ℕ) → IsOperation shop c ((placing shop w).steps c)
      → ((a b : ℕ) → IsOperation shop a b → (placing shop w).steps a ≤ b → machine_of shop a b
      ≡ next_machine shop (placing shop w) c → AreDifferent a b c ((placing shop w).steps c)
      → next_end shop (placing shop w) c ≤ starts a b)
      → (better : Starts) × IsUnder shop (w ++ c ∷ []) better × (end_of shop better ≤ end_of shop starts)
  moved c op late =
      let p = placing shop w
      in let q = placing shop (w ++ c ∷ [])
      in let next : IsNext shop p c q = rw placing-snoc (place_next-is shop p c)
      in let longer : IsWord shop (w ++ c ∷ []) = IsWord-snoc shop w c word (rw (sym (at.steps c)) op)
      in let after = after_word shop (w ++ c ∷ []) longer
      in let f : Follows shop q starts = follows_next shop p c q next starts under.feasible follows op
      (λ a b o h e. let b0 = next.begins_here in let g = steps_grow shop p c q next a in
      let different : AreDifferent a b c (p.steps c) = (λ d. let x = next.steps_here in let y : q.steps a
      ≡ q.steps c = ap q.steps d.0 in let z = d.1 in omega arith)
      in let l = late a b o (omega arith) e different in omega arith)
      in (
        merged q starts,
        merged_under shop (w ++ c ∷ []) starts longer under.feasible f,
        merged_ends shop q starts after.sound under.feasible f,
      )

  -- an open job's next operation
  open_job : (js : List ℕ) → AllByRecursion (λ j. IsOperation shop j ((placing shop w).steps j))
      (filter (λ j. ltb ((placing shop w).steps j) (length (route_of shop j))) js)
  open_job js = all_filter (λ j. ltb ((placing shop w).steps j) (length (route_of shop j))) (λ j. Unit {0})
      (λ j. IsOperation shop j ((placing shop w).steps j))
      (λ j _ e. ltb-true ((placing shop w).steps j) (length (route_of shop j)) e) js (all_units js)
    where
      all_units : (xs : List ℕ) → AllByRecursion (λ j. Unit {0}) xs
      all_units [] = tt
      all_units (x ∷ xs) = (tt, all_units xs)

  is_open : (j : ℕ) → IsOperation shop j ((placing shop w).steps j) → In j (open_jobs shop (placing shop w))
  is_open j op = in_filter (λ j. ltb ((placing shop w).steps j) (length (route_of shop j))) j
      (range_with_len 0 (length shop.jobs))
      (in_range 0 (length shop.jobs) j (omega arith) (let a = IsOperation-job shop j ((placing shop w).steps j) op
      in omega arith))
      (lt-ltb ((placing shop w).steps j) (length (route_of shop j)) op)

  child_among : (j : ℕ) (js : List ℕ) → open_jobs shop (placing shop w) ≡ j ∷ js
      → HasChild shop w (conflict_among shop (placing shop w) (j ∷ js)) starts
  child_among j js e =
      let p = placing shop w
      in let c = chosen_of shop p j js
      in let m = next_machine shop p c
      in let least = best_of-least (next_end shop p) j js
      in let ops : AllByRecursion (λ i. IsOperation shop i (p.steps i)) (j ∷ js) = subst
      (λ (ys : List ℕ). AllByRecursion (λ i. IsOperation shop i (p.steps i)) ys) e
      (open_job (range_with_len 0 (length shop.jobs)))
      in let op : IsOperation shop c (p.steps c) = in_all (λ i. IsOperation shop i (p.steps i)) c (j ∷ js) least.member
      ops
      in let opened : (i : ℕ) → IsOperation shop i (p.steps i)
      → In i (j ∷ js) = (λ i o. subst (λ (ys : List ℕ). In i ys) e (is_open i o))
      in let found = first_on shop p starts under.feasible follows m c (p.steps c) op (omega arith) refl
      in let i = found.0 in let l = found.1 in let first = found.2
      in let o : IsOperation shop i (p.steps i) = (let a = first.operation in let b = first.behind in omega arith)
      in let chosen_in : In c (conflict_among shop p (j ∷ js)) = in_filter (conflicts_with shop p c) c (j ∷ js)
      least.member (rw (eq-eqb c c refl) refl)
      -- the first one begins at C or later: so do all others
      in let others : next_end shop p c ≤ starts i l → HasChild shop w (conflict_among shop p (j ∷ js))
      starts = (λ late.
      let r = moved c op (λ a b ab h mm different. elim (cases_same a b i l) [
        | inl s ↦ grind arith
        | inr d ↦ (let x = first.first a b ab h mm d in omega arith)
      ])
      in record {
        job = c;
        member = chosen_in;
        is_word = IsWord-snoc shop w c word (rw (sym (at.steps c)) op);
        better = r.0;
        under = r.1;
        ends = r.2;
      })
      in elim (cases_eq l (p.steps i)) [
        | inl s ↦ (let first' : IsFirstOn shop p starts m i (p.steps i) = subst (λ y. IsFirstOn shop p starts m i y) s
            first
            in elim (cases_Bool (conflicts_with shop p c i)) [
              | inl t ↦ record {
                job = i;
                member = in_filter (conflicts_with shop p c) i (j ∷ js) (opened i o) t;
                is_word = IsWord-snoc shop w i word (rw (sym (at.steps i)) o);
                better = starts;
                under = itself m i first';
                ends = omega arith;
              }
              | inr t ↦ others (let late = not_before p c i t first'.machine in let a = head-le i o
                  in let b : starts i l ≡ starts i (p.steps i) = ap (λ y. starts i y) s in omega arith)
            ])
        | inr ne ↦ others (let a = least.least i (opened i o) in let b = head-le i o in let d = first.behind
            in let steps : (p.steps i) + suc (l - p.steps i - 1) ≡ l = omega arith
            in let rise = later_begins shop starts under.feasible i (p.steps i) (l - p.steps i - 1)
            (rw steps first.operation)
            in let rise' : finish_of shop starts i (p.steps i) ≤ starts i l = subst
            (λ y. finish_of shop starts i (p.steps i) ≤ starts i y) steps rise in omega arith)
      ]
    where
      cases_same : (a b i l : ℕ) → ((a ≡ i) × (b ≡ l)) ⊎ AreDifferent a b i l
      cases_same a b i l = grind (arith, cases_eq)

      not_before : (p : Placing) (c i : ℕ) → conflicts_with shop p c i ≡ false → machine_of shop i (p.steps i)
          ≡ next_machine shop p c → next_end shop p c ≤ next_head shop p i
      not_before p c i t e = grind (arith, cases_Bool, true≢false, or_right, eq-eqb, ltb-false)

  is_full : open_jobs shop (placing shop w) ≡ [] → IsFull shop w
  is_full e j = elim (cases_lt (count_of j w) (length (route_of shop j))) [
    | inl h ↦ (let none : In j [] = subst (λ (ys : List ℕ). In j ys) e (is_open j (rw (at.steps j) h)) in absurd none)
    | inr h ↦ (let a = word j in omega arith)
  ]

  child : (IsFull shop w → ⊥) → (js : List ℕ) → open_jobs shop (placing shop w) ≡ js
      → HasChild shop w (conflict_among shop (placing shop w) js) starts
  child open_word [] e = absurd (open_word (is_full e))
  child open_word (j ∷ js) e = child_among j js e

-- the same, as a member
pub record IsBetterChild (shop : Shop) (w : List ℕ) (starts : Starts) : Type 0 where
  pub child : List ℕ
  pub member : In child (branch shop w)
  pub longer : length child ≡ length w + 1
  pub is_word : IsWord shop child
  pub better : Starts
  pub under : IsUnder shop child better
  pub ends : end_of shop better ≤ end_of shop starts

pub a_better_child : (shop : Shop) (w : List ℕ) (starts : Starts) → IsWord shop w → (IsFull shop w → ⊥)
    → IsUnder shop w starts → IsBetterChild shop w starts
a_better_child shop w starts word open_word under =
    let r = child shop w starts word under open_word (open_jobs shop (placing shop w)) refl
    in record {
      child = w ++ r.job ∷ [];
      member = in_sort (lb shop) (w ++ r.job ∷ []) (map (λ j. w ++ j ∷ []) (conflict shop w))
          (in_map (λ j. w ++ j ∷ []) r.job (conflict shop w) r.member);
      longer = length-append w (r.job ∷ []);
      is_word = r.is_word;
      better = r.better;
      under = r.under;
      ends = r.ends;
    }

pub loses_nothing : LosesNoTable
loses_nothing shop w starts word open_word under =
    let r = child shop w starts word under open_word (open_jobs shop (placing shop w)) refl
    in record {
      child = w ++ r.job ∷ [];
      is_child = contains_in (w ++ r.job ∷ []) (branch shop w) (in_sort (lb shop) (w ++ r.job ∷ [])
          (map (λ j. w ++ j ∷ []) (conflict shop w)) (in_map (λ j. w ++ j ∷ []) r.job (conflict shop w) r.member));
      is_word = r.is_word;
      better = r.better;
      under = r.under;
      ends = r.ends;
    }
