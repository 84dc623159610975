-- What a turn of Jackson's schedule keeps, and why the schedule ends at the one-machine bound.
use Rattle.std.proofs.Common.{◌≡◌, ◌≢◌, ℕ, ◌+◌, ◌-◌, ◌^◌, ◌≤◌, ◌<◌, max, ◌⊎◌, inl, inr, Bool, true, false, cond, List}
use Rattle.std.proofs.{Common.{length, refl, sym, ◌∙◌, ap, subst, arith}, Math.ListN.set, lemmas.Bool.cases_Bool}
use Rattle.std.proofs.lemmas.{Bool.{cases_lt, cases_eq, true≢false}, List.{get_or-set_same, get_or-set_other}}
use Rattle.std.{proofs.lemmas.List.length-set, specs.List.{filter, sum_by}}
use Rattle.shop_bound.specs.{declared.{triples.Triple.Triple, queues.Work.Work}, OneMachine.{one, greatest_of, IsSmall}}
use Rattle.shop_bound.specs.inner.{Thresholds.{is_above, span_above}, Serving.{no_work, work_at, triples_of}}
use Rattle.shop_bound.specs.inner.Serving.{fresh, IsServable, IsServed, IsStop, IsLeastRelease, IsReady, worked, IsBusy}
use Rattle.shop_bound.specs.inner.Serving.{IsRun, turns_left, undone}
use Rattle.shop_bound.proofs.{Lists.get_or-le-greatest_of, WorkSums.IsFresh}
use Rattle.shop_bound.proofs.WorkSums.{span_above-parts, worked-none, none_above, triple_at, triples-set, set_all}
use Rattle.shop_bound.proofs.{WorkSums.{worked-set, some_above, worked-le, worked-all}, ThresholdLemmas.one-le}
use Rattle.shop_bound.proofs.ThresholdLemmas.{span_above-some, span_above-le, is_above-from, is_above-true, sublist_sum}
use Rattle.shop_bound.proofs.{ThresholdLemmas.{sublist_filter, greatest_of-map}, TurnCounts.turns_left-le}
use Rattle.shop_bound.proofs.TurnCounts.{turns_left-release, turns_left-same, turns_left-done}

-- An operation that is served until the clock and d more: v is what becomes of it.
pub record IsServing (ws : List Work) (clock i d : ℕ) (v : Work) : Type 0 where
  pub chosen : IsServed (length ws) ws clock i
  pub same : v.triple ≡ (work_at ws i).triple
  pub more : v.spent ≡ (work_at ws i).spent + d
  pub within : v.spent ≤ v.triple.time

-- nothing is released while it is served
pub record IsQuiet (ws : List Work) (clock d : ℕ) : Type 0 where
  pub no_release : (k : ℕ) → k < length ws → clock < (work_at ws k).triple.head
      → clock + d ≤ (work_at ws k).triple.head

module _ (ws : List Work) (clock best i d : ℕ) (v : Work) (run : IsRun ws clock best) (s : IsServing ws clock i d v)
  where
    spent-after : (j : ℕ) → j < length (set ws i v)
        → (work_at (set ws i v) j).spent ≤ (work_at (set ws i v) j).triple.time
    spent-after = set_all (λ w. w.spent ≤ w.triple.time) ws i v s.within run.spent

    from-le : (tail : ℕ) → tail ≤ (work_at ws i).triple.tail → (run.busy tail).from ≤ (work_at ws i).triple.head
    from-le tail h = grind arith

    -- where it is among those of a busy time, it adds d
    worked-more : (head tail : ℕ) → head ≤ (work_at ws i).triple.head → tail ≤ (work_at ws i).triple.tail
        → worked head tail (set ws i v) ≡ worked head tail ws + d
    worked-more head tail h k =
        let e = is_above-from head tail (work_at ws i).triple h k
        in let a = worked-set head tail ws i d v s.chosen.seen s.same s.more
        in a ∙ ap (λ (b : Bool). worked head tail ws + cond b d 0) e

    -- its end with its tail is at most the bound
    pub end-le : clock + d + (work_at ws i).triple.tail ≤ one (triples_of ws)
    end-le =
        let tail = (work_at ws i).triple.tail
        in let b = run.busy (work_at ws i).triple.tail
        in let f = from-le (work_at ws i).triple.tail (omega arith)
        in let e = worked-more (run.busy (work_at ws i).triple.tail).from (work_at ws i).triple.tail f (omega arith)
        in let l =
        worked-le (run.busy (work_at ws i).triple.tail).from (work_at ws i).triple.tail (set ws i v) spent-after
        in let t : sum_by (λ t. t.time) (filter (is_above (run.busy (work_at ws i).triple.tail).from
        (work_at ws i).triple.tail) (triples_of (set ws i v)))
        ≡ sum_by (λ t. t.time) (filter (is_above (run.busy (work_at ws i).triple.tail).from (work_at ws i).triple.tail)
        (triples_of ws))
        = ap (λ (ts : List Triple). sum_by (λ t. t.time) (filter (is_above (run.busy (work_at ws i).triple.tail).from
        (work_at ws i).triple.tail) ts)) (triples-set ws i v s.same)
        in let some =
        span_above-some (triples_of ws) (run.busy (work_at ws i).triple.tail).from (work_at ws i).triple.tail
        (some_above (is_above (run.busy (work_at ws i).triple.tail).from (work_at ws i).triple.tail) ws i s.chosen.seen
        (is_above-from (run.busy (work_at ws i).triple.tail).from (work_at ws i).triple.tail (work_at ws i).triple f
        (omega arith)))
        in let o = span_above-le (triples_of ws) (run.busy (work_at ws i).triple.tail).from (work_at ws i).triple.tail
        in let n = (run.busy (work_at ws i).triple.tail).enough
        in omega arith

    -- and fits where all do
    pub end-fits : clock + d + (work_at ws i).triple.tail ≤ greatest_of (λ t. t.head) (triples_of ws) + sum_by
        (λ t. t.time) (triples_of ws) + greatest_of (λ t. t.tail) (triples_of ws)
    end-fits =
        let a = worked-more 0 0 (omega arith) (omega arith)
        in let l = worked-le 0 0 (set ws i v) spent-after
        in let t : sum_by (λ t. t.time) (filter (is_above 0 0) (triples_of (set ws i v)))
        ≡ sum_by (λ t. t.time) (filter (is_above 0 0) (triples_of ws))
        = ap (λ (ts : List Triple). sum_by (λ t. t.time) (filter (is_above 0 0) ts)) (triples-set ws i v s.same)
        in let u = sublist_sum (λ (t : Triple). t.time) (sublist_filter (is_above 0 0) (triples_of ws))
        in let w = run.within
        in let g = get_or-le-greatest_of (λ (w : Work). w.triple.tail) ws i no_work s.chosen.seen
        in let m = greatest_of-map (λ (w : Work). w.triple) (λ (t : Triple). t.tail) ws
        in omega arith

    busy-after : IsQuiet ws clock d → (tail : ℕ) → IsBusy (set ws i v) (clock + d) tail
    busy-after quiet tail = elim (cases_lt (work_at ws i).triple.tail tail) [
      | inl more ↦ record {
        from = clock + d;
        before = omega arith;
        released = λ (j : ℕ) (w : IsServable (set ws i v) (clock + d) j)
            (h : tail ≤ (work_at (set ws i v) j).triple.tail).
            later more j w h;
        enough = omega arith;
      }
      | inr few ↦ (let f = from-le tail few
          in let e = worked-more (run.busy tail).from tail f few
          in let n = (run.busy tail).enough
          in let before = (run.busy tail).before
          in record {
            from = (run.busy tail).from;
            before = omega arith;
            released = λ (j : ℕ) (w : IsServable (set ws i v) (clock + d) j)
                (h : tail ≤ (work_at (set ws i v) j).triple.tail).
                as_before few j w h;
            enough = omega arith;
          })
    ] where
      same_head : (j : ℕ) → (work_at (set ws i v) j).triple.head ≡ (work_at ws j).triple.head
      same_head j = ap (λ (t : Triple). t.head) (triple_at ws i v s.chosen.seen s.same j)

      same_tail : (j : ℕ) → (work_at (set ws i v) j).triple.tail ≡ (work_at ws j).triple.tail
      same_tail j = ap (λ (t : Triple). t.tail) (triple_at ws i v s.chosen.seen s.same j)

      inside : (j : ℕ) → j < length (set ws i v) → j < length ws
      inside j h = omega (arith, length-set ws i v)

      undone_before : (j : ℕ) → j ≢ i → (work_at (set ws i v) j).done ≡ false → (work_at ws j).done ≡ false
      undone_before j ne h = sym (ap (λ (w : Work). w.done) (get_or-set_other ws i j v no_work ne)) ∙ h

      later : (work_at ws i).triple.tail < tail → (j : ℕ) → IsServable (set ws i v) (clock + d) j
          → tail ≤ (work_at (set ws i v) j).triple.tail → clock + d ≤ (work_at (set ws i v) j).triple.head
      later more j w h =
          let a = same_head j in let b = same_tail j
          in elim (cases_eq j i) [
            | inl e ↦ (let c : (work_at ws j).triple.tail ≡ (work_at ws i).triple.tail =
                ap (λ (k : ℕ). (work_at ws k).triple.tail) e in absurd (omega arith))
            | inr ne ↦ elim (cases_lt clock (work_at ws j).triple.head) [
              | inl l ↦ (let r = quiet.no_release j (inside j w.here) l in omega arith)
              | inr r ↦ (let g =
                  s.chosen.greatest j (inside j w.here) (undone_before j ne w.undone) r in absurd (omega arith))
            ]
          ]

      as_before : tail ≤ (work_at ws i).triple.tail → (j : ℕ) → IsServable (set ws i v) (clock + d) j
          → tail ≤ (work_at (set ws i v) j).triple.tail → (run.busy tail).from ≤ (work_at (set ws i v) j).triple.head
      as_before few j w h =
          let a = same_head j in let b = same_tail j in let before = (run.busy tail).before
          in elim (cases_eq j i) [
            | inl e ↦ (let c : (work_at ws j).triple.head ≡ (work_at ws i).triple.head =
                ap (λ (k : ℕ). (work_at ws k).triple.head) e in let f = from-le tail few in omega arith)
            | inr ne ↦ elim (cases_lt clock (work_at ws j).triple.head) [
              | inl l ↦ omega arith
              | inr r ↦ (let g = (run.busy tail).released j (record
                  { here = inside j w.here; undone = undone_before j ne w.undone; released = r }) (omega arith)
                  in omega arith)
            ]
          ]

    no_sooner-after : (head tail : ℕ) → head + worked head tail (set ws i v) ≤ max (clock + d) head
    no_sooner-after head tail =
        let a = worked-set head tail ws i d v s.chosen.seen s.same s.more
        in let b = run.no_sooner head tail
        in let r = s.chosen.released
        in let f = is_above-true head tail (work_at ws i).triple
        in grind (arith, a, b, r, f)

    -- the next state, with the best end so far
    pub served : IsQuiet ws clock d → (later : ℕ) → (v.done ≡ true → v.spent ≡ v.triple.time)
        → (v.done ≡ true → clock + d + (work_at ws i).triple.tail ≤ later) → best ≤ later → later ≤ one (triples_of ws)
        → IsRun (set ws i v) (clock + d) later
    served quiet later full ends more reached =
        let e = triples-set ws i v s.same in record {
          spent = spent-after;
          done = done-after;
          within = grind (arith, worked-more);
          busy = busy-after quiet;
          no_sooner = no_sooner-after;
          ended = ended-after;
          reached = subst (λ (ts : List Triple). later ≤ one ts) (sym e) reached;
        } where
          done-after : (j : ℕ) → j < length (set ws i v) → (work_at (set ws i v) j).done ≡ true
              → (work_at (set ws i v) j).spent ≡ (work_at (set ws i v) j).triple.time
          done-after = set_all (λ w. w.done ≡ true → w.spent ≡ w.triple.time) ws i v full run.done

          ended-after : (head tail : ℕ) → ((j : ℕ) → j < length (set ws i v)
              → is_above head tail (work_at (set ws i v) j).triple ≡ true → (work_at (set ws i v) j).done ≡ true)
              → span_above (triples_of (set ws i v)) head tail ≤ later
          ended-after head tail all = elim (cases_Bool (is_above head tail (work_at ws i).triple)) [
            | inl e ↦ (let lt : i < length (set ws i v) = omega (arith, length-set ws i v, s.chosen.seen)
                in let here = all i lt (ap (is_above head tail) (triple_at ws i v s.chosen.seen s.same i) ∙ e)
                in let finished : v.done ≡ true =
                sym (ap (λ (w : Work). w.done) (get_or-set_same ws i v no_work s.chosen.seen)) ∙ here
                in let a = ends finished
                in let b = worked-all head tail (set ws i v) (λ j l y. done-after j l (all j l y))
                in let c = span_above-parts (triples_of (set ws i v)) head tail
                in let n = no_sooner-after head tail
                in let r = s.chosen.released
                in let t = is_above-true head tail (work_at ws i).triple e
                in let t0 = t.0 in let t1 = t.1
                in omega arith)
            | inr e ↦ grind (arith, cases_eq, true≢false, length-set, triple_at, get_or-set_other, triples-set)
          ]

-- a jump over idle time
pub jumped : (ws : List Work) (clock ready best : ℕ) → IsRun ws clock best → IsLeastRelease (length ws) ws clock ready
    → IsRun ws ready best
jumped ws clock ready best run r = grind (arith, get_or-le-greatest_of, greatest_of-map)

-- where all are done the best is the bound
pub all_done : (ws : List Work) (clock best : ℕ) → IsRun ws clock best
    → ((k : ℕ) → k < length ws → (work_at ws k).done ≡ true) → best ≡ one (triples_of ws)
all_done ws clock best run all = grind (arith, one-le)

pub started : (ws : List Work) → IsFresh ws → IsRun ws 0 0
started ws fresh = grind (arith, true≢false, worked-none, none_above)

-- what is ready after a turn
pub ready_or_done : (ws : List Work) (clock ready : ℕ) → IsReady ws clock ready
    → ((k : ℕ) × IsServable ws ready k) ⊎ ((k : ℕ) → k < length ws → (work_at ws k).done ≡ true)
ready_or_done ws clock ready (inl w) = inl (w.0.0, subst (λ (t : ℕ). IsServable ws t w.0.0) (sym w.1) w.0.1)
ready_or_done ws clock ready (inr (inl r)) = grind arith
ready_or_done ws clock ready (inr (inr d)) = inr d.0

pub ready_run : (ws : List Work) (clock ready best : ℕ) → IsRun ws clock best → IsReady ws clock ready
    → IsRun ws ready best
ready_run ws clock ready best run (inl w) = subst (λ (t : ℕ). IsRun ws t best) (sym w.1) run
ready_run ws clock ready best run (inr (inl r)) = jumped ws clock ready best run r
ready_run ws clock ready best run (inr (inr d)) = subst (λ (t : ℕ). IsRun ws t best) (sym d.1) run

-- what is served to its end, or to the next release
pub served_to_end : (ws : List Work) (clock best i d : ℕ) (v : Work) → IsRun ws clock best → IsServing ws clock i d v
    → IsQuiet ws clock d → v.spent ≡ v.triple.time
    → IsRun (set ws i v) (clock + d) (max (clock + d + (work_at ws i).triple.tail) best)
served_to_end ws clock best i d v run s quiet full =
    let a = end-le ws clock best i d v run s in let b = run.reached in
    served ws clock best i d v run s quiet (max (clock + d + (work_at ws i).triple.tail) best) (λ _. full)
    (λ _. omega arith) (omega arith) (omega arith)

pub served_to_release : (ws : List Work) (clock best i d : ℕ) (v : Work) → IsRun ws clock best
    → IsServing ws clock i d v → IsQuiet ws clock d → v.done ≡ false
    → IsRun (set ws i v) (clock + d) best
served_to_release ws clock best i d v run s quiet undone =
    served ws clock best i d v run s quiet best (λ h. absurd (true≢false (sym h ∙ undone)))
    (λ h. absurd (true≢false (sym h ∙ undone))) (omega arith) run.reached

-- the two ways in which a turn goes
abbrev pub held : List Work → ℕ → ℕ → ℕ → Work
held ws clock i stop =
    record {
      triple = (work_at ws i).triple;
      spent = (work_at ws i).spent + (stop - clock);
      done = (work_at ws i).done;
    }

abbrev pub finished : List Work → ℕ → Work
finished ws i = record { triple = (work_at ws i).triple; spent = (work_at ws i).triple.time; done = true }

abbrev pub left_of : List Work → ℕ → ℕ
left_of ws i = (work_at ws i).triple.time - (work_at ws i).spent

serving_held : (ws : List Work) (clock best i stop : ℕ) → IsRun ws clock best → IsServed (length ws) ws clock i
    → IsStop (length ws) ws clock (clock + left_of ws i) stop
    → IsServing ws clock i (stop - clock) (held ws clock i stop)
serving_held ws clock best i stop run c h = grind arith

pub held_run : (ws : List Work) (clock best i stop : ℕ) → IsRun ws clock best → IsServed (length ws) ws clock i
    → IsStop (length ws) ws clock (clock + left_of ws i) stop
    → IsRun (set ws i (held ws clock i stop)) stop best
held_run ws clock best i stop run c h =
    let l = h.later in let e : clock + (stop - clock) ≡ stop = omega arith
    in subst (λ (t : ℕ). IsRun (set ws i (held ws clock i stop)) t best) e
    (served_to_release ws clock best i (stop - clock) (held ws clock i stop) run
    (serving_held ws clock best i stop run c h)
    (record {
      no_release = λ (k : ℕ) (lt : k < length ws) (r : clock < (work_at ws k).triple.head). grind arith;
    }) c.undone)

pub held_fewer : (ws : List Work) (clock i stop : ℕ) → IsServed (length ws) ws clock i
    → IsStop (length ws) ws clock (clock + left_of ws i) stop → stop < clock + left_of ws i
    → turns_left (set ws i (held ws clock i stop)) stop < turns_left ws clock
held_fewer ws clock i stop c h less = grind (arith, turns_left-same, turns_left-release)

serving_finished : (ws : List Work) (clock best i : ℕ) → IsRun ws clock best → IsServed (length ws) ws clock i
    → IsServing ws clock i (left_of ws i) (finished ws i)
serving_finished ws clock best i run c = grind arith

pub finished_run : (ws : List Work) (clock best i stop : ℕ) → IsRun ws clock best → IsServed (length ws) ws clock i
    → IsStop (length ws) ws clock (clock + left_of ws i) stop
    → clock + left_of ws i ≤ stop → IsRun (set ws i (finished ws i)) (clock + left_of ws i)
    (max (clock + left_of ws i + (work_at ws i).triple.tail) best)
finished_run ws clock best i stop run c h more =
    served_to_end ws clock best i (left_of ws i) (finished ws i) run (serving_finished ws clock best i run c)
    (record {
      no_release = λ (k : ℕ) (lt : k < length ws) (r : clock < (work_at ws k).triple.head). grind arith;
    }) refl

pub finished_fewer : (ws : List Work) (clock i : ℕ) → IsServed (length ws) ws clock i
    → turns_left (set ws i (finished ws i)) (clock + left_of ws i) < turns_left ws clock
finished_fewer ws clock i c = grind (arith, turns_left-done, turns_left-le)

-- no end is too late
pub end_small : (ws : List Work) (clock best i : ℕ) → IsRun ws clock best → IsServed (length ws) ws clock i
    → IsSmall (triples_of ws)
    → clock + left_of ws i + (work_at ws i).triple.tail < 2 ^ 50
end_small ws clock best i run c small = let a =
    end-fits ws clock best i (left_of ws i) (finished ws i) run (serving_finished ws clock best i run c) in omega arith
