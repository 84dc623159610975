-- The time spent on works, as they change.
use Rattle.std.proofs.Common.{◌≡◌, ℕ, zero, suc, ◌+◌, ◌≤◌, ◌<◌, Bool, true, false, cond, List, [], ◌∷◌, length, map}
use Rattle.std.proofs.{Common.{refl, ap, arith}, Math.{ListN.set, Seq.map-set_same}, lemmas.Bool.{cases_lt, cases_eq}}
use Rattle.std.proofs.lemmas.List.{get_or-set_same, get_or-set_other, length-set, Sums.{sum_by-cons, sum_by-set}}
use Rattle.std.specs.List.{filter, sum_by}
use Rattle.shop_bound.specs.{declared.{triples.Triple.Triple, queues.Work.Work}, inner.Thresholds.is_above}
use Rattle.shop_bound.specs.inner.{Thresholds.span_above, Serving.{no_work, work_at, triples_of, fresh, worked, undone}}
use Rattle.shop_bound.proofs.ThresholdLemmas.{span_above-some}

-- one operation changed
pub triple_at : (ws : List Work) (i : ℕ) (v : Work) → i < length ws → v.triple ≡ (work_at ws i).triple → (j : ℕ)
    → (work_at (set ws i v) j).triple ≡ (work_at ws j).triple
triple_at ws i v lt same j = grind (arith, cases_eq, get_or-set_same, get_or-set_other)

pub triples-set : (ws : List Work) (i : ℕ) (v : Work) → v.triple ≡ (work_at ws i).triple
    → triples_of (set ws i v) ≡ triples_of ws
triples-set ws i v same = map-set_same (λ (w : Work). w.triple) ws i v no_work same

pub set_all : (P : Work → Type 0) (ws : List Work) (i : ℕ) (v : Work) → P v
    → ((j : ℕ) → j < length ws → P (work_at ws j)) → (j : ℕ) → j < length (set ws i v) → P (work_at (set ws i v) j)
set_all P ws i v here all j lt = grind (arith, length-set, cases_eq, get_or-set_same, get_or-set_other)

pub worked-set : (head tail : ℕ) (ws : List Work) (i d : ℕ) (v : Work) → i < length ws
    → v.triple ≡ (work_at ws i).triple → v.spent ≡ (work_at ws i).spent + d
    → worked head tail (set ws i v) ≡ worked head tail ws + cond (is_above head tail (work_at ws i).triple) d 0
unfolding worked
worked-set head tail ws i d v lt same more = grind (arith, sum_by-set)

-- the time spent is at most the times, and is the times where those are done
pub spent-le : (test : Triple → Bool) (ws : List Work)
    → ((i : ℕ) → i < length ws → (work_at ws i).spent ≤ (work_at ws i).triple.time)
    → sum_by (λ w. cond (test w.triple) w.spent 0) ws ≤ sum_by (λ t. t.time) (filter test (triples_of ws))
spent-le test [] h = omega arith
spent-le test (w ∷ ws) h =
    let r = spent-le test ws (λ i lt. h (suc i) (omega arith))
    in let a = sum_by-cons (λ (w : Work). cond (test w.triple) w.spent 0) w ws
    in let b = h 0 (omega arith)
    in let d = sum_by-cons (λ (t : Triple). t.time) w.triple (filter test (triples_of ws))
    in grind (arith, r, a, b, d)

pub spent-all : (test : Triple → Bool) (ws : List Work)
    → ((i : ℕ) → i < length ws → test (work_at ws i).triple ≡ true → (work_at ws i).spent ≡ (work_at ws i).triple.time)
    → sum_by (λ w. cond (test w.triple) w.spent 0) ws ≡ sum_by (λ t. t.time) (filter test (triples_of ws))
spent-all test [] h = refl
spent-all test (w ∷ ws) h =
    let r = spent-all test ws (λ i lt. h (suc i) (omega arith))
    in let a = sum_by-cons (λ (w : Work). cond (test w.triple) w.spent 0) w ws
    in let d = sum_by-cons (λ (t : Triple). t.time) w.triple (filter test (triples_of ws))
    in let b = h 0 (omega arith)
    in grind (arith, r, a, b, d)

pub some_above : (test : Triple → Bool) (ws : List Work) (i : ℕ) → i < length ws → test (work_at ws i).triple ≡ true
    → 0 < length (filter test (triples_of ws))
some_above test [] i lt e = absurd (omega arith)
some_above test (w ∷ ws) zero lt e = grind (arith, e)
some_above test (w ∷ ws) (suc i) lt e = let r = some_above test ws i (omega arith) e in grind (arith, r)

pub worked-le : (head tail : ℕ) (ws : List Work)
    → ((i : ℕ) → i < length ws → (work_at ws i).spent ≤ (work_at ws i).triple.time)
    → worked head tail ws ≤ sum_by (λ t. t.time) (filter (is_above head tail) (triples_of ws))
unfolding worked
worked-le head tail ws h = spent-le (is_above head tail) ws h

pub worked-all : (head tail : ℕ) (ws : List Work)
    → ((i : ℕ) → i < length ws → is_above head tail (work_at ws i).triple ≡ true
    → (work_at ws i).spent ≡ (work_at ws i).triple.time)
    → worked head tail ws ≡ sum_by (λ t. t.time) (filter (is_above head tail) (triples_of ws))
unfolding worked
worked-all head tail ws h = spent-all (is_above head tail) ws h

-- a span is at most the sum of its three parts
pub span_above-parts : (ts : List Triple) (head tail : ℕ)
    → span_above ts head tail ≤ head + sum_by (λ t. t.time) (filter (is_above head tail) ts) + tail
span_above-parts ts head tail = grind (arith, cases_lt, span_above-some)

-- at the start nothing is done
pub spent-none : (test : Triple → Bool) (ws : List Work) → ((i : ℕ) → i < length ws → (work_at ws i).spent ≡ 0)
    → sum_by (λ w. cond (test w.triple) w.spent 0) ws ≡ 0
spent-none test [] h = refl
spent-none test (w ∷ ws) h =
    let r = spent-none test ws (λ i lt. h (suc i) (omega arith))
    in let a = sum_by-cons (λ (w : Work). cond (test w.triple) w.spent 0) w ws
    in let b = h 0 (omega arith)
    in grind (arith, r, a, b)

pub worked-none : (head tail : ℕ) (ws : List Work) → ((i : ℕ) → i < length ws → (work_at ws i).spent ≡ 0)
    → worked head tail ws ≡ 0
unfolding worked
worked-none head tail ws h = spent-none (is_above head tail) ws h

pub none_above : (test : Triple → Bool) (ws : List Work) → ((i : ℕ) → i < length ws → (work_at ws i).done ≡ false)
    → ((i : ℕ) → i < length ws → test (work_at ws i).triple ≡ true → (work_at ws i).done ≡ true)
    → length (filter test (triples_of ws)) ≡ 0
none_above test [] undone all = refl
none_above test (w ∷ ws) undone all =
    let r = none_above test ws (λ i lt. undone (suc i) (omega arith)) (λ i lt. all (suc i) (omega arith))
    in grind (arith, r, all 0 (omega arith), undone 0 (omega arith))

-- the works that stand for triples at the start
pub fresh-triples : (ts : List Triple) → triples_of (map fresh ts) ≡ ts
fresh-triples [] = refl
fresh-triples (t ∷ ts) = ap (λ (us : List Triple). t ∷ us) (fresh-triples ts)

-- of each work nothing is done
pub record IsFresh (ws : List Work) : Type 0 where
  pub spent : (i : ℕ) → i < length ws → (work_at ws i).spent ≡ 0
  pub undone : (i : ℕ) → i < length ws → (work_at ws i).done ≡ false

pub fresh-spent : (ts : List Triple) (i : ℕ) → (work_at (map fresh ts) i).spent ≡ 0
fresh-spent [] i = refl
fresh-spent (t ∷ ts) zero = refl
fresh-spent (t ∷ ts) (suc i) = fresh-spent ts i

pub fresh-undone : (ts : List Triple) (i : ℕ) → (work_at (map fresh ts) i).done ≡ false
fresh-undone [] i = refl
fresh-undone (t ∷ ts) zero = refl
fresh-undone (t ∷ ts) (suc i) = fresh-undone ts i

pub fresh-is : (ts : List Triple) → IsFresh (map fresh ts)
fresh-is ts = grind (arith, fresh-spent, fresh-undone)
