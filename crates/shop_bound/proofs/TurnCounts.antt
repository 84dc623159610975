-- How many turns are left, and how many works are not done.
use Rattle.std.proofs.Common.{◌≡◌, ℕ, zero, suc, ◌+◌, ◌≤◌, ◌<◌, true, false, List, [], ◌∷◌, length, refl, arith}
use Rattle.std.proofs.{Math.ListN.set, lemmas.Bool.Decides.nat_tests, lemmas.List.Sums.{sum_by-cons, sum_by-set}}
use Rattle.shop_bound.specs.{declared.queues.Work.Work, inner.Serving.{no_work, work_at, IsReady, turns_of, turns_left}}
use Rattle.shop_bound.{specs.inner.Serving.{undone_of, undone}, proofs.WorkSums.IsFresh}

-- the turns left
turn_of-le : (a b : ℕ) (w : Work) → a ≤ b → turns_of b w ≤ turns_of a w
turn_of-le a b w h = grind (arith, nat_tests)

turn_of-release : (a b : ℕ) (w : Work) → a < w.triple.head → w.triple.head ≤ b → turns_of b w + 1 ≡ turns_of a w
turn_of-release a b w l h = grind (arith, nat_tests)

pub turns_left-le : (ws : List Work) (a b : ℕ) → a ≤ b → turns_left ws b ≤ turns_left ws a
unfolding turns_left
turns_left-le [] a b h = omega arith
turns_left-le (w ∷ ws) a b h =
    let r = turns_left-le ws a b h in let x = sum_by-cons (turns_of a) w ws in let y = sum_by-cons (turns_of b) w ws
    in let z = turn_of-le a b w h in omega arith

pub turns_left-release : (ws : List Work) (a b i : ℕ) → i < length ws → a < (work_at ws i).triple.head
    → (work_at ws i).triple.head ≤ b → turns_left ws b < turns_left ws a
unfolding turns_left
turns_left-release [] a b i lt l h = absurd (omega arith)
turns_left-release (w ∷ ws) a b zero lt l h =
    let r = turns_left-le ws a b (omega arith) in let x = sum_by-cons (turns_of a) w ws in let y =
    sum_by-cons (turns_of b) w ws in let z = turn_of-release a b w l h in omega arith
turns_left-release (w ∷ ws) a b (suc i) lt l h =
    let r = turns_left-release ws a b i (omega arith) l h in let x = sum_by-cons (turns_of a) w ws in let y =
    sum_by-cons (turns_of b) w ws in let z = turn_of-le a b w (omega arith) in omega arith

pub turns_left-two : (ws : List Work) (a : ℕ) → turns_left ws a ≤ length ws + length ws
unfolding turns_left
turns_left-two [] a = omega arith
turns_left-two (w ∷ ws) a = grind (arith, turns_left-two ws a, sum_by-cons (turns_of a) w ws)

pub turns_left-same : (ws : List Work) (i a : ℕ) (v : Work) → i < length ws → v.triple ≡ (work_at ws i).triple
    → v.done ≡ (work_at ws i).done → turns_left (set ws i v) a ≡ turns_left ws a
unfolding turns_left
turns_left-same ws i a v lt same done = grind (arith, sum_by-set)

pub turns_left-done : (ws : List Work) (i a : ℕ) (v : Work) → i < length ws → v.triple ≡ (work_at ws i).triple
    → v.done ≡ true → (work_at ws i).done ≡ false → turns_left (set ws i v) a < turns_left ws a
unfolding turns_left
turns_left-done ws i a v lt same done undone = grind (arith, sum_by-set)

pub ready_turns : (ws : List Work) (clock ready : ℕ) → IsReady ws clock ready
    → turns_left ws ready ≤ turns_left ws clock
ready_turns ws clock ready x = grind (arith, turns_left-le)

-- a turn ends one operation at most, so that each takes a turn
pub undone_of-one : (w : Work) → undone_of w ≤ 1
undone_of-one w = grind arith

pub undone-set : (ws : List Work) (i : ℕ) (v : Work) → i < length ws → undone ws ≤ undone (set ws i v) + 1
unfolding undone
undone-set ws i v lt = grind (arith, sum_by-set undone_of ws i v no_work lt, undone_of-one (work_at ws i))

pub undone-none : (ws : List Work) → ((k : ℕ) → k < length ws → (work_at ws k).done ≡ true) → undone ws ≡ 0
unfolding undone
undone-none [] h = refl
undone-none (w ∷ ws) h =
    let r = undone-none ws (λ k lt. h (suc k) (omega arith)) in let a = sum_by-cons undone_of w ws
    in let f : undone_of w ≡ 0 = rw (h 0 (omega arith)) refl in omega arith

undone-each : (ws : List Work) → ((k : ℕ) → k < length ws → (work_at ws k).done ≡ false) → undone ws ≡ length ws
unfolding undone
undone-each [] h = refl
undone-each (w ∷ ws) h =
    let r = undone-each ws (λ k lt. h (suc k) (omega arith)) in let a = sum_by-cons undone_of w ws
    in let f : undone_of w ≡ 1 = rw (h 0 (omega arith)) refl in omega arith

pub undone-fresh : (ws : List Work) → IsFresh ws → undone ws ≡ length ws
undone-fresh ws f = undone-each ws f.undone
