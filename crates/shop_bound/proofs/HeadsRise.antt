-- No head falls once one more operation is placed.
use Rattle.std.proofs.Common.{◌≡◌, ℕ, zero, suc, ◌+◌, ◌-◌, ◌≤◌, refl, ap, arith}
use Rattle.shop_model.{specs.{Shop.{Shop, machine_of}, Word.Placing}, proofs.Placings.{IsNext, steps_grow, free_grows}}
use Rattle.shop_bound.specs.Heads.{ready_after, head_of}
use Rattle.shop_bound.proofs.{HeadTurns.{ready_first, ready_more}, HeadsStay.ready_first_same}

module _ (shop : Shop) (p : Placing) (j : ℕ) (q : Placing) (n : IsNext shop p j q) where
  module _ (i : ℕ) where
    ready_up : (d l : ℕ) → q.steps i + d ≡ l
        → ready_after shop p i (l - p.steps i) ≤ ready_after shop q i (l - q.steps i)
    ready_up zero l e = grind (arith, ready_first, ready_first_same)
    ready_up (suc d) l e =
        let k = q.steps i + d
        in let rises = steps_grow shop p j q n i
        in let f : l ≡ k + 1 = omega arith
        in let before = ready_up d k refl
        in let free = free_grows shop p j q n (machine_of shop i k)
        in let now = ready_more shop q i k (omega arith)
        in let was = ready_more shop p i k (omega arith)
        in let a = ap (λ (x : ℕ). ready_after shop q i (x - q.steps i)) f
        in let b = ap (λ (x : ℕ). ready_after shop p i (x - p.steps i)) f
        in omega arith

    pub heads_up : (l : ℕ) → q.steps i ≤ l → head_of shop p i l ≤ head_of shop q i l
    heads_up l opened = let a = ready_up (l - q.steps i) l (omega arith)
        in let b = free_grows shop p j q n (machine_of shop i l)
        in omega arith
