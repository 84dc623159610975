-- Where heads stay as they are once one more operation is placed.
use Rattle.std.proofs.{Common.{◌≡◌, ℕ, zero, suc, ◌+◌, ◌-◌, ◌≤◌, ◌<◌, ◌⊎◌, refl, ap, arith}, lemmas.Bool.cases_eq}
use Rattle.shop_model.{specs.{Shop.{Shop, machine_of}, Word.Placing}, proofs.Placings.{IsNext, steps_grow}}
use Rattle.shop_bound.{specs.Heads.{ready_after, head_of}, proofs.HeadTurns.{ready_first, ready_more}}

module _ (shop : Shop) (p : Placing) (j : ℕ) (q : Placing) (n : IsNext shop p j q) where
  -- the machine of the operation
  abbrev pub its_machine : ℕ
  its_machine = machine_of shop j (p.steps j)

  -- the operation's end is at most the head before, or below the head after
  abbrev pub IsClear : ℕ → ℕ → Type 0
  IsClear i l = machine_of shop i l ≡ its_machine
      → (q.free its_machine ≤ head_of shop p i l) ⊎ (q.free its_machine < head_of shop q i l)

  pub steps_rise : (i : ℕ) → p.steps i ≤ q.steps i
  steps_rise = steps_grow shop p j q n

  pub free_rises : p.free its_machine ≤ q.free its_machine
  free_rises = let a = n.free_here its_machine refl in let b = n.begins_here in omega arith

  -- the job is ready for its first step that isn't placed as it was to be before
  pub ready_first_same : (i : ℕ) → q.ready i ≡ ready_after shop p i (q.steps i - p.steps i)
  ready_first_same i = grind (arith, cases_eq, ready_more, ready_first)

  -- a head, where the job is ready as before
  head_same : (i l r s : ℕ) → r ≡ s → r ≡ ready_after shop q i (l - q.steps i)
      → s ≡ ready_after shop p i (l - p.steps i) → IsClear i l → head_of shop q i l ≡ head_of shop p i l
  head_same i l r s same is_r is_s clear = grind (arith, cases_eq, free_rises)

  module _ (i : ℕ) where
    ready_same : (d l : ℕ) → q.steps i + d ≡ l → ((k : ℕ) → k < l → q.steps i ≤ k → IsClear i k)
        → ready_after shop q i (l - q.steps i) ≡ ready_after shop p i (l - p.steps i)
    ready_same zero l e clear = grind (arith, ready_first, ready_first_same)
    ready_same (suc d) l e clear =
        let k = q.steps i + d
        in let rises = steps_grow shop p j q n i
        in let f : l ≡ k + 1 = omega arith
        in let before = ready_same d k refl (λ x below opened. clear x (omega arith) opened)
        in let head = head_same i k (ready_after shop q i (k - q.steps i)) (ready_after shop p i (k - p.steps i))
        before refl refl (clear k (omega arith) (omega arith))
        in let now = ready_more shop q i k (omega arith)
        in let was = ready_more shop p i k (omega arith)
        in let a = ap (λ (x : ℕ). ready_after shop q i (x - q.steps i)) f
        in let b = ap (λ (x : ℕ). ready_after shop p i (x - p.steps i)) f
        in omega arith

    -- heads up to one that isn't placed stay, where all up to it are clear
    pub head_stays : (l : ℕ) → q.steps i ≤ l → ((k : ℕ) → k ≤ l → q.steps i ≤ k → IsClear i k)
        → head_of shop q i l ≡ head_of shop p i l
    head_stays l opened clear =
        head_same i l (ready_after shop q i (l - q.steps i)) (ready_after shop p i (l - p.steps i))
        (ready_same (l - q.steps i) l (omega arith) (λ k below from. clear k (omega arith) from)) refl refl
        (clear l (omega arith) opened)
