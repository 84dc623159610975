-- In a feasible table a machine serves one job at most at each instant.
use Rattle.std.proofs.{lemmas.Grind.common_steps, Common.{Some, None, refl, ap, ◌∙◌, arith}}
use Rattle.std.proofs.Common.{◌≡◌, ℕ, zero, suc, ◌+◌, ◌*◌, ◌<◌, ◌≤◌, Bool, true, false, ◌&&◌, rules, List, length, map}
use Rattle.std.proofs.lemmas.Bool.{cases_eq, eq-eqb, eqb-true, leb-true, le-leb, ltb-true, lt-ltb}
use Rattle.std.proofs.lemmas.List.FromFn.{fill_by_all}
use Rattle.std.specs.{Prelude.find, List.{range_with_len, list_any}, Option.option_map_or}
use Rattle.shop_model.specs.Shop.{Shop, Starts, route_of, machine_of, IsOperation, IsFeasible, finish_of}
use Rattle.shop_text.specs.Writing.{character_of, is_served, serves, shown_at, ShowsTheJob}
use Rattle.shop_text.specs.inner.Cells.{last_shown, ShowsJobs}

-- ---- tests over a range

pub some_in_range : (p : ℕ → Bool) (a n : ℕ) → list_any p (range_with_len a n) ≡ true
    → (k : ℕ) × (k < a + n) × (p k ≡ true)
some_in_range p a zero e = absurd cc
some_in_range p a (suc n) e = grind (arith, some_in_range p (a + 1) n)

pub none_in_range : (p : ℕ → Bool) (a n : ℕ) → list_any p (range_with_len a n) ≡ false → (k : ℕ) → a ≤ k → k < a + n
    → p k ≡ false
none_in_range p a zero e k low high = absurd (omega arith)
none_in_range p a (suc n) e k low high = grind (arith, cases_eq, none_in_range p (a + 1) n)

pub any_at : (p : ℕ → Bool) (a n k : ℕ) → a ≤ k → k < a + n → p k ≡ true → list_any p (range_with_len a n) ≡ true
any_at p a n k low high e = at (list_any p (range_with_len a n)) refl
  where
    at : (b : Bool) → list_any p (range_with_len a n) ≡ b → b ≡ true
    at true is = refl
    at false is = absurd (let none = none_in_range p a n is k low high in cc)

-- the first, where there is just one
only_found : (p : ℕ → Bool) (a n j : ℕ) → a ≤ j → j < a + n → p j ≡ true → ((i : ℕ) → p i ≡ true → i ≡ j)
    → find p (range_with_len a n) ≡ Some j
only_found p a zero j low high e only = absurd (omega arith)
only_found p a (suc n) j low high e only = grind (arith, common_steps, cases_eq, only_found p (a + 1) n j)

none_found : (p : ℕ → Bool) (a n : ℕ) → ((i : ℕ) → p i ≡ false) → find p (range_with_len a n) ≡ None
none_found p a zero none = refl
none_found p a (suc n) none = grind (arith, common_steps, none_found p (a + 1) n none)

-- ---- one job at most

three : (a b d : Bool) → (a && b && d) ≡ true → (a ≡ true) × (b ≡ true) × (d ≡ true)
three x b d e = grind arith

-- what it is to be served
pub record IsServed (shop : Shop) (starts : Starts) (machine instant j k : ℕ) : Type 0 where
  pub operation : IsOperation shop j k
  pub on_machine : machine_of shop j k ≡ machine
  pub begun : starts j k ≤ instant
  pub not_ended : instant < finish_of shop starts j k

pub served_step : (shop : Shop) (starts : Starts) (machine instant j : ℕ) → serves shop starts machine instant j ≡ true
    → (k : ℕ) × IsServed shop starts machine instant j k
served_step shop starts machine instant j e = grind (arith, some_in_range, three, eqb-true, leb-true, ltb-true)

and_three : (a b d : Bool) → a ≡ true → b ≡ true → d ≡ true → (a && b && d) ≡ true
and_three x b d e f g = grind arith

pub serves_step : (shop : Shop) (starts : Starts) (machine instant j k : ℕ) → IsServed shop starts machine instant j k
    → serves shop starts machine instant j ≡ true
serves_step shop starts machine instant j k h =
    any_at (is_served shop starts machine instant j) 0 (length (route_of shop j)) k (omega arith)
    (let operation = h.operation in omega arith)
    (and_three _ _ _ (eq-eqb _ _ h.on_machine) (le-leb _ _ h.begun) (lt-ltb _ _ h.not_ended))

pub one_job : (shop : Shop) (starts : Starts) → IsFeasible shop starts → (machine instant i j : ℕ)
    → serves shop starts machine instant i ≡ true → serves shop starts machine instant j ≡ true → i ≡ j
one_job shop starts feasible machine instant i j e f = grind (arith, common_steps, served_step, cases_eq)

-- ---- what is shown

serving_job : (shop : Shop) (starts : Starts) (machine instant j : ℕ) → serves shop starts machine instant j ≡ true
    → j < length shop.jobs
serving_job shop starts machine instant j e = grind (arith, common_steps)

pub shown_job : (shop : Shop) (starts : Starts) → IsFeasible shop starts → (machine instant j : ℕ)
    → serves shop starts machine instant j ≡ true → shown_at shop starts machine instant ≡ character_of j
shown_job shop starts feasible machine instant j e =
    ap (λ o. option_map_or character_of o 46)
    (only_found (serves shop starts machine instant) 0 (length shop.jobs) j (omega arith)
    (omega (arith, serving_job shop starts machine instant j e)) e
    (λ i f. one_job shop starts feasible machine instant i j f e))

pub shown_none : (shop : Shop) (starts : Starts) (machine instant : ℕ)
    → ((i : ℕ) → serves shop starts machine instant i ≡ false) → shown_at shop starts machine instant ≡ 46
shown_none shop starts machine instant none = grind (arith, common_steps, none_found)

last_job : (shop : Shop) (starts : Starts) → IsFeasible shop starts → (machine instant j n : ℕ) → j < n
    → serves shop starts machine instant j ≡ true → last_shown shop starts machine instant n ≡ character_of j
last_job shop starts feasible machine instant j zero h e = absurd (omega arith)
last_job shop starts feasible machine instant j (suc n) h e =
    search (rules, one_job, cases_eq, last_job shop starts feasible machine instant j n)

last_none : (shop : Shop) (starts : Starts) (machine instant n : ℕ)
    → ((i : ℕ) → serves shop starts machine instant i ≡ false) → last_shown shop starts machine instant n ≡ 46
last_none shop starts machine instant zero none = refl
last_none shop starts machine instant (suc n) none = grind (arith, last_none shop starts machine instant n none)

-- nobody serves, if none of the jobs does
none_serves : (shop : Shop) (starts : Starts) (machine instant : ℕ)
    → list_any (serves shop starts machine instant) (range_with_len 0 (length shop.jobs)) ≡ false → (i : ℕ)
    → serves shop starts machine instant i ≡ false
none_serves shop starts machine instant none i = at (serves shop starts machine instant i) refl
  where
    at : (b : Bool) → serves shop starts machine instant i ≡ b → b ≡ false
    at false is = refl
    at true is = absurd (let other = none_in_range (serves shop starts machine instant) 0 (length shop.jobs) none i
        (omega arith) (omega (arith, serving_job shop starts machine instant i is)) in cc)

pub last_is_shown : (shop : Shop) (starts : Starts) → IsFeasible shop starts → (machine instant : ℕ)
    → last_shown shop starts machine instant (length shop.jobs) ≡ shown_at shop starts machine instant
last_is_shown shop starts feasible machine instant =
    at (list_any (serves shop starts machine instant) (range_with_len 0 (length shop.jobs))) refl
  where
    at : (b : Bool) → list_any (serves shop starts machine instant) (range_with_len 0 (length shop.jobs)) ≡ b
        → last_shown shop starts machine instant (length shop.jobs) ≡ shown_at shop starts machine instant
    at x some = grind (arith, some_in_range, last_job, shown_job, none_serves, last_none, shown_none)

-- the cells of a machine, all jobs being shown
pub all_shown : (shop : Shop) (starts : Starts) → IsFeasible shop starts → (machine unit : ℕ) (cells : List ℕ) (n : ℕ)
    → length cells ≡ n → ShowsJobs shop starts machine unit cells (length shop.jobs)
    → cells ≡ map (λ column. shown_at shop starts machine (column * unit)) (range_with_len 0 n)
all_shown shop starts feasible machine unit cells n same shown =
    fill_by_all (λ column. shown_at shop starts machine (column * unit)) cells n 0 same
    (λ k h. shown k (omega arith) ∙ last_is_shown shop starts feasible machine (k * unit))

-- ---- the law

pub columns_show : ShowsTheJob
columns_show = record {
  served = search (rules, shown_job, serves_step);
  idle = λ shop starts machine instant idle. shown_none shop starts machine instant
      (λ i. never shop starts machine instant idle i (serves shop starts machine instant i) refl);
}
  where
    never : (shop : Shop) (starts : Starts) (machine instant : ℕ)
        → ((j k : ℕ) → IsOperation shop j k → machine_of shop j k ≡ machine → starts j k ≤ instant
        → finish_of shop starts j k ≤ instant)
        → (i : ℕ) (b : Bool) → serves shop starts machine instant i ≡ b → b ≡ false
    never shop starts machine instant idle i x is = grind (arith, served_step)
