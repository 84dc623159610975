-- Candidates listed one after the other.
use Rattle.std.proofs.Common.{Bool, ltb, ◌≡◌, ℕ, zero, suc, ◌+◌, ◌-◌, ◌≤◌, ◌<◌, inl, inr, List, [], ◌∷◌, ◌++◌, length}
use Rattle.std.proofs.{Common.{drop, take, set, refl, sym, ◌∙◌, ap, subst, arith}, lemmas.Bool.{cases_Bool, cases_lt}}
use Rattle.std.proofs.lemmas.{Bool.{le-ltb, lt-ltb}, List.{append-nil, drop_all, take-set, take_all, take_more_set}}
use Rattle.std.proofs.lemmas.List.Elements.{All-cons, All-nil}
use mir.Val.{bool_byte}
use Rattle.shop_states.specs.declared.states.Candidate.{Candidate}
use Rattle.shop_states.specs.{States.AreOwnsBelow, inner.Candidates.{ListsOwn, empty, left_out, taken}}

pub at_most_one : (b : Bool) → bool_byte b ≤ 1
at_most_one b = grind (arith, cases_Bool)

-- a slice as long as the list that lent it
pub written_back : (n len : ℕ) (slice before : List Candidate) → length slice ≡ length before → len ≡ length before
    → take n (take len (slice ++ drop (length slice) before)) ≡ take n slice
written_back n len slice before long lent = grind (arith, drop_all, append-nil, take_all)

-- a sole one has the own number 0
pub sole_below : (limit job : ℕ) (cs : List Candidate) → cs ≡ record { job = job; own = 0 } ∷ []
    → AreOwnsBelow limit cs
sole_below limit job cs is = subst (AreOwnsBelow limit) (sym is)
    (All-cons (λ (c : Candidate). 0 < c.own → c.own < limit) _ [] (λ some. absurd (omega arith)) (All-nil _))

module _ (limit : ℕ) (own : ℕ → ℕ) where
  -- each that is listed is below the limit
  pub owns_below : {js : List ℕ} {cs : List Candidate} {n : ℕ} → ListsOwn limit own js cs n → AreOwnsBelow limit cs
  owns_below empty = All-nil _
  owns_below (taken {cs = cs} j c same is low rest) =
      All-cons (λ (x : Candidate). 0 < x.own → x.own < limit) c cs (λ some. omega arith) (owns_below rest)
  owns_below (left_out j high rest) = owns_below rest

  counted : {js : List ℕ} {cs : List Candidate} (n m : ℕ) → n ≡ m → ListsOwn limit own js cs n
      → ListsOwn limit own js cs m
  counted {js} {cs} n m same list = subst (λ (k : ℕ). ListsOwn limit own js cs k) same list

  -- two lists as one
  listed_append : {ys : List ℕ} {ds : List Candidate} (m : ℕ) → ListsOwn limit own ys ds m
      → {xs : List ℕ} {cs : List Candidate} {n : ℕ} → ListsOwn limit own xs cs n
      → ListsOwn limit own (xs ++ ys) (cs ++ ds) (n + m)
  listed_append m behind empty = counted m (zero + m) (omega arith) behind
  listed_append m behind (taken {n = n} j c same is low rest) = taken j c same is low (listed_append m behind rest)
  listed_append m behind (left_out {n = n} j low rest) =
      counted (suc (n + m)) (suc n + m) (omega arith) (left_out j low (listed_append m behind rest))

  -- a candidate is written behind those listed so far, and counted if it is below the limit
  pub one_more : (js : List ℕ) (all : List Candidate) (seen count more : ℕ) (c : Candidate)
      → count ≤ seen → count < length all → more ≡ bool_byte (ltb c.own limit) → c.own ≡ own c.job
      → ListsOwn limit own js (take count all) (seen - count)
      → ListsOwn limit own (js ++ c.job ∷ []) (take (count + more) (set all count c)) (seen + 1 - (count + more))
  one_more js all seen count more c some room told is list = elim (cases_lt c.own limit) [
    | inl below ↦ (let one : more ≡ 1 = told ∙ ap bool_byte (lt-ltb c.own limit below)
        in subst (λ (k : ℕ). ListsOwn limit own (js ++ c.job ∷ []) (take (count + k) (set all count c))
        (seen + 1 - (count + k))) (sym one)
        (subst (λ (cs : List Candidate). ListsOwn limit own (js ++ c.job ∷ []) cs (seen + 1 - (count + 1)))
        (sym (take_more_set all count c room))
        (counted (seen - count + 0) (seen + 1 - (count + 1)) (omega arith)
        (listed_append 0 (taken c.job c refl is (omega arith) empty) list))))
    | inr low ↦ (let none : more ≡ 0 = told ∙ ap bool_byte (le-ltb c.own limit low)
        in let same : take count all ++ [] ≡ take (count + 0) (set all count c) = append-nil (take count all)
        ∙ (sym (take-set all count c) ∙ ap (λ (k : ℕ). take k (set all count c)) (omega arith))
        in subst (λ (k : ℕ). ListsOwn limit own (js ++ c.job ∷ []) (take (count + k) (set all count c))
        (seen + 1 - (count + k))) (sym none)
        (subst (λ (cs : List Candidate). ListsOwn limit own (js ++ c.job ∷ []) cs (seen + 1 - (count + 0))) same
        (counted (seen - count + 1) (seen + 1 - (count + 0)) (omega arith)
        (listed_append 1 (left_out c.job (omega arith) empty) list))))
  ]

  -- nothing is left to do
  pub ended : (js done left whole : List ℕ) (cs : List Candidate) (n : ℕ) → done ++ left ≡ whole → left ≡ []
      → ListsOwn limit own (js ++ done) cs n → ListsOwn limit own (js ++ whole) cs n
  ended js done left whole cs n all nothing list = grind (arith, append-nil)
