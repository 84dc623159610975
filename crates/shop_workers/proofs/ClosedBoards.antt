-- What the hit word is in the end, where one seat has won all pieces and marked those that it had to.
use Rattle.std.proofs.Common.{◌≡◌, ℕ, ◌<◌, List, [], ◌∷◌, length, Bool, true, false, sym, subst, ⊎_elim, eqb, arith}
use Rattle.std.proofs.{lemmas.Bool.{both_ways, cases_Bool}, lemmas.Map.Steps.length-le_from_distinct_below}
use Rattle.std.specs.List.{IsDistinct, AllByRecursion}
use mathlib.Core.Option.{some}
use lib.ListN.{get_elem?}
use Rattle.shop_workers.specs.{declared.views.View.View, Views.{has, once, HasHandled, ArePieces, HasAll, HasAsMany}}
use Rattle.shop_workers.{specs.Moments.{hit_word, IsLive, IsLawful}, proofs.Numbers.{has_cons, has_tail, is_false}}
use Rattle.shop_workers.proofs.{Numbers.{once_first, once_others, once_cons}, Words.word_read, LawfulSteps.Moment}
use Rattle.shop_runs.specs.Hits.{is_hit_in, IsLeastHit}

differs : (x : ℕ) (xs : List ℕ) → (has xs x ≡ true → ⊥) → AllByRecursion (λ y. eqb x y ≡ false) xs
differs x [] none = tt
differs x (y ∷ ys) none = grind (arith, is_false, has_tail, differs x ys)

distinct : (xs : List ℕ) → once xs ≡ true → IsDistinct eqb xs
unfolding IsDistinct
distinct [] o = tt
distinct (x ∷ xs) o = (differs x xs (once_first x xs o), distinct xs (once_others x xs o))

-- Where numbers below n, of which none stands twice, are as many as n, each stands among them.
pub all_stand : (xs : List ℕ) (n k : ℕ) → once xs ≡ true → ((q : ℕ) → has xs q ≡ true → q < n) → length xs ≡ n → k < n
    → has xs k ≡ true
all_stand xs n k o below full inside =
    ⊎_elim (λ there. there) (λ none. absurd (too_many none)) (cases_Bool (has xs k)) where
      too_many : has xs k ≡ false → ⊥
      too_many none =
          let apart = once_cons k xs (both_ways (has xs k) none) o in
          let within : (q : ℕ) → has (k ∷ xs) q ≡ true → q < n =
          λ q h. ⊎_elim (λ (e : k ≡ q). subst (λ j. j < n) e inside) (λ old. below q old) (has_cons k q xs h) in
          let many = length-le_from_distinct_below (k ∷ xs) n (distinct (k ∷ xs) apart) within in
          omega arith

-- what a seat that has won all pieces and handled them knows of the hit word
ends : (hits : List Bool) (s : Moment) (id : ℕ) (v : View) → IsLawful hits s → IsLive s.views id v
    → HasAll v → HasHandled v → IsLeastHit hits (hit_word hits s.words)
ends hits s id v law at all handled = record {
  hit = law.hit;
  least = λ m below h.
      let k = law.knows id v at in
      let mine : has v.mine m ≡ true = all m (subst (λ l. m < length l) (sym k.same) below) in
      let hit : is_hit_in v.hits m ≡ true = subst (λ l. is_hit_in l m ≡ true) (sym k.same) h in
      let b = k.below in ⊎_elim (λ d. (k.done m d).2) (λ (l : v.low < m). omega arith) (handled m mine hit);
}

-- the word that is read of a closed table
pub closes : (hits : List Bool) (s : Moment) (id : ℕ) (v : View) (words : List ℕ) (last found : ℕ) → IsLawful hits s
    → get_elem? s.views id ≡ some v → v.live ≡ true → HasAll v → HasHandled v → s.words ≡ words → last ≡ length hits
    → get_elem? words last ≡ some found → IsLeastHit hits found
closes hits s id v words last found law at live all handled same last_is read = grind (arith, word_read, ends)

-- as many pieces as there are, none of them twice, are all of them
pub as_many_is_all : (v : View) → once v.mine ≡ true → ArePieces v.hits v.mine → HasAsMany v → HasAll v
as_many_is_all v o pieces full n inside = all_stand v.mine (length v.hits) n o pieces full inside
