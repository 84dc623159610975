-- Children put on a stack: open ones, and before them, if there are others, their number.
use Rattle.std.proofs.Common.{rules, ◌≡◌, ℕ, zero, suc, ◌+◌, ◌-◌, ◌≤◌, ◌<◌, List, [], ◌∷◌, ◌++◌, length, map, take}
use Rattle.std.proofs.{Common.{reverse, refl, ◌∙◌, ap, arith, append_assoc, append-nil}, Math.Seq.take-length}
use Rattle.std.proofs.lemmas.List.{length-map, length-reverse, length-append, drop_at, nil_from_length}
use Rattle.shop_model.specs.{Shop.{Shop, operation_count}, Word.IsWord}
use Rattle.shop_bound.specs.Bound.{lb}
use Rattle.shop_nodes.specs.{Branching.{branch, conflict}, Halts.{open_child, last_of, IsClosed, IsPending}}
use Rattle.shop_nodes.specs.declared.halts.{Open.Open, Pending.{Pending, TheVariants.Rest}}
use Rattle.shop_tree.specs.inner.{Opens.{open_words, IsAt, AreChildren}, Searching.Adds}
use Rattle.shop_tree.proofs.{Pushing.{with_opens, with_rest}, OpenLemmas.{opens-words, all-opens}}
use Rattle.shop_nodes.proofs.WalkSteps.{branch_few, length-sort_by}

-- the last elements are the second part
last_part : {A : Type 0} (xs ys : List A) → last_of (length ys) (xs ++ ys) ≡ ys
last_part xs ys = drop_at xs ys (length (xs ++ ys) - length ys) (let a = length-append xs ys in omega arith)

module _ {shop : Shop} {limit : ℕ} {word : List ℕ} {opens : List Open} {n : ℕ}
    (kids : AreChildren shop limit word opens n) where
  counts : length opens + n ≡ length (branch shop word)
  counts = grind (arith, length-append, length-reverse, length-map)

  pub few_open : length opens + n ≤ length shop.jobs
  few_open = let a = counts in let b = branch_few shop word in omega arith

  last_are : last_of n (branch shop word) ≡ kids.others
  last_are = grind (arith, last_part)

  closed_last : IsWord shop word → length word < operation_count shop → IsClosed shop limit word (length word) n
  closed_last is short = grind (arith, take-length, counts, last_are)

  -- the words of both
  all_words : reverse (open_words word opens) ++ last_of n (branch shop (take (length word) word)) ≡ branch shop word
  all_words = grind (arith, take-length, last_are)

-- what lies on top then
pub adds-children : (shop : Shop) (best : ℕ) (word : List ℕ) (opens : List Open) (n : ℕ) (old : List Pending)
    → IsWord shop word → length word < operation_count shop → AreChildren shop best word opens n
    → Adds shop best word old (with_opens (with_rest old (length word) n) opens)
adds-children shop best word opens zero old is short kids =
    grind (arith, opens-words, append-nil, nil_from_length, all-opens)
adds-children shop best word opens (suc n) old is short kids = record {
  added = Rest (length word) (suc n) ∷ map (λ o. open_child o) opens;
  stack = append_assoc old (Rest (length word) (suc n) ∷ []) (map (λ o. open_child o) opens);
  words = ap (λ ws. ws ++ last_of (suc n) (branch shop (take (length word) word))) (opens-words shop word opens)
      ∙ all_words kids;
  each = (closed_last kids is short, all-opens (IsPending shop best word) opens kids.each);
  depth = (refl, all-opens (IsAt (length word)) opens kids.depth);
}

length-with : (old : List Pending) (opens : List Open) → length (with_opens old opens) ≡ length old + length opens
length-with old opens = grind (arith, length-append, length-map)

pub few-children : (shop : Shop) (limit : ℕ) (word : List ℕ) (opens : List Open) (n depth : ℕ) (old : List Pending)
    → AreChildren shop limit word opens n
    → length (with_opens (with_rest old depth n) opens) ≤ length old + length shop.jobs + 1
few-children shop limit word opens zero depth old kids = search (rules, length-with, few_open)
few-children shop limit word opens (suc n) depth old kids =
    let a = length-with (old ++ Rest depth (suc n) ∷ []) opens in let b = length-append old (Rest depth (suc n) ∷ [])
    in let c = few_open kids in omega arith

pub long_rest : (old : List Pending) (depth n : ℕ) → length (with_rest old depth n) ≤ length old + 1
long_rest old depth zero = omega arith
long_rest old depth (suc n) = let a = length-append old (Rest depth (suc n) ∷ []) in omega arith

pub conflict_few : (shop : Shop) (word : List ℕ) → length (conflict shop word) ≤ length shop.jobs
conflict_few shop word =
    let a = branch_few shop word in let b = length-sort_by (lb shop) (map (λ j. word ++ j ∷ []) (conflict shop word))
    in let d = length-map (conflict shop word) (λ j. word ++ j ∷ []) in omega arith
