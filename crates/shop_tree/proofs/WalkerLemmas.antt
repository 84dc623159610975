-- The turns of a walk, told of where it stands before and after.
use Rattle.std.proofs.Common.{◌≡◌, ℕ, zero, suc, ◌+◌, ◌-◌, ◌*◌, ◌≤◌, ◌<◌, Option, List, [], ◌∷◌, ◌++◌, length, refl}
use Rattle.std.proofs.{Common.{get_or, sym, ◌∙◌, ap, subst, arith}, lemmas.{Bool.cases_lt, List.Sums.fold-append}}
use Rattle.std.proofs.lemmas.List.{length_push, length-drop, drop_all, drop-drop}
use Rattle.std.{specs.{Prelude.{take, drop}, List.{AllByRecursion, fold}}, proofs.Math.Seq.drop-cons}
use Rattle.shop_model.specs.{Shop.{Shop, operation_count}, Word.IsWord}
use Rattle.shop_bound.specs.Bound.{lb}
use Rattle.shop_nodes.specs.{Branching.branch, Nodes.words_of, Pieces.walk_told, Walking.{walk, sheet}}
use Rattle.shop_nodes.specs.Halts.{open_child, word_at, last_of, pending_words, stack_words, IsClosed}
use Rattle.shop_nodes.specs.declared.{nodes.Node.Node, halts.{Open.Open, Pending.TheVariants.Rest}}
use Rattle.shop_nodes.proofs.HighWalks.{high-taken, none-walked}
use Rattle.shop_tree.specs.inner.{Opens.AreChildren, Walkers.{node_walk, spent_one, stack_walk, turns_left, walk_on}}
use Rattle.shop_tree.specs.inner.Walkers.{HasExpanded, HasWalked, HasWalkedUpTo, IsInOrder, IsTurn, Stage, on_top}
use Rattle.shop_tree.{specs.inner.Searching.{walk_stack, opening_walk}, proofs.OpenLemmas.{popped, replaced, walk-top}}
use Rattle.shop_tree.proofs.{TurnLemmas.{below_pending, child_walks}, ExpandLemmas.{ends_closed, enters, cuts}}

-- turns over plain numbers
one_spent : (b jobs rest one : ℕ) → 0 < b → one ≡ rest + 1
    → (b - 1) * (jobs + 2) + rest + jobs + 1 < b * (jobs + 2) + one
one_spent b jobs rest one some same = grind arith

one_less : (b b' jobs rest one : ℕ) → b' ≤ b → one ≡ rest + 1
    → b' * (jobs + 2) + rest < b * (jobs + 2) + one
one_less b b' jobs rest one le top = grind arith

none_spent : (b jobs new one : ℕ) → 0 < b → new ≡ one → 0 * (jobs + 2) + new < b * (jobs + 2) + one
none_spent b jobs new one some same = grind arith

-- a child is cut off
pub turn_cut : (s : Stage) (o : Open) → IsInOrder (on_top s (open_child o)) → 0 < s.walk.budget → s.walk.best ≤ o.bound
    → IsTurn s (open_child o) (record s { walk = spent_one s.walk })
turn_cut s o on some high =
    let p = popped s.stack (open_child o) on
    in let own = p.own.bound
    in record {
      walk = ap (λ t. walk_stack s.shop s.word t s.stack)
          (sym (cuts s.shop s.walk (word_at s.word o) some (omega arith)))
          ∙ sym (walk-top s.shop s.walk s.word s.stack (open_child o));
      in_order = p.rest_pending;
      fewer = one_less s.walk.budget (s.walk.budget - 1) (length s.shop.jobs) (length s.stack)
          (length (s.stack ++ open_child o ∷ [])) (omega arith) (length_push s.stack (open_child o));
      shop = refl;
      spent = omega arith;
    }

-- the walk goes on to it
abbrev pub went_to : Stage → Open → Stage
went_to s o = record s { word = word_at s.word o; walk = spent_one s.walk }

pub went_in_order : (s : Stage) (o : Open) → IsInOrder (on_top s (open_child o)) → IsInOrder (went_to s o)
went_in_order s o on = below_pending s.shop s.walk.best s.word s.stack o on

pub went_walk : (s : Stage) (o : Open) → IsInOrder (on_top s (open_child o)) → 0 < s.walk.budget
    → o.bound < s.walk.best → walk_on (went_to s o) ≡ stack_walk (on_top s (open_child o))
went_walk s o on some below =
    let own = (popped s.stack (open_child o) on).own.bound
    in child_walks s.shop s.walk.best s.word s.stack o on s.walk (spent_one s.walk)
    (enters s.shop s.walk (word_at s.word o) some (omega arith))

pub went_turns : (s : Stage) (o : Open) → 0 < s.walk.budget
    → turns_left (went_to s o) + length s.shop.jobs + 1 < turns_left (on_top s (open_child o))
went_turns s o some = one_spent s.walk.budget (length s.shop.jobs) (length s.stack)
    (length (s.stack ++ open_child o ∷ [])) some (length_push s.stack (open_child o))

-- the last of the last ones
last_last : {A : Type 0} (xs : List A) (n m : ℕ) → n ≤ m → m ≤ length xs → drop n (last_of m xs) ≡ last_of (m - n) xs
last_last xs n m le few = grind (arith, drop-drop)

length-last : {A : Type 0} (xs : List A) (n : ℕ) → n ≤ length xs → length (last_of n xs) ≡ n
length-last xs n few = let a = length-drop (length xs - n) xs in omega arith

-- closed children are counted, as far as the budget goes
module _ (s : Stage) (depth count n : ℕ) (on : IsInOrder (on_top s (Rest depth count))) (some : n ≤ s.walk.budget)
    (within : n ≤ count) where
  abbrev kids : List (List ℕ)
  kids = branch s.shop (take depth s.word)

  counted : fold (walk s.shop) s.walk (last_of count kids)
      ≡ fold (walk s.shop) (record s.walk { budget = s.walk.budget - n }) (last_of (count - n) kids)
  counted =
      let own = (popped s.stack (Rest depth count) on).own
      in let long = length-last kids count own.few
      in high-taken s.shop s.walk n (last_of count kids) some own.high (omega arith)
      ∙ ap (fold (walk s.shop) (record s.walk { budget = s.walk.budget - n })) (last_last kids n count within own.few)

-- all of them
pub turn_counted : (s : Stage) (depth count : ℕ) → IsInOrder (on_top s (Rest depth count)) → count ≤ s.walk.budget
    → IsTurn s (Rest depth count) (record s { walk = record s.walk { budget = s.walk.budget - count } })
turn_counted s depth count on some =
    let p = popped s.stack (Rest depth count) on
    in let kids = branch s.shop (take depth s.word)
    in let left : last_of (count - count) kids ≡ [] = drop_all (length kids - (count - count)) kids (omega arith)
    in record {
      walk = ap (λ t. walk_stack s.shop s.word t s.stack)
          (sym (counted s depth count count on some (omega arith)
          ∙ ap (fold (walk s.shop) (record s.walk { budget = s.walk.budget - count })) left))
          ∙ sym (walk-top s.shop s.walk s.word s.stack (Rest depth count));
      in_order = p.rest_pending;
      fewer = one_less s.walk.budget (s.walk.budget - count) (length s.shop.jobs) (length s.stack)
          (length (s.stack ++ Rest depth count ∷ [])) (omega arith) (length_push s.stack (Rest depth count));
      shop = refl;
      spent = omega arith;
    }

-- the others are still pending
abbrev pub halted_at : Stage → ℕ → ℕ → Stage
halted_at s depth count = record s {
  walk = record s.walk { budget = 0 };
  stack = s.stack ++ Rest depth (count - s.walk.budget) ∷ [];
}

fewer_closed : (shop : Shop) (best : ℕ) (word : List ℕ) (depth count n : ℕ) → n ≤ count
    → IsClosed shop best word depth count → IsClosed shop best word depth (count - n)
fewer_closed shop best word depth count n le own =
    let kids = branch shop (take depth word)
    in let few = own.few
    in record {
      depth = own.depth;
      short = own.short;
      is_word = own.is_word;
      few = omega arith;
      high = subst (λ (ws : List (List ℕ)). AllByRecursion (λ v. best ≤ lb shop v) ws)
          (last_last kids n count le own.few) (all_dropped n (last_of count kids) own.high);
    }
  where
    all_dropped : (k : ℕ) (ws : List (List ℕ)) → AllByRecursion (λ v. best ≤ lb shop v) ws
        → AllByRecursion (λ v. best ≤ lb shop v) (drop k ws)
    all_dropped zero ws h = h
    all_dropped (suc k) [] h = h
    all_dropped (suc k) (w ∷ ws) h = all_dropped k ws h.1

pub turn_halted : (s : Stage) (depth count : ℕ) → IsInOrder (on_top s (Rest depth count)) → 0 < s.walk.budget
    → s.walk.budget ≤ count → IsTurn s (Rest depth count) (halted_at s depth count)
turn_halted s depth count on some few =
    let b = s.walk.budget
    in let p = popped s.stack (Rest depth count) on
    in let rest = Rest depth (count - b)
    in record {
      walk = walk-top s.shop (record s.walk { budget = 0 }) s.word s.stack rest
          ∙ (ap (λ t. walk_stack s.shop s.word t s.stack)
          (ap (λ k. fold (walk s.shop) (record s.walk { budget = k }) (pending_words s.shop s.word rest))
          (let e : 0 ≡ b - b = omega arith in e)
          ∙ sym (counted s depth count b on (omega arith) few))
          ∙ sym (walk-top s.shop s.walk s.word s.stack (Rest depth count)));
      in_order = replaced s.shop s.walk.best s.word s.stack (Rest depth count) rest on refl
          (fewer_closed s.shop s.walk.best s.word depth count b few p.own);
      fewer = none_spent b (length s.shop.jobs) (length (s.stack ++ rest ∷ []))
          (length (s.stack ++ Rest depth count ∷ [])) some (length_push s.stack rest ∙ sym (length_push s.stack (Rest
          depth count)));
      shop = refl;
      spent = omega arith;
    }

-- the word has closed children alone, and these are counted
pub ends_counted : (s : Stage) (n : ℕ) → IsWord s.shop s.word → length s.word < operation_count s.shop
    → AreChildren s.shop s.walk.best s.word [] n → IsInOrder s → n ≤ s.walk.budget
    → HasExpanded s (record s { walk = record s.walk { budget = s.walk.budget - n } })
ends_counted s zero is short kids ordered some =
    let same : s.walk.budget ≡ s.walk.budget - 0 = omega arith
    in subst (λ (b : ℕ). HasExpanded s (record s { walk = record s.walk { budget = b } })) same
    (ends_closed s 0 s.stack is short kids ordered refl)
ends_counted s (suc n) is short kids ordered some =
    let e = ends_closed s (suc n) (s.stack ++ Rest (length s.word) (suc n) ∷ []) is short kids ordered refl
    in let t = turn_counted s (length s.word) (suc n) e.in_order some
    in record {
      walk = t.walk ∙ e.walk;
      in_order = t.in_order;
      fewer = (let a = t.fewer in let b = e.fewer in omega arith);
      shop = refl;
      spent = omega arith;
    }

-- a node that the walk goes on from
abbrev pub at_node : Stage → Node → Stage
at_node s node = record s { word = node.word; walk = spent_one s.walk }

pub node_walked : (s t : Stage) (node : Node) → s.stack ≡ [] → 0 < s.walk.budget
    → lb s.shop node.word < s.walk.best → HasWalked (at_node s node) t (walk_on (at_node s node))
    → HasWalked s t (node_walk s node)
node_walked s t node empty some below h = grind (arith, enters)

-- one more node was walked
pub nodes_on : (s m t : Stage) (nodes : List Node) (k : ℕ) (node : Node) → node ≡ get_or nodes k node → k < length nodes
    → 0 < m.walk.budget → HasWalkedUpTo s m nodes k → HasWalked m t (node_walk m node) → HasWalkedUpTo s t nodes (k + 1)
nodes_on s m t nodes k node at here some old new =
    let e = drop-cons nodes k node here in let none = old.done some in grind (arith, e, none)

-- what a walk of nodes comes to, from nothing on
pub told_sheet : (s t : Stage) (nodes : List Node) (k : ℕ) (shop : Shop) (best budget : ℕ) → s.shop ≡ shop
    → s.walk ≡ opening_walk best budget → t.walk.left ≡ [] → HasWalkedUpTo s t nodes k
    → (0 < t.walk.budget → length nodes ≤ k)
    → walk_told t.walk.found t.walk.best (stack_words t.shop t.word t.stack ++ words_of (drop k nodes))
    (budget - (budget - t.walk.budget))
    ≡ sheet shop (words_of nodes) best budget
told_sheet s t nodes k shop best budget same begun none h over =
    grind (arith, cases_lt, drop_all, none-walked, fold-append)

-- and the sheet that tells of it
pub sheet_told : (s t : Stage) (nodes : List Node) {all untaken : List Node} (k : ℕ) {shop : Shop} {best budget : ℕ}
    {found : Option (List ℕ)} {halted words : List (List ℕ)} → s.shop ≡ shop
    → s.walk ≡ opening_walk best budget → t.walk.left ≡ [] → HasWalkedUpTo s t nodes k
    → (0 < t.walk.budget → length nodes ≤ k) → nodes ≡ all → untaken ≡ drop k nodes → found ≡ t.walk.found
    → halted ≡ stack_words t.shop t.word t.stack → words ≡ halted ++ words_of untaken
    → walk_told found t.walk.best words (budget - (budget - t.walk.budget)) ≡ sheet shop (words_of all) best budget
sheet_told s t nodes {untaken} k {shop} {best} {budget} {found} {words} same begun none h over alike left is halts are =
    grind (arith, told_sheet)
