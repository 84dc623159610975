-- What is left, told entry by entry.
use Rattle.std.proofs.Common.{arith, ◌≡◌, ℕ, ◌+◌, ◌-◌, ◌≤◌, ◌<◌, List, [], ◌∷◌, ◌++◌, length, drop, get_or, sym, ◌∙◌}
use Rattle.std.proofs.Common.{ap, subst, Global, Vec, Result, Ok, Err, true, false, ltb, refl, Option, Some, None, inl}
use Rattle.std.proofs.{Common.inr, lemmas.{Bool.cases_Bool, List.Elements.{All-drop, All-weaker, filter-append}}}
use Rattle.std.proofs.lemmas.List.{Elements.recursion_from_All, map-append, length-map, drop-map, drop_more}
use Rattle.std.specs.{Prelude.IfOk, Arc.arc_slice_items, declared.alloc.AllocError.AllocError, List.AllByRecursion}
use Rattle.shop_model.specs.{Limits.IsWithinLimits, SharedWords.CanBeShared, Shop.Shop}
use Rattle.shop_model.proofs.WordLengths.{word_shared}
use Rattle.shop_bound.specs.Bound.{lb}
use Rattle.shop_nodes.specs.{Left.{left_words, open_nodes, AreLeft}, Nodes.{words_of, IsNode, AreNodes}, Halts.last_of}
use Rattle.shop_nodes.specs.Halts.{pending_words, stack_words, halted_words, IsPending, AreHalted}
use Rattle.shop_nodes.specs.inner.HeldNodes.{nodes_below, child_nodes, stack_nodes, halted_nodes, AreSharable}
use Rattle.shop_nodes.specs.{inner.HeldNodes.{AreWithinWord, IsHaltWithin}, declared.{nodes.Node.Node, halts.Halt.Halt}}
use Rattle.shop_nodes.{specs.declared.halts.Pending.{Pending, TheVariants.{Child, Rest}}, proofs.HighWalks.none_below}

closed_all : (shop : Shop) (c : ℕ) (ws : List (List ℕ)) → AllByRecursion (λ w. c ≤ lb shop w) ws
    → open_nodes shop c ws ≡ []
closed_all shop c ws high = grind (arith, none_below)

-- all nodes of what is pending from entry k on
pub all_more : (shop : Shop) (path : List ℕ) (pending : List Pending) (k : ℕ) (d : Pending)
    (nodes new added : List Node) → k < length pending
    → words_of nodes ≡ stack_words shop path (drop (k + 1) pending)
    → words_of added ≡ pending_words shop path (get_or pending k d) → new ≡ nodes ++ added
    → words_of new ≡ stack_words shop path (drop k pending)
all_more shop path pending k d nodes new added within so_far more put = grind (arith, map-append, drop_more)

open_append : (shop : Shop) (c : ℕ) (vs ws : List (List ℕ))
    → open_nodes shop c (vs ++ ws) ≡ open_nodes shop c vs ++ open_nodes shop c ws
open_append shop c vs ws = grind (arith, filter-append, map-append)

-- open nodes are those that hold bounds below the makespan
held_nodes : (shop : Shop) (c : ℕ) (ns : List Node) → AllByRecursion (IsNode shop) ns
    → open_nodes shop c (words_of ns) ≡ nodes_below c ns
held_nodes shop c [] are = refl
held_nodes shop c (n ∷ ns) are =
    let bound : lb shop n.word ≡ n.bound = sym are.0.1
    in let later = held_nodes shop c ns are.1
    in elim (cases_Bool (ltb n.bound c)) [
      | inl low ↦ (let same : ltb (lb shop n.word) c ≡ true = ap (λ b. ltb b c) bound ∙ low
          in rw (same, low) (λ i. (record { word = n.word; bound = bound i }) ∷ later i))
      | inr high ↦ (let same : ltb (lb shop n.word) c ≡ false = ap (λ b. ltb b c) bound ∙ high
          in rw (same, high) later)
    ]

held_pending : (shop : Shop) (c : ℕ) (path : List ℕ) (x : Pending) → IsPending shop c path x
    → open_nodes shop c (pending_words shop path x) ≡ nodes_below c (child_nodes path x)
held_pending shop c path (Child job depth bound) own = grind (arith, held_nodes)
held_pending shop c path (Rest depth count) own = grind (arith, closed_all)

held_stack : (shop : Shop) (c : ℕ) (path : List ℕ) (stack : List Pending)
    → AllByRecursion (IsPending shop c path) stack
    → open_nodes shop c (stack_words shop path stack) ≡ nodes_below c (stack_nodes path stack)
held_stack shop c path [] own = refl
held_stack shop c path (x ∷ stack) own =
    let above = held_stack shop c path stack own.1
    in let here = held_pending shop c path x own.0
    in open_append shop c (stack_words shop path stack) (pending_words shop path x)
    ∙ ((λ i. above i ++ here i)
    ∙ sym (filter-append (λ (n : Node). ltb n.bound c) (stack_nodes path stack) (child_nodes path x)))

held_halt : (shop : Shop) (c : ℕ) (h : Option Halt) → AreHalted shop c h
    → open_nodes shop c (halted_words shop h) ≡ nodes_below c (halted_nodes h)
held_halt shop c None own = refl
held_halt shop c (Some h) own = held_stack shop c (arc_slice_items h.path) h.pending.items own

pub held_left : (shop : Shop) (c : ℕ) (h : Option Halt) (ns : List Node) → AreLeft shop c h ns
    → open_nodes shop c (left_words shop h ns) ≡ nodes_below c (halted_nodes h ++ ns)
held_left shop c h ns own = grind (arith, held_halt, held_nodes, recursion_from_All, open_append, filter-append)

-- the words of what is pending go no further than the path and a job
within_stack : (shop : Shop) (c : ℕ) (path : List ℕ) (stack : List Pending)
    → AllByRecursion (IsPending shop c path) stack → AreWithinWord path stack
within_stack shop c path [] own = tt
within_stack shop c path (Child job depth bound ∷ stack) own = (own.0.depth, within_stack shop c path stack own.1)
within_stack shop c path (Rest depth count ∷ stack) own = (tt, within_stack shop c path stack own.1)

pub within_halt : (shop : Shop) (c : ℕ) (h : Option Halt) → AreHalted shop c h → IsHaltWithin h
within_halt shop c None own = tt
within_halt shop c (Some h) own = within_stack shop c (arc_slice_items h.path) h.pending.items own

-- nodes of an instance within the limits can share their jobs
pub can_be_shared : (shop : Shop) → IsWithinLimits shop → (ns : List Node) → AreNodes shop ns → AreSharable ns
can_be_shared shop limits ns own = All-weaker (IsNode shop) (λ n. CanBeShared n.word)
    (λ n is. word_shared shop n.word limits is.0) ns own

-- the last ones of all children
pub last_words : (words : List (List ℕ)) (all tail : List Node) (n : ℕ) → words_of all ≡ words
    → tail ≡ drop (length all - n) all → words_of tail ≡ last_of n words
last_words words all tail n are is = grind (arith, length-map, drop-map)

pub nodes_dropped : (shop : Shop) (all : List Node) (n : ℕ) (r : Result (Vec Node Global) AllocError)
    → AreNodes shop all → IfOk r (λ v. v.items ≡ drop n all) → IfOk r (λ v. AreNodes shop v.items)
nodes_dropped shop all n (Ok v) are is = subst (AreNodes shop) (sym is) (All-drop (IsNode shop) n all are)
nodes_dropped shop all n (Err e) are is = tt
