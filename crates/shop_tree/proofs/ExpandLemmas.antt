-- Where a walk goes on from the word that it came to.
use Rattle.std.proofs.Common.{◌≡◌, ℕ, suc, ◌+◌, ◌-◌, ◌*◌, ◌≤◌, ◌<◌, Some, List, [], ◌∷◌, ◌++◌, length, map, refl, sym}
use Rattle.std.proofs.{Common.{◌∙◌, ap, subst, arith, append-nil}, lemmas.List.length_push, Math.Seq.take-append_seam}
use Rattle.std.{proofs.Math.Seq.take-length, specs.{Prelude.take, List.fold}}
use Rattle.shop_model.specs.{Shop.{Shop, operation_count}, Word.IsWord}
use Rattle.shop_bound.{specs.{Bound.lb, Conflicts.SoleCandidateKeepsBound}, proofs.Lists.all_map}
use Rattle.shop_nodes.specs.{Branching.{branch, conflict, sort_by}, Walking.{Walk, walk}, Halts.{open_child, word_at}}
use Rattle.shop_nodes.{specs.{Halts.IsPending, declared.halts.{Open.Open, Pending.Pending}}, proofs.WalkSteps.walk-cut}
use Rattle.shop_tree.specs.inner.{Walkers.on_top, Searching.{walk_stack, Adds, entered}, Opens.AreChildren}
use Rattle.shop_tree.specs.inner.Walkers.{spent_one, Stage, HasFollowed, HasBranched, HasExpanded, IsInOrder, gone_on}
use Rattle.shop_tree.proofs.{Entering.{entered-children, entered-full, walk-entered}, Pushing.{with_opens, with_rest}}
use Rattle.shop_tree.proofs.TurnLemmas.{below_pending, child_walks, children_walk}
use Rattle.shop_tree.proofs.OpenLemmas.{IsUpTo, adds-pending, all-same, all-lower, deep, words-same}
use Rattle.shop_tree.proofs.AddLemmas.{adds-children, few-children, long_rest}

some_budget : (shop : Shop) (t : Walk) (w : List ℕ) → 0 < t.budget
    → walk shop t w ≡ walk shop (record t { budget = suc (t.budget - 1) }) w
some_budget shop t w some = grind arith

pub enters : (shop : Shop) (t : Walk) (w : List ℕ) → 0 < t.budget → lb shop w < t.best
    → walk shop t w ≡ entered shop (spent_one t) w
enters shop t w some below = grind (arith, some_budget, walk-entered)

pub cuts : (shop : Shop) (t : Walk) (w : List ℕ) → 0 < t.budget → t.best ≤ lb shop w
    → walk shop t w ≡ spent_one t
cuts shop t w some high = some_budget shop t w some ∙ walk-cut shop t.found t.best t.left w (t.budget - 1) high

-- turns over plain numbers
same_budget : (b jobs new old : ℕ) → new ≤ old + jobs + 1 → b * (jobs + 2) + new ≤ b * (jobs + 2) + old + jobs + 1
same_budget b jobs new old few = omega arith

one_gone : (b jobs old new : ℕ) → 0 < b → new ≤ old + 1 → (b - 1) * (jobs + 2) + new ≤ b * (jobs + 2) + old
one_gone b jobs old new some few = grind arith

-- the walk went on, and took a word with this bound
pub record HasGone (s t : Stage) (b : ℕ) : Type 0 where
  pub followed : HasFollowed s t
  pub in_order : IsInOrder t
  pub spent : t.walk.budget < s.walk.budget
  pub bound : b ≡ lb t.shop t.word
  pub below : b < t.walk.best

-- the word has one child alone, and the walk goes on to it
pub follows_one : (s : Stage) (j : ℕ) → length s.word < operation_count s.shop
    → conflict s.shop s.word ≡ j ∷ [] → SoleCandidateKeepsBound s.shop s.word
    → 0 < s.walk.budget → lb s.shop s.word < s.walk.best → IsInOrder s → HasGone s (gone_on s j) (lb s.shop s.word)
follows_one s j short alone keeps some below ordered =
    let shop = s.shop in let w = s.word in let child = w ++ j ∷ [] in let n = length w
    in let bound : lb shop child ≡ lb shop w = keeps j alone in let longer = length_push w j
    in let alike : take n child ≡ take n w = take-append_seam w (j ∷ []) ∙ sym (take-length w)
    in let low = all_map (IsPending shop s.walk.best w) (IsUpTo n) (deep shop s.walk.best w) s.stack ordered.each
    in let children : branch shop w ≡ child ∷ [] =
    ap (λ (js : List ℕ). sort_by (lb shop) (map (λ i. w ++ i ∷ []) js)) alone
    in record {
      followed = record {
        walk = ap (fold (walk shop) (entered shop (spent_one s.walk) child))
            (words-same shop child w n alike s.stack low)
            ∙ ap (λ t. walk_stack shop w t s.stack)
            (sym (enters shop s.walk child some (omega arith))
            ∙ (ap (fold (walk shop) s.walk) (sym children) ∙ sym (entered-children shop s.walk w short)));
        shop = refl;
        spent = omega arith;
        fewer = one_gone s.walk.budget (length shop.jobs) (length s.stack) (length s.stack) some (omega arith);
      };
      in_order = record {
        each = all-same shop child w n alike s.walk.best (omega arith) s.stack low ordered.each;
        rising = ordered.rising;
      };
      spent = omega arith;
      bound = sym bound;
      below = below;
    }

pub followed_then : {s m t : Stage} → HasFollowed s m → HasFollowed m t → HasFollowed s t
followed_then f g = record {
  walk = g.walk ∙ f.walk;
  shop = g.shop ∙ f.shop;
  spent = (let a = f.spent in let b = g.spent in omega arith);
  fewer = (let a = f.fewer in let b = g.fewer in omega arith);
}

pub followed_same : {s t : Stage} → t ≡ s → HasFollowed s t
followed_same {s} e = subst (HasFollowed s) (sym e)
    (record { walk = refl; shop = refl; spent = omega arith; fewer = omega arith })

-- the children of the word are on the stack
pub branched : (s : Stage) (opens : List Open) (n depth : ℕ) (stack : List Pending) → IsWord s.shop s.word
    → length s.word < operation_count s.shop → AreChildren s.shop s.walk.best s.word opens n → depth ≡ length s.word
    → stack ≡ with_opens (with_rest s.stack depth n) opens → HasBranched s (record s { stack = stack })
branched s opens n depth stack is short kids same put =
    let all : stack ≡ with_opens (with_rest s.stack (length s.word) n) opens =
    put ∙ ap (λ (k : ℕ). with_opens (with_rest s.stack k n) opens) same
    in record {
      stack = subst (λ (xs : List Pending). Adds s.shop s.walk.best s.word s.stack xs) (sym all)
          (adds-children s.shop s.walk.best s.word opens n s.stack is short kids);
      few = subst (λ (xs : List Pending). length xs ≤ length s.stack + length s.shop.jobs + 1) (sym all)
          (few-children s.shop s.walk.best s.word opens n (length s.word) s.stack kids);
      same = refl;
    }

-- what is pending then comes to the walk that goes on
pub expands_branched : (s t : Stage) → length s.word < operation_count s.shop → IsInOrder s → HasBranched s t
    → HasExpanded s t
expands_branched s t short ordered b = subst (HasExpanded s) (sym b.same) (record {
  walk = children_walk s.shop s.word s.stack t.stack s.walk s.walk.best short b.stack;
  in_order = adds-pending s.shop s.walk.best s.word s.stack t.stack ordered b.stack;
  fewer = same_budget s.walk.budget (length s.shop.jobs) (length t.stack) (length s.stack) b.few;
  shop = refl;
  spent = omega arith;
})

-- the word has one open child alone, and the walk goes on to it; closed ones are pending
pub follows_kept : (s : Stage) (o : Open) (n : ℕ) (stack : List Pending) → IsWord s.shop s.word
    → length s.word < operation_count s.shop → AreChildren s.shop s.walk.best s.word (o ∷ []) n
    → o.depth ≡ length s.word → o.bound ≡ lb s.shop (s.word ++ o.job ∷ []) → o.bound < s.walk.best
    → 0 < s.walk.budget → IsInOrder s → stack ≡ with_rest s.stack (length s.word) n
    → HasGone s (gone_on (record s { stack = stack }) o.job) o.bound
follows_kept s o n stack is short kids depth bound below some ordered put =
    let t : Stage = record s { stack = with_rest s.stack (length s.word) n }
    in let there : word_at s.word o ≡ s.word ++ o.job ∷ [] =
    ap (λ (v : List ℕ). v ++ o.job ∷ []) (ap (λ (k : ℕ). take k s.word) depth ∙ take-length s.word)
    in let expanded = expands_branched s (on_top t (open_child o)) short ordered
    (branched s (o ∷ []) n (length s.word) (with_opens t.stack (o ∷ [])) is short kids refl refl)
    in let went = child_walks s.shop s.walk.best s.word t.stack o expanded.in_order s.walk (spent_one s.walk)
    (enters s.shop s.walk (word_at s.word o) some (rw there (omega arith)))
    in let gone : HasGone s (record t { word = word_at s.word o; walk = spent_one s.walk }) o.bound = record {
      followed = record {
        walk = went ∙ expanded.walk;
        shop = refl;
        spent = omega arith;
        fewer = one_gone s.walk.budget (length s.shop.jobs) (length s.stack) (length t.stack) some
            (long_rest s.stack (length s.word) n);
      };
      in_order = below_pending s.shop s.walk.best s.word t.stack o expanded.in_order;
      spent = omega arith;
      bound = bound ∙ ap (lb s.shop) (sym there);
      below = below;
    }
    in subst (λ (xs : List Pending). HasGone s (gone_on (record s { stack = xs }) o.job) o.bound) (sym put)
    (subst (λ (w : List ℕ). HasGone s (record t { word = w; walk = spent_one s.walk }) o.bound) there gone)

-- the word has closed children alone, and these are pending
pub ends_closed : (s : Stage) (n : ℕ) (stack : List Pending) → IsWord s.shop s.word
    → length s.word < operation_count s.shop → AreChildren s.shop s.walk.best s.word [] n → IsInOrder s
    → stack ≡ with_rest s.stack (length s.word) n → HasExpanded s (record s { stack = stack })
ends_closed s n stack is short kids ordered put = expands_branched s (record s { stack = stack }) short ordered
    (branched s [] n (length s.word) stack is short kids refl
    (put ∙ sym (append-nil (with_rest s.stack (length s.word) n))))

-- the word is found
abbrev pub found_at : Stage → Stage
found_at s = record s { walk = record s.walk { found = Some s.word; best = lb s.shop s.word } }

-- it is full
pub expands_found : (s : Stage) → operation_count s.shop ≤ length s.word → lb s.shop s.word < s.walk.best → IsInOrder s
    → HasExpanded s (found_at s)
expands_found s long below ordered = record {
  walk = ap (λ t. walk_stack s.shop s.word t s.stack) (sym (entered-full s.shop s.walk s.word long));
  in_order = all-lower s.shop s.walk.best (lb s.shop s.word) s.word s.stack (omega arith) ordered;
  fewer = same_budget s.walk.budget (length s.shop.jobs) (length s.stack) (length s.stack) (omega arith);
  shop = refl;
  spent = omega arith;
}

-- where the walk went on before
pub expands_followed : {s m t : Stage} → HasFollowed s m → HasExpanded m t → HasExpanded s t
expands_followed {s} {m} f e = record {
  walk = e.walk ∙ f.walk;
  in_order = e.in_order;
  fewer = (let a = e.fewer in let b = f.fewer in let same : length m.shop.jobs ≡ length s.shop.jobs =
      ap (λ (x : Shop). length x.jobs) f.shop in omega arith);
  shop = e.shop ∙ f.shop;
  spent = (let a = e.spent in let b = f.spent in omega arith);
}
