-- What is pending on a stack that is kept short, as the walk goes on to another word.
use Rattle.std.proofs.Common.{◌≡◌, ℕ, ◌≤◌, List, [], ◌∷◌, ◌++◌, length, map, take, reverse, refl, sym, ◌∙◌, ap, subst}
use Rattle.std.proofs.{Common.{arith, append_assoc, append-nil}, lemmas.List.{Sums.fold-append, take-append-le}}
use Rattle.std.{proofs.lemmas.List.{length-take-le, take-take, length-append}, specs.List.{AllByRecursion, fold}}
use Rattle.shop_model.specs.Shop.{Shop}
use Rattle.shop_nodes.specs.{Halts.{open_child, word_at, pending_words, stack_words, IsPending}, Walking.{Walk, walk}}
use Rattle.shop_nodes.specs.declared.halts.{Open.Open, Pending.{Pending, TheVariants.{Child, Rest}}}
use Rattle.shop_tree.specs.inner.Opens.{open_words, depth_of, IsFrom, IsAt, IsRising, ArePending}
use Rattle.shop_tree.{specs.inner.Searching.{walk_stack, Adds}, proofs.ListLemmas.{reverse-cons, all_front, all_back}}
use Rattle.shop_bound.proofs.Lists.{all_append, all_map}

-- an entry that begins with at most n entries of the word
abbrev pub IsUpTo : ℕ → Pending → Type 0
IsUpTo n x = depth_of x ≤ n

pub begins_alike : (v w : List ℕ) (n : ℕ) → take n v ≡ take n w → (k : ℕ) → k ≤ n → take k v ≡ take k w
begins_alike v w n alike k h = sym (take-take k n v h) ∙ (ap (take k) alike ∙ take-take k n w h)

-- Words that begin alike up to n: what begins with n entries at most stands for the same words.
module _ (shop : Shop) (v w : List ℕ) (n : ℕ) (alike : take n v ≡ take n w) where
  entry-same : (x : Pending) → IsUpTo n x → pending_words shop v x ≡ pending_words shop w x
  entry-same (Child job depth bound) h = ap (λ (u : List ℕ). (u ++ job ∷ []) ∷ []) (begins_alike v w n alike depth h)
  entry-same (Rest depth count) h = grind (arith, begins_alike)

  pub words-same : (stack : List Pending) → AllByRecursion (IsUpTo n) stack
      → stack_words shop v stack ≡ stack_words shop w stack
  words-same [] low = refl
  words-same (x ∷ stack) low = grind (arith, entry-same, words-same stack low.1)

  pending-same : (best : ℕ) (x : Pending) → n ≤ length v → IsUpTo n x → IsPending shop best w x
      → IsPending shop best v x
  pending-same best (Child job depth bound) long h own = grind (arith, begins_alike, own)
  pending-same best (Rest depth count) long h own = grind (arith, begins_alike, own)

  pub all-same : (best : ℕ) → n ≤ length v → (stack : List Pending) → AllByRecursion (IsUpTo n) stack
      → AllByRecursion (IsPending shop best w) stack → AllByRecursion (IsPending shop best v) stack
  all-same best long [] low all = tt
  all-same best long (x ∷ stack) low all = (
    pending-same best x long low.0 all.0,
    all-same best long stack low.1 all.1,
  )

pub deep : (shop : Shop) (best : ℕ) (w : List ℕ) (x : Pending) → IsPending shop best w x → IsUpTo (length w) x
deep shop best w (Child job depth bound) h = h.depth
deep shop best w (Rest depth count) h = h.depth

-- the words of parts, those of the upper one first
pub stack_words-append : (shop : Shop) (w : List ℕ) (xs ys : List Pending)
    → stack_words shop w (xs ++ ys) ≡ stack_words shop w ys ++ stack_words shop w xs
stack_words-append shop w [] ys = sym (append-nil (stack_words shop w ys))
stack_words-append shop w (x ∷ xs) ys = grind (arith, append_assoc, stack_words-append shop w xs ys)

-- and their walks
pub stack-append : (shop : Shop) (w : List ℕ) (s : Walk) (xs ys : List Pending)
    → walk_stack shop w s (xs ++ ys) ≡ walk_stack shop w (walk_stack shop w s ys) xs
stack-append shop w s xs ys = grind (arith, stack_words-append, fold-append)

pub opens-words : (shop : Shop) (w : List ℕ) (os : List Open)
    → stack_words shop w (map (λ o. open_child o) os) ≡ reverse (open_words w os)
opens-words shop w [] = refl
opens-words shop w (o ∷ os) = grind (arith, reverse-cons, opens-words shop w os)

pub all-opens : (P : Pending → Type 0) (os : List Open) → AllByRecursion (λ o. P (open_child o)) os
    → AllByRecursion P (map (λ o. open_child o) os)
all-opens P [] h = tt
all-opens P (o ∷ os) h = (h.0, all-opens P os h.1)

-- the entry on top, and those below it
rising-front : (rest : List Pending) (x : Pending) → IsRising (rest ++ x ∷ []) → IsRising rest
rising-front [] x r = tt
rising-front (y ∷ rest) x r = (all_front (IsFrom (depth_of y)) rest (x ∷ []) r.0, rising-front rest x r.1)

pub rising-below : (rest : List Pending) (x : Pending) → IsRising (rest ++ x ∷ [])
    → AllByRecursion (IsUpTo (depth_of x)) rest
rising-below [] x r = tt
rising-below (y ∷ rest) x r = (
  (all_back (IsFrom (depth_of y)) rest (x ∷ []) r.0).0,
  rising-below rest x r.1,
)

from-at : (n k : ℕ) → k ≤ n → (x : Pending) → IsAt n x → IsFrom k x
from-at n k le x h = omega arith

rising-level : (added : List Pending) (n : ℕ) → AllByRecursion (IsAt n) added → IsRising added
rising-level [] n e = tt
rising-level (x ∷ added) n e = (
  all_map (IsAt n) (IsFrom (depth_of x)) (from-at n (depth_of x) (let a = e.0 in omega arith)) added e.1,
  rising-level added n e.1,
)

rising-append : (rest added : List Pending) (n : ℕ) → IsRising rest → AllByRecursion (IsUpTo n) rest
    → AllByRecursion (IsAt n) added → IsRising (rest ++ added)
rising-append [] added n r low e = rising-level added n e
rising-append (x ∷ rest) added n r low e = (
  all_append (IsFrom (depth_of x)) rest added r.0
      (all_map (IsAt n) (IsFrom (depth_of x)) (from-at n (depth_of x) low.0) added e),
  rising-append rest added n r.1 low.1 e,
)

pub record IsPopped (shop : Shop) (best : ℕ) (word : List ℕ) (rest : List Pending) (x : Pending) : Type 0 where
  pub rest_pending : ArePending shop best word rest
  pub own : IsPending shop best word x

pub popped : {shop : Shop} {best : ℕ} {word : List ℕ} (rest : List Pending) (x : Pending)
    → ArePending shop best word (rest ++ x ∷ []) → IsPopped shop best word rest x
popped {shop} {best} {word} rest x all = record {
  rest_pending = record {
    each = all_front (IsPending shop best word) rest (x ∷ []) all.each;
    rising = rising-front rest x all.rising;
  };
  own = (all_back (IsPending shop best word) rest (x ∷ []) all.each).0;
}

-- another entry of the same depth on top
pub replaced : (shop : Shop) (best : ℕ) (word : List ℕ) (rest : List Pending) (x y : Pending)
    → ArePending shop best word (rest ++ x ∷ []) → depth_of y ≡ depth_of x → IsPending shop best word y
    → ArePending shop best word (rest ++ y ∷ [])
replaced shop best word rest x y all same own = grind (arith, popped, all_append, own, rising-append, rising-below)

-- entries put on a stack
pub adds-pending : (shop : Shop) (best : ℕ) (word : List ℕ) (old new : List Pending)
    → ArePending shop best word old → Adds shop best word old new → ArePending shop best word new
adds-pending shop best word old new all more = subst (ArePending shop best word) (sym more.stack) (record {
  each = all_append (IsPending shop best word) old more.added all.each more.each;
  rising = rising-append old more.added (length word) all.rising
      (all_map (IsPending shop best word) (IsUpTo (length word)) (deep shop best word) old all.each) more.depth;
})

pub all-lower : (shop : Shop) (best lower : ℕ) (word : List ℕ) (stack : List Pending) → lower ≤ best
    → ArePending shop best word stack → ArePending shop lower word stack
all-lower shop best lower word stack le all = grind (arith, all_map)

-- the entry on top is walked first
pub walk-top : (shop : Shop) (s : Walk) (word : List ℕ) (rest : List Pending) (x : Pending)
    → walk_stack shop word s (rest ++ x ∷ [])
    ≡ walk_stack shop word (fold (walk shop) s (pending_words shop word x)) rest
walk-top shop s word rest x = stack-append shop word s rest (x ∷ [])

-- what lies below a child, once the walk is at a word that begins as the child does
module _ (shop : Shop) (best : ℕ) (word next : List ℕ) (rest : List Pending) (o : Open)
    (all : ArePending shop best word (rest ++ open_child o ∷ [])) (alike : take o.depth next ≡ take o.depth word)
    (long : o.depth ≤ length next) where
  pub words-below : stack_words shop next rest ≡ stack_words shop word rest
  words-below = words-same shop next word o.depth alike rest (rising-below rest (open_child o) all.rising)

  pub pending-below : ArePending shop best next rest
  pending-below =
      let p = popped rest (open_child o) all
      in record {
        each = all-same shop next word o.depth alike best long rest (rising-below rest (open_child o) all.rising)
            p.rest_pending.each;
        rising = p.rest_pending.rising;
      }

pub begins-child : (word : List ℕ) (o : Open) → o.depth ≤ length word
    → take o.depth (word_at word o) ≡ take o.depth word
begins-child word o h = grind (arith, take-append-le, length-take-le, take-take)

pub long-child : (word : List ℕ) (o : Open) → o.depth ≤ length word → o.depth ≤ length (word_at word o)
long-child word o h = grind (arith, length-append, length-take-le)
