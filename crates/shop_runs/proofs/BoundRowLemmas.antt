-- Rows of stacks by bound: what is put into them, taken from them, and let go.
use Rattle.std.proofs.Common.{◌≡◌, true, false, ℕ, zero, suc, ◌+◌, ◌≤◌, ◌<◌, min, inr, Some, None, List, [], ◌∷◌, ◌++◌}
use Rattle.std.proofs.Common.{length, take, drop, refl, sym, ◌∙◌, ap, subst, arith, append_assoc, length-append, eqb}
use Rattle.std.proofs.{Common.cond, lemmas.Bool.{cases_Bool, cases_eq, eq-eqb, ne_eqb, le-ltb, lt-ltb}}
use Rattle.std.{proofs.lemmas.List.{length-map, Elements.filter-append}, specs.Prelude.{IsSome, slice_index_or}}
use Rattle.std.specs.{Prelude.slice_set, List.AllByRecursion, Global.Box}
use Rattle.shop_nodes.specs.{Branching.insert_by, declared.nodes.Node.Node, inner.HeldNodes.nodes_below}
use Rattle.shop_runs.specs.declared.{distant_nodes.DistantNodes.DistantNodes, stacks.Stack.Stack}
use Rattle.shop_runs.specs.inner.{Distant.{count_of, AreAdded, IsRetired}, NodeLists.least_of_bounds}
use Rattle.shop_runs.specs.inner.{BoundRows.{AreEmptyBelow, IsBehind, IsFirstFrom}, Stacks.{Bucket, words_at}}
use Rattle.shop_runs.{specs.inner.Stacks.{nodes_of_bound, nodes_in_row}, proofs.SortLemmas.insert_low}
use Rattle.shop_runs.proofs.StackLemmas.{insert_past, below_one, least_all, bounds_all, words_under}

-- an empty bucket more
pub row_more : (b : ℕ) (os : List Bucket) → nodes_in_row b (os ++ None ∷ []) ≡ nodes_in_row b os
row_more b [] = refl
row_more b (o ∷ os) = ap (λ ns. nodes_of_bound b (words_at o) ++ ns) (row_more (suc b) os)

pub more_empty : (b n : ℕ) (os : List Bucket)
    → nodes_in_row b (take n (os ++ None ∷ [])) ≡ nodes_in_row b (take n os)
more_empty b zero os = refl
more_empty b (suc zero) [] = refl
more_empty b (suc (suc n)) [] = refl
more_empty b (suc n) (o ∷ os) = ap (λ ns. nodes_of_bound b (words_at o) ++ ns) (more_empty (suc b) n os)

-- where no node stands before a bucket, none stands before a lower one
pub lower_empty : (b n m : ℕ) (os : List Bucket) → m ≤ n → nodes_in_row b (take n os) ≡ []
    → nodes_in_row b (take m os) ≡ []
lower_empty b n zero os h e = refl
lower_empty b zero (suc m) os h e = absurd (omega arith)
lower_empty b (suc n) (suc m) [] h e = refl
lower_empty b (suc n) (suc m) (None ∷ os) h e = lower_empty (suc b) n m os (omega arith) e
lower_empty b (suc n) (suc m) (Some s ∷ os) h e = absurd (cc)

-- and all nodes stand from there on
pub from_first : (b n : ℕ) (os : List Bucket) → nodes_in_row b (take n os) ≡ []
    → nodes_in_row b os ≡ nodes_in_row (b + n) (drop n os)
from_first b zero os e = ap (λ c. nodes_in_row c os) (let x : b ≡ b + 0 = omega arith in x)
from_first b (suc n) [] e = refl
from_first b (suc n) (None ∷ os) e = grind (arith, from_first (suc b) n os e)
from_first b (suc n) (Some s ∷ os) e = absurd (cc)

-- a bucket without a stack is passed
pub pass_empty : (b k : ℕ) (os : List Bucket) (d : Bucket) → k < length os
    → slice_index_or os k d ≡ None → nodes_in_row b (drop k os) ≡ nodes_in_row (suc b) (drop (suc k) os)
pass_empty b k [] d h e = absurd (omega arith)
pass_empty b zero (o ∷ os) d h e = ap (λ x. nodes_of_bound b (words_at x) ++ nodes_in_row (suc b) os) e
pass_empty b (suc k) (o ∷ os) d h e = pass_empty b k os d (omega arith) e

-- the nodes of a row have its first bound or more
pub all_from : (c b : ℕ) (os : List Bucket) → c ≤ b → AllByRecursion (λ n. c ≤ n.bound) (nodes_in_row b os)
all_from c b [] h = tt
all_from c b (o ∷ os) h = bounds_all c b (words_at o) (nodes_in_row (suc b) os) h (all_from c (suc b) os (omega arith))

-- a word is put on the stack of its bound
pub put_at : (b k : ℕ) (os : List Bucket) (w : List ℕ) (o : Bucket) (d : Bucket) → k < length os
    → words_at o ≡ w ∷ words_at (slice_index_or os k d)
    → nodes_in_row b (slice_set os k o)
    ≡ insert_by (λ m. m.bound) (record { word = w; bound = b + k }) (nodes_in_row b os)
put_at b k [] w o d h e = absurd (omega arith)
put_at b zero (p ∷ os) w o d h e =
    let n : Node = record { word = w; bound = b }
    in let behind = all_from b (suc b) os (omega arith)
    in let all = bounds_all b b (words_at p) (nodes_in_row (suc b) os) (omega arith) behind
    in ap (λ ws. nodes_of_bound b ws ++ nodes_in_row (suc b) os) e
    ∙ (sym (insert_low (λ (m : Node). m.bound) n (nodes_in_row b (p ∷ os)) all)
    ∙ ap (λ c. insert_by (λ m. m.bound) (record { word = w; bound = c }) (nodes_in_row b (p ∷ os)))
    (let x : b ≡ b + 0 = omega arith in x))
put_at b (suc k) (p ∷ os) w o d h e = grind (arith, insert_past, put_at (suc b) k os w o d (omega arith) e)

-- the top word of the first stack is taken
pub take_at : (b k : ℕ) (os : List Bucket) (w : List ℕ) (o : Bucket) (d : Bucket) → k < length os
    → nodes_in_row b (take k os) ≡ [] → words_at (slice_index_or os k d) ≡ w ∷ words_at o
    → nodes_in_row b os ≡ record { word = w; bound = b + k } ∷ nodes_in_row b (slice_set os k o)
take_at b k [] w o d h none e = absurd (omega arith)
take_at b zero (p ∷ os) w o d h none e = grind arith
take_at b (suc k) (None ∷ os) w o d h none e = grind (arith, take_at (suc b) k os w o d (omega arith) none e)
take_at b (suc k) (Some s ∷ os) w o d h none e = absurd (cc)

-- no node before a bucket, whatever is put there or behind it
pub still_empty : (b m k : ℕ) (os : List Bucket) (o : Bucket) → m ≤ k → nodes_in_row b (take m os) ≡ []
    → nodes_in_row b (take m (slice_set os k o)) ≡ []
still_empty b zero k os o h e = refl
still_empty b (suc m) zero os o h e = absurd (omega arith)
still_empty b (suc m) (suc k) [] o h e = e
still_empty b (suc m) (suc k) (None ∷ os) o h e = still_empty (suc b) m k os o (omega arith) e
still_empty b (suc m) (suc k) (Some s ∷ os) o h e = absurd (cc)

-- and where the buckets from one on are let go
pub cut_empty : (b n m : ℕ) (os : List Bucket) → nodes_in_row b (take n os) ≡ []
    → nodes_in_row b (take n (take m os)) ≡ []
cut_empty b zero m os e = refl
cut_empty b (suc n) zero os e = refl
cut_empty b (suc n) (suc m) [] e = refl
cut_empty b (suc n) (suc m) (None ∷ os) e = cut_empty (suc b) n m os e
cut_empty b (suc n) (suc m) (Some s ∷ os) e = absurd (cc)

-- what is let go from a bucket on
none_below : (c : ℕ) (ns : List Node) → AllByRecursion (λ n. c ≤ n.bound) ns → nodes_below c ns ≡ []
none_below c [] a = refl
none_below c (n ∷ ns) a = rw (le-ltb n.bound c a.0) (none_below c ns a.1)

pub kept_is : (b k : ℕ) (os : List Bucket) → nodes_in_row b (take k os) ≡ nodes_below (b + k) (nodes_in_row b os)
kept_is b zero os = grind (arith, none_below, all_from)
kept_is b (suc k) [] = refl
kept_is b (suc k) (o ∷ os) = grind (arith, below_one, lt-ltb, filter-append, kept_is (suc b) k os)

-- the least bound is that of the first stack
pub least_at : (c b : ℕ) (s : Box Stack) (os : List Bucket)
    → least_of_bounds c (nodes_in_row b (Some s ∷ os)) ≡ min c b
least_at c b s os =
    let low : min c b ≤ b = omega arith
    in let behind = all_from (min c b) (suc b) os (omega arith)
    in least_all (min c b) (nodes_of_bound b (words_under s.value) ++ nodes_in_row (suc b) os)
    (bounds_all (min c b) b (words_under s.value) (nodes_in_row (suc b) os) low behind)

-- how many nodes there are doesn't depend on the bounds
pub row_length : (b c : ℕ) (os : List Bucket) → length (nodes_in_row b os) ≡ length (nodes_in_row c os)
row_length b c os = go b c os
  where
    words : (b c : ℕ) (ws : List (List ℕ)) (ms ns : List Node) → length ms ≡ length ns
        → length (nodes_of_bound b ws ++ ms) ≡ length (nodes_of_bound c ws ++ ns)
    words b c [] ms ns e = e
    words b c (w ∷ ws) ms ns e = ap suc (words b c ws ms ns e)

    go : (b c : ℕ) (os : List Bucket) → length (nodes_in_row b os) ≡ length (nodes_in_row c os)
    go b c [] = refl
    go b c (o ∷ os) = words b c (words_at o) (nodes_in_row (suc b) os) (nodes_in_row (suc c) os) (go (suc b) (suc c) os)

-- a row in two parts
pub row_split : (k b : ℕ) (os : List Bucket)
    → nodes_in_row b os ≡ nodes_in_row b (take k os) ++ nodes_in_row (b + k) (drop k os)
row_split zero b os = ap (λ c. nodes_in_row c os) (let x : b ≡ b + 0 = omega arith in x)
row_split (suc k) b [] = refl
row_split (suc k) b (o ∷ os) = grind (arith, append_assoc, row_split k (suc b) os)

none_in_front : (ms ns : List Node) → ms ++ ns ≡ ns → ms ≡ []
none_in_front [] ns e = refl
none_in_front (m ∷ ms) ns e =
    let long : length ((m ∷ ms) ++ ns) ≡ length ns = ap length e
    in absurd (omega (arith, length-append (m ∷ ms) ns))

pub next_at : (k : ℕ) (os : List Bucket) (d : Bucket) → k < length os
    → drop k os ≡ slice_index_or os k d ∷ drop (suc k) os
next_at k [] d h = absurd (omega arith)
next_at zero (o ∷ os) d h = refl
next_at (suc k) (o ∷ os) d h = next_at k os d (omega arith)

-- from where no node stands before to the first stack
pub first_left : (n k : ℕ) (os : List Bucket) → AreEmptyBelow n os → IsFirstFrom os n k
    → nodes_in_row 0 os ≡ nodes_in_row k (drop k os)
first_left n k os e f =
    from_first 0 n os e.1 ∙ (ap (λ b. nodes_in_row b (drop n os)) (let x : 0 + n ≡ n = omega arith in x) ∙ f.2)

pub now_empty : (n k : ℕ) (os : List Bucket) → AreEmptyBelow n os → IsFirstFrom os n k → AreEmptyBelow k os
now_empty n k os e f =
    let same : k ≡ 0 + k = omega arith
    in let whole : nodes_in_row 0 (take k os) ++ nodes_in_row k (drop k os) ≡ nodes_in_row 0 os =
    ap (λ b. nodes_in_row 0 (take k os) ++ nodes_in_row b (drop k os)) same ∙ sym (row_split k 0 os)
    in (f.1, none_in_front (nodes_in_row 0 (take k os)) (nodes_in_row k (drop k os)) (whole ∙ first_left n k os e f))

pub none_left : (n k : ℕ) (os : List Bucket) → AreEmptyBelow n os → IsFirstFrom os n k → k ≡ length os
    → nodes_in_row 0 os ≡ []
none_left n k os e f end = first_left n k os e f ∙ ap (nodes_in_row k) (all_gone k os end)
  where
    all_gone : (k : ℕ) (os : List Bucket) → k ≡ length os → drop k os ≡ []
    all_gone zero [] h = refl
    all_gone zero (o ∷ os) h = absurd (omega arith)
    all_gone (suc k) [] h = refl
    all_gone (suc k) (o ∷ os) h = all_gone k os (omega arith)

pub some_left : (n k : ℕ) (os : List Bucket) → AreEmptyBelow n os → IsFirstFrom os n k → k < length os
    → (s : Box Stack) × (nodes_in_row 0 os ≡ nodes_in_row k (Some s ∷ drop (suc k) os))
some_left n k os e f l = go (slice_index_or os k None) (f.3 l)
    (first_left n k os e f ∙ ap (nodes_in_row k) (next_at k os None l))
  where
    go : (o : Bucket) → IsSome o → nodes_in_row 0 os ≡ nodes_in_row k (o ∷ drop (suc k) os)
        → (s : Box Stack) × (nodes_in_row 0 os ≡ nodes_in_row k (Some s ∷ drop (suc k) os))
    go None h r = absurd (let wrong : false ≡ true = h in cc)
    go (Some s) h r = (s, r)

pub least_from_first : (c n k : ℕ) (os : List Bucket) → AreEmptyBelow n os → IsFirstFrom os n k
    → k < length os → least_of_bounds c (nodes_in_row 0 os) ≡ min c k
least_from_first c n k os e f l = grind (arith, some_left, least_at)

pub is_none_left : (n k : ℕ) (os : List Bucket) → AreEmptyBelow n os → IsFirstFrom os n k
    → eqb k (length os) ≡ eqb (length (nodes_in_row 0 os)) 0
is_none_left n k os e f = grind (arith, cases_eq, eq-eqb, none_left, some_left, ne_eqb)

-- the nodes from a bucket on, and from the next one on
pub count_next : (k : ℕ) (os : List Bucket) (d : Bucket) → k < length os
    → length (nodes_in_row 0 (drop k os))
    ≡ length (words_at (slice_index_or os k d)) + length (nodes_in_row 0 (drop (k + 1) os))
count_next k os d h = grind (arith, row_length, next_at, length-append, length-map)

-- the nodes before a bucket, and before the next one
pub count_bucket : (b k : ℕ) (os : List Bucket) (d : Bucket) → k < length os
    → length (nodes_in_row b (take (k + 1) os))
    ≡ length (nodes_in_row b (take k os)) + length (words_at (slice_index_or os k d))
count_bucket b k [] d h = absurd (omega arith)
count_bucket b zero (o ∷ os) d h = grind (arith, length-append, length-map)
count_bucket b (suc k) (o ∷ os) d h = grind (arith, length-append, count_bucket (suc b) k os d (omega arith))

pub not_more : (k : ℕ) (os : List Bucket) → length (nodes_in_row 0 (take k os)) ≤ length (nodes_in_row 0 os)
not_more k os =
    let all = ap length (row_split k 0 os)
    ∙ length-append (nodes_in_row 0 (take k os)) (nodes_in_row (0 + k) (drop k os))
    in omega arith

-- those before a bucket have lower bounds
pub all_before : (b k : ℕ) (os : List Bucket) → AllByRecursion (λ n. n.bound < b + k) (nodes_in_row b (take k os))
all_before b zero os = tt
all_before b (suc k) [] = tt
all_before b (suc k) (o ∷ os) = words (b + suc k) (words_at o) (nodes_in_row (suc b) (take k os)) (omega arith)
    (subst (λ c. AllByRecursion (λ n. n.bound < c) (nodes_in_row (suc b) (take k os))) (omega arith)
    (all_before (suc b) k os))
  where
    words : (c : ℕ) (ws : List (List ℕ)) (rest : List Node) → b < c → AllByRecursion (λ n. n.bound < c) rest
        → AllByRecursion (λ n. n.bound < c) (nodes_of_bound b ws ++ rest)
    words c [] rest h a = a
    words c (w ∷ ws) rest h a = (h, words c ws rest h a)

-- how many nodes of a row have a bound: those of its bucket, and those behind
pub count_bound : (b k : ℕ) (ws : List (List ℕ)) (rest : List Node)
    → count_of b (nodes_of_bound k ws ++ rest) ≡ cond (eqb k b) (length ws) 0 + count_of b rest
count_bound b k [] rest = grind (arith, cases_Bool)
count_bound b k (w ∷ ws) rest = grind (arith, cases_Bool, count_bound b k ws rest)

pub count_behind : (b k : ℕ) (os : List Bucket) (d : Bucket) → k < length os
    → count_of b (nodes_in_row k (drop k os))
    ≡ cond (eqb k b) (length (words_at (slice_index_or os k d))) 0 + count_of b (nodes_in_row (k + 1) (drop (k + 1) os))
count_behind b k os d h = grind (arith, next_at, count_bound)

-- the nodes before a bucket are kept, and those from it on are counted
pub retired_row : (most first end : ℕ) (os : List Bucket) (distant later : DistantNodes) → IsBehind first most os end
    → AreAdded (nodes_in_row end (drop end os)) distant.counts.items later.counts.items
    → later.horizon ≡ min distant.horizon end
    → IsRetired most (nodes_in_row 0 os) distant (nodes_in_row 0 (take end os)) later
retired_row most first end os distant later behind added moves =
    let same : 0 + end ≡ end = omega arith
    in record {
      gone = nodes_in_row end (drop end os);
      all = row_split end 0 os ∙ ap (λ b. nodes_in_row 0 (take end os) ++ nodes_in_row b (drop end os)) same;
      counted = added;
      horizon = inr (record {
        end = end;
        enough = behind.2;
        below = subst (λ b. AllByRecursion (λ n. n.bound < b) (nodes_in_row 0 (take end os))) same
            (all_before 0 end os);
        behind = all_from end end (drop end os) (omega arith);
        moves = moves;
      });
    }
