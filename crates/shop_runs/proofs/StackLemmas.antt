-- Stacks of words by bound: what is put among them, taken from them, and let go.
use Rattle.std.proofs.Common.{◌≡◌, ℕ, ◌≤◌, ◌<◌, min, inl, inr, cond, Option, Some, None, List, [], ◌∷◌, ◌++◌, refl, sym}
use Rattle.std.proofs.{Common.{◌∙◌, ap, subst, arith, ltb, flat_map, reverse}, lemmas.{Cmp.ranked, Bool.cases_Bool}}
use Rattle.std.proofs.lemmas.Bool.{cases_lt, cases_eq, lt-ltb, le-ltb, le-leb, lt-leb, ltb-false}
use Rattle.std.{proofs.lemmas.List.Elements.{recursion_from_All, filter-append}, specs.Prelude.slice_get}
use Rattle.std.specs.{List.{AllByRecursion, All, Sorted.IsStrictlySortedBy}, Map.{keys_of, lookup}, BTreeMap.is_at}
use Rattle.std.specs.{BTreeMap.{insert_entry, Range.{IsLtBy, IsLeBy, entries_below}}, Cmp.nat_cmp_is, Ordering.nat_cmp}
use Rattle.std.specs.{Ordering.is_gt, declared.cmp.Ordering.TheVariants.{Less, Equal, Greater}}
use Rattle.shop_nodes.specs.{declared.nodes.Node.Node, Branching.insert_by, inner.HeldNodes.nodes_below}
use Rattle.shop_runs.specs.{declared.stacks.Stack.Stack, inner.{NodeLists.least_of_bounds, Stacks.words_on}}
use Rattle.shop_runs.specs.inner.Stacks.{nodes_of_bound, nodes_by_bound}

cmp_less : (a b : ℕ) → a < b → nat_cmp a b ≡ Less
cmp_less a b h = sym (nat_cmp_is a b Less h)

cmp_equal : (a b : ℕ) → a ≡ b → nat_cmp a b ≡ Equal
cmp_equal a b e = sym (nat_cmp_is a b Equal e)

cmp_greater : (a b : ℕ) → b < a → nat_cmp a b ≡ Greater
cmp_greater a b h = sym (nat_cmp_is a b Greater h)

-- no key above k is k
none_at : (k : ℕ) (es : List (ℕ × Stack)) → AllByRecursion (λ y. k < y) (keys_of es)
    → lookup (is_at (nat_cmp k)) es ≡ None
none_at k [] a = refl
none_at k (e ∷ es) a = rw (cmp_less k e.0 a.0) (none_at k es a.1)

all_above : (k b : ℕ) (ks : List ℕ) → k < b → AllByRecursion (λ y. nat_cmp b y ≡ Less) ks
    → AllByRecursion (λ y. k < y) ks
all_above k b [] h a = tt
all_above k b (y ∷ ks) h a = ((let l = ranked b y Less (sym a.0) in omega arith), all_above k b ks h a.1)

-- a node goes past those of lower bounds
pub insert_past : (n : Node) (b : ℕ) (ws : List (List ℕ)) (rest : List Node) → b < n.bound
    → insert_by (λ m. m.bound) n (nodes_of_bound b ws ++ rest)
    ≡ nodes_of_bound b ws ++ insert_by (λ m. m.bound) n rest
insert_past n b [] rest h = refl
insert_past n b (w ∷ ws) rest h = grind (arith, lt-leb, insert_past n b ws rest h)

-- and before those of its own
insert_here : (n : Node) (b : ℕ) (s : Stack) (rest : List Node) → n.bound ≤ b
    → insert_by (λ m. m.bound) n (nodes_of_bound b (words_on s) ++ rest) ≡ n ∷ nodes_of_bound b (words_on s) ++ rest
insert_here n b s rest h = rw (le-leb n.bound b h) refl

-- the words of a stack, if there is one
abbrev pub words_left : Option Stack → List (List ℕ)
words_left None = []
words_left (Some s) = words_on s

-- a word put on the stack of its bound, which is made where there is none
pub put_is : (es : List (ℕ × Stack)) (w : List ℕ) (k : ℕ) (s : Stack) → IsStrictlySortedBy nat_cmp (keys_of es)
    → words_on s ≡ w ∷ words_left (lookup (is_at (nat_cmp k)) es)
    → nodes_by_bound (insert_entry nat_cmp es k s)
    ≡ insert_by (λ m. m.bound) (record { word = w; bound = k }) (nodes_by_bound es)
unfolding IsStrictlySortedBy
put_is [] w k s sorted e = ap (λ ws. nodes_of_bound k ws ++ []) e
put_is (x ∷ es) w k s sorted e = elim (cases_lt k x.0) [
  | inl less ↦ (let lost : lookup (is_at (nat_cmp k)) (x ∷ es) ≡ None =
      none_at k (x ∷ es) (less, all_above k x.0 (keys_of es) less sorted.0)
      in let words : words_on s ≡ w ∷ [] = e ∙ ap (λ o. w ∷ words_left o) lost
      in rw (cmp_less k x.0 less) (ap (λ ws. nodes_of_bound k ws ++ nodes_by_bound (x ∷ es)) words
      ∙ sym (insert_here (record { word = w; bound = k }) x.0 x.1 (nodes_by_bound es) (omega arith))))
  | inr more ↦ elim (cases_eq k x.0) [
    | inl same ↦ grind (arith, cmp_equal, insert_here)
    | inr other ↦ grind (arith, cmp_greater, insert_past, put_is es w k s sorted.1)
  ]
]

-- the stack put back, if there is one
abbrev pub IsPutBack : ℕ → List (ℕ × Stack) → Option Stack → List (ℕ × Stack) → Type 0
IsPutBack k rest None after = after ≡ rest
IsPutBack k rest (Some s) after = after ≡ insert_entry nat_cmp rest k s

-- what is put before all keys stands first
put_first : (es : List (ℕ × Stack)) (k : ℕ) (s : Stack) → AllByRecursion (λ y. nat_cmp k y ≡ Less) (keys_of es)
    → insert_entry nat_cmp es k s ≡ (k, s) ∷ es
put_first [] k s a = refl
put_first (e ∷ es) k s a = rw (a.0) refl

-- the first node of the first stack, whose other words are put back, if there are any
pub next_is : (before after rest : List (ℕ × Stack)) (k : ℕ) (s : Stack) (w : List ℕ) (left : Option Stack)
    → before ≡ (k, s) ∷ rest → All (IsLtBy nat_cmp k) (keys_of rest) → words_on s ≡ w ∷ words_left left
    → IsPutBack k rest left after
    → nodes_by_bound before ≡ record { word = w; bound = k } ∷ nodes_by_bound after
next_is before after rest k s w x is above words back = grind (arith, put_first, recursion_from_All)

-- nodes of one bound are below a makespan or not together
pub below_one : (c b : ℕ) (ws : List (List ℕ))
    → nodes_below c (nodes_of_bound b ws) ≡ cond (ltb b c) (nodes_of_bound b ws) []
below_one c b [] = elim (cases_Bool (ltb b c)) [ inl e ↦ rw e refl | inr e ↦ rw e refl ]
below_one c b (w ∷ ws) = grind (arith, cases_Bool, below_one c b ws)

gt_of_cmp : (a b : ℕ) → is_gt (nat_cmp a b) ≡ ltb b a
gt_of_cmp a b = grind (arith, cases_lt, cmp_less, le-ltb, cases_eq, cmp_equal, cmp_greater, lt-ltb)

pub below_is : (c : ℕ) (es : List (ℕ × Stack))
    → nodes_by_bound (entries_below (nat_cmp c) es) ≡ nodes_below c (nodes_by_bound es)
below_is c [] = refl
below_is c (e ∷ es) = grind (arith, filter-append, below_one, cases_Bool, gt_of_cmp, below_is c es)

-- the least bound of nodes whose bounds are c or more
pub least_all : (c : ℕ) (ns : List Node) → AllByRecursion (λ n. c ≤ n.bound) ns → least_of_bounds c ns ≡ c
least_all c [] a = refl
least_all c (n ∷ ns) a = grind (arith, least_all c ns a.1)

pub bounds_all : (c b : ℕ) (ws : List (List ℕ)) (rest : List Node) → c ≤ b → AllByRecursion (λ n. c ≤ n.bound) rest
    → AllByRecursion (λ n. c ≤ n.bound) (nodes_of_bound b ws ++ rest)
bounds_all c b [] rest h a = a
bounds_all c b (w ∷ ws) rest h a = (h, bounds_all c b ws rest h a)

entries_all : (c : ℕ) (es : List (ℕ × Stack)) → AllByRecursion (λ y. c ≤ y) (keys_of es)
    → AllByRecursion (λ n. c ≤ n.bound) (nodes_by_bound es)
entries_all c [] a = tt
entries_all c (e ∷ es) a = bounds_all c e.0 (words_on e.1) (nodes_by_bound es) a.0 (entries_all c es a.1)

at_least : (b : ℕ) (ks : List ℕ) → AllByRecursion (IsLeBy nat_cmp b) ks → AllByRecursion (λ y. b ≤ y) ks
at_least b [] a = tt
at_least b (k ∷ ks) a = (ltb-false k b (sym (gt_of_cmp b k) ∙ a.0), at_least b ks a.1)

lower_keys : (c b : ℕ) (ks : List ℕ) → c ≤ b → AllByRecursion (λ y. b ≤ y) ks → AllByRecursion (λ y. c ≤ y) ks
lower_keys c b [] h a = tt
lower_keys c b (k ∷ ks) h a = ((let l = a.0 in omega arith), lower_keys c b ks h a.1)

-- the words of a stack below its top
abbrev pub words_under : Stack → List (List ℕ)
words_under s = reverse (flat_map (λ c. c.items) s.covered.items ++ s.below.items)

-- the least bound is that of the first stack
least_first : (c : ℕ) (e : ℕ × Stack) (es : List (ℕ × Stack)) → AllByRecursion (λ y. e.0 ≤ y) (keys_of es)
    → least_of_bounds c (nodes_by_bound (e ∷ es)) ≡ min c e.0
least_first c e es all =
    let rest = entries_all (min c e.0) es (lower_keys (min c e.0) e.0 (keys_of es) (omega arith) all)
    in least_all (min c e.0) (nodes_of_bound e.0 (words_under e.1) ++ nodes_by_bound es)
    (bounds_all (min c e.0) e.0 (words_under e.1) (nodes_by_bound es) (omega arith) rest)

pub least_is : (c k : ℕ) (s : Stack) (es : List (ℕ × Stack)) → slice_get es 0 ≡ Some (k, s)
    → All (IsLeBy nat_cmp k) (keys_of es) → least_of_bounds c (nodes_by_bound es) ≡ min c k
least_is c k s [] first all = absurd (let e : None ≡ Some (k, s) = first in cc)
least_is c k s (e ∷ es) first all =
    let same : e ≡ (k, s) = (let f : Some e ≡ Some (k, s) = first in cc)
    in let key : e.0 ≡ k = ap (λ x. x.0) same
    in let at = at_least k (keys_of (e ∷ es)) (recursion_from_All (IsLeBy nat_cmp k) (keys_of (e ∷ es)) all)
    in least_first c e es (subst (λ b. AllByRecursion (λ y. b ≤ y) (keys_of es)) (sym key) at.1) ∙ ap (min c) key
