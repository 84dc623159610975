-- The stack of the kept order: its least bounds.
use Rattle.std.proofs.Common.{◌≡◌, ℕ, suc, ◌+◌, ◌-◌, ◌<◌, ◌≤◌, min, inl, inr, List, [], ◌∷◌, ◌++◌, length, get_or, take}
use Rattle.std.proofs.{Common.{set, reverse, refl, sym, ◌∙◌, ap, subst, arith, filter, ltb}}
use Rattle.std.proofs.{lemmas.Bool.{cases_Bool, cases_eq, cases_lt}}
use Rattle.std.proofs.lemmas.{Bool.{lt-ltb, le-ltb, eq-eqb, ne_eqb}, List.{reverse-append, take_more, take_more_set}}
use Rattle.std.{proofs.lemmas.List.{take_all, length-set, length-reverse}, specs.List.AllByRecursion}
use Rattle.shop_nodes.specs.{declared.nodes.Node.Node, inner.HeldNodes.nodes_below}
use Rattle.shop_runs.specs.{inner.NodeLists.least_of_bounds, declared.kept_stacks.Least.Least}
use Rattle.shop_runs.specs.inner.KeptStacks.{with_bound, without_bound, leasts_of, AreFewEach, AreLeasts}
use Rattle.shop_runs.proofs.StoreLemmas.{least_min, below_reverse, filter-reverse}

-- from the top down
pub top_first : {A : Type 0} (below : List A) (top : A) → reverse (below ++ top ∷ []) ≡ top ∷ reverse below
top_first below top = reverse-append below (top ∷ [])

last_put : (xs : List Least) (top : Least) → 0 < length xs → top ≡ get_or xs (length xs - 1) top
    → xs ≡ take (length xs - 1) xs ++ top ∷ []
last_put xs top some is = grind (arith, take_more, take_all)

last_first : (xs : List Least) (top : Least) → 0 < length xs → top ≡ get_or xs (length xs - 1) top
    → reverse xs ≡ top ∷ reverse (take (length xs - 1) xs)
last_first xs top some is = ap reverse (last_put xs top some is) ∙ top_first (take (length xs - 1) xs) top

last_set : (xs : List Least) (top : Least) → 0 < length xs
    → reverse (set xs (length xs - 1) top) ≡ top ∷ reverse (take (length xs - 1) xs)
last_set xs top some =
    let k : ℕ = length xs - 1
    in let long = length-set xs k top
    in let all = take_all (k + 1) (set xs k top) (omega arith)
    in ap reverse (sym all ∙ take_more_set xs k top (omega arith)) ∙ top_first (take k xs) top

-- the top's count changes in place
pub one_more : (b n : ℕ) (xs : List Least) (l : Least) → 0 < length xs → l ≡ get_or xs (length xs - 1) l → l.bound ≡ b
    → n ≡ l.more + 1
    → reverse (set xs (length xs - 1) (record { bound = l.bound; more = n })) ≡ with_bound b (reverse xs)
one_more b n xs l some is same more = grind (arith, last_set, last_first, eq-eqb)

pub one_less : (b : ℕ) (xs : List Least) (l : Least) → 0 < length xs → l ≡ get_or xs (length xs - 1) l → l.bound ≡ b
    → 0 < l.more
    → reverse (set xs (length xs - 1) (record { bound = l.bound; more = l.more - 1 })) ≡ without_bound b (reverse xs)
one_less b xs l some is same more = grind (arith, last_set, last_first, eq-eqb, lt-ltb)

-- one that was put is taken off again
pub taken_again : (b : ℕ) (leasts : List Least) → without_bound b (with_bound b leasts) ≡ leasts
taken_again b [] = rw (eq-eqb b b refl) refl
taken_again b (l ∷ leasts) = elim (cases_lt l.bound b) [
  | inl lt ↦ rw (lt-ltb l.bound b lt, ne_eqb l.bound b (λ e. omega arith)) refl
  | inr ge ↦ elim (cases_eq l.bound b) [
    | inl e ↦ rw (e, le-ltb b b (omega arith), eq-eqb b b refl, lt-ltb 0 (suc l.more) (omega arith), eq-eqb b b refl)
        (let same : suc l.more - 1 ≡ l.more = omega arith in ap (λ k. record { bound = b; more = k } ∷ leasts) same)
    | inr n ↦ rw (le-ltb l.bound b ge, ne_eqb l.bound b n, eq-eqb b b refl) refl
  ]
]

-- the top of the least bounds is the least of all
abbrev least_or : ℕ → List Least → ℕ
least_or c [] = c
least_or c (l ∷ leasts) = min l.bound c

least_with : (c b : ℕ) (leasts : List Least) → least_or c (with_bound b leasts) ≡ min (least_or c leasts) b
least_with c b [] = omega arith
least_with c b (l ∷ leasts) = elim (cases_lt l.bound b) [
  | inl lt ↦ rw (lt-ltb l.bound b lt) (omega arith)
  | inr ge ↦ elim (cases_eq l.bound b) [
    | inl e ↦ rw (le-ltb l.bound b ge, eq-eqb l.bound b e) (omega arith)
    | inr n ↦ rw (le-ltb l.bound b ge, ne_eqb l.bound b n) (omega arith)
  ]
]

least_told : (c : ℕ) (ns : List Node) → least_or c (leasts_of ns) ≡ least_of_bounds c ns
least_told c [] = refl
least_told c (n ∷ ns) =
    least_with c n.bound (leasts_of ns) ∙ (ap (λ k. min k n.bound) (least_told c ns) ∙ sym (least_min c n.bound ns))

pub top_tells : (c : ℕ) (xs : List Least) (top : Least) (ns : List Node) → 0 < length xs
    → top ≡ get_or xs (length xs - 1) top → reverse xs ≡ leasts_of ns → min c top.bound ≡ least_of_bounds c ns
top_tells c xs top ns some is told =
    let first = sym (last_first xs top some is) ∙ told
    in let same : least_or c (top ∷ reverse (take (length xs - 1) xs)) ≡ least_of_bounds c ns =
    ap (least_or c) first ∙ least_told c ns
    in omega arith

pub none_tells : (c : ℕ) (xs : List Least) (ns : List Node) → length xs ≡ 0 → reverse xs ≡ leasts_of ns
    → c ≡ least_of_bounds c ns
none_tells c [] ns none told = ap (least_or c) told ∙ least_told c ns
none_tells c (x ∷ xs) ns none told = absurd (omega arith)

-- those of nodes below a bound
abbrev pub leasts_below : ℕ → List Least → List Least
leasts_below c leasts = filter (λ l. ltb l.bound c) leasts

abbrev AreAbove : ℕ → List Least → Type 0
AreAbove b leasts = AllByRecursion (λ l. b < l.bound) leasts

abbrev Rise : List Least → Type 0
Rise [] = Unit {0}
Rise (l ∷ leasts) = AreAbove l.bound leasts × Rise leasts

lower : (b c : ℕ) (leasts : List Least) → b ≤ c → AreAbove c leasts → AreAbove b leasts
lower b c [] le above = tt
lower b c (l ∷ leasts) le above = (let a = above.0 in omega arith, lower b c leasts le above.1)

rise_with : (b : ℕ) (leasts : List Least) → Rise leasts → Rise (with_bound b leasts)
rise_with b [] rise = (tt, tt)
rise_with b (l ∷ leasts) rise = elim (cases_lt l.bound b) [
  | inl lt ↦ rw (lt-ltb l.bound b lt) rise
  | inr ge ↦ elim (cases_eq l.bound b) [
    | inl e ↦ rw (le-ltb l.bound b ge, eq-eqb l.bound b e) (lower b l.bound leasts ge rise.0, rise.1)
    | inr n ↦ rw (le-ltb l.bound b ge, ne_eqb l.bound b n) ((omega arith, lower b l.bound leasts ge rise.0), rise)
  ]
]

rises : (ns : List Node) → Rise (leasts_of ns)
rises [] = tt
rises (n ∷ ns) = rise_with n.bound (leasts_of ns) (rises ns)

none_below : (c b : ℕ) (leasts : List Least) → c ≤ b → AreAbove b leasts → leasts_below c leasts ≡ []
none_below c b [] le above = refl
none_below c b (l ∷ leasts) le above =
    rw (le-ltb l.bound c (let a = above.0 in omega arith)) (none_below c b leasts le above.1)

with_kept : (c b : ℕ) (leasts : List Least) → b < c → Rise leasts
    → with_bound b (leasts_below c leasts) ≡ leasts_below c (with_bound b leasts)
with_kept c b [] lt rise = rw (lt-ltb b c lt) refl
with_kept c b (l ∷ leasts) lt rise = elim (cases_lt l.bound b) [
  | inl low ↦ rw (lt-ltb l.bound b low, lt-ltb l.bound c (omega arith), lt-ltb l.bound b low) refl
  | inr ge ↦ elim (cases_eq l.bound b) [
    | inl e ↦ rw (
      le-ltb l.bound b ge,
      eq-eqb l.bound b e,
      lt-ltb l.bound c (omega arith),
      le-ltb l.bound b ge,
      eq-eqb l.bound b e,
      lt-ltb b c lt,
    ) refl
    | inr n ↦ elim (cases_lt l.bound c) [
      | inl low ↦ rw (
        le-ltb l.bound b ge,
        ne_eqb l.bound b n,
        lt-ltb l.bound c low,
        le-ltb l.bound b ge,
        ne_eqb l.bound b n,
        lt-ltb b c lt,
      ) refl
      | inr high ↦ rw (
        le-ltb l.bound b ge,
        ne_eqb l.bound b n,
        le-ltb l.bound c high,
        none_below c l.bound leasts high rise.0,
        lt-ltb b c lt,
      ) refl
    ]
  ]
]

with_left_out : (c b : ℕ) (leasts : List Least) → c ≤ b
    → leasts_below c leasts ≡ leasts_below c (with_bound b leasts)
with_left_out c b [] le = rw (le-ltb b c le) refl
with_left_out c b (l ∷ leasts) le = elim (cases_lt l.bound b) [
  | inl low ↦ rw (lt-ltb l.bound b low) refl
  | inr ge ↦ elim (cases_eq l.bound b) [
    | inl e ↦ rw (le-ltb l.bound b ge, eq-eqb l.bound b e, le-ltb l.bound c (omega arith), le-ltb b c le) refl
    | inr n ↦ rw (le-ltb l.bound b ge, ne_eqb l.bound b n, le-ltb b c le) refl
  ]
]

pub below_told : (c : ℕ) (ns : List Node) → leasts_of (nodes_below c ns) ≡ leasts_below c (leasts_of ns)
below_told c [] = refl
below_told c (n ∷ ns) = elim (cases_lt n.bound c) [
  | inl lt ↦ rw (lt-ltb n.bound c lt)
      (ap (with_bound n.bound) (below_told c ns) ∙ with_kept c n.bound (leasts_of ns) lt (rises ns))
  | inr ge ↦ rw (le-ltb n.bound c ge) (below_told c ns ∙ with_left_out c n.bound (leasts_of ns) ge)
]

pub still_kept : (c : ℕ) (nodes : List Node) (leasts : List Least) → AreLeasts nodes leasts
    → AreLeasts (nodes_below c nodes) (leasts_below c leasts)
still_kept c nodes leasts told =
    filter-reverse (λ l. ltb l.bound c) leasts ∙ (ap (leasts_below c) told ∙ (sym (below_told c (reverse nodes))
    ∙ ap leasts_of (sym (below_reverse c nodes))))

-- one is taken off the top
pub still_popped : (nodes : List Node) (n : Node) (before after : List Least) → AreLeasts (nodes ++ n ∷ []) before
    → reverse after ≡ without_bound n.bound (reverse before) → AreLeasts nodes after
still_popped nodes n before after told is =
    is ∙ (ap (without_bound n.bound) (told ∙ ap leasts_of (top_first nodes n))
    ∙ taken_again n.bound (leasts_of (reverse nodes)))

-- a bound has fewer others than there are nodes
few_more : (n m : ℕ) (leasts : List Least) → n ≤ m → AreFewEach n leasts → AreFewEach m leasts
few_more n m [] le few = tt
few_more n m (l ∷ leasts) le few = ((let a = few.0 in omega arith), few_more n m leasts le few.1)

few_with : (b n : ℕ) (leasts : List Least) → AreFewEach n leasts → AreFewEach (suc n) (with_bound b leasts)
few_with b n [] few = (omega arith, tt)
few_with b n (l ∷ leasts) few = grind (arith, cases_Bool, few_more n (suc n) leasts (omega arith))

leasts_few : (ns : List Node) → AreFewEach (length ns) (leasts_of ns)
leasts_few [] = tt
leasts_few (n ∷ ns) = few_with n.bound (length ns) (leasts_of ns) (leasts_few ns)

pub few_each : (nodes : List Node) (leasts : List Least) (n : ℕ) → AreLeasts nodes leasts → length nodes ≤ n
    → AreFewEach n (reverse leasts)
few_each nodes leasts n told le =
    subst (AreFewEach n) (sym told) (few_more (length (reverse nodes)) n (leasts_of (reverse nodes))
    (let a = length-reverse nodes in omega arith) (leasts_few (reverse nodes)))
