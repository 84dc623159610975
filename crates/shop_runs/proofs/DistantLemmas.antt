-- Open nodes that a run only counts: what is counted, and how they lie behind those that it stores.
use Rattle.std.proofs.Common.{◌≡◌, ℕ, zero, suc, ◌+◌, ◌≤◌, min, ◌&&◌, inl, inr, List, [], ◌∷◌, ◌++◌, length, get_or}
use Rattle.std.proofs.{Common.{refl, ◌∙◌, ap, arith, leb, ltb}}
use Rattle.std.proofs.{lemmas.Bool.{cases_Bool, cases_lt, cases_eq, lt-ltb, le-ltb}}
use Rattle.std.proofs.lemmas.{Bool.{eq-eqb, ne_eqb}, List.Elements.filter-append}
use Rattle.shop_nodes.specs.{declared.nodes.Node.Node, inner.HeldNodes.nodes_below}
use Rattle.shop_runs.specs.inner.Distant.{count_of, nodes_within, HaveCounts}

-- counts of lists together
pub count_append : (b : ℕ) (xs ys : List Node) → count_of b (xs ++ ys) ≡ count_of b xs + count_of b ys
count_append b [] ys = grind arith
count_append b (x ∷ xs) ys = grind (arith, count_append b xs ys)

-- nodes between two bounds
pub within_append : (a c : ℕ) (xs ys : List Node)
    → nodes_within a c (xs ++ ys) ≡ nodes_within a c xs ++ nodes_within a c ys
within_append a c xs ys = filter-append (λ (n : Node). leb a n.bound && ltb n.bound c) xs ys

pub none_within : (a c : ℕ) (ns : List Node) → c ≤ a → nodes_within a c ns ≡ []
none_within a c [] h = refl
none_within a c (n ∷ ns) h = grind (arith, cases_lt, lt-ltb, le-ltb, none_within a c ns h)

pub within_both : (a c d : ℕ) (ns : List Node) → nodes_within a c (nodes_below d ns) ≡ nodes_within a (min c d) ns
within_both a c d [] = refl
within_both a c d (n ∷ ns) = grind (arith, cases_lt, lt-ltb, le-ltb, within_both a c d ns)

-- all counted nodes, bound by bound
pub below_more : (b : ℕ) (ns : List Node)
    → length (nodes_below (b + 1) ns) ≡ length (nodes_below b ns) + count_of b ns
below_more b [] = grind arith
below_more b (n ∷ ns) = elim (cases_lt n.bound b) [
  | inl low ↦ grind (
    arith,
    lt-ltb n.bound b low,
    lt-ltb n.bound (b + 1) (omega arith),
    ne_eqb n.bound b (omega arith),
    below_more b ns,
  )
  | inr high ↦ elim (cases_eq n.bound b) [
    | inl e ↦ grind (
      arith,
      le-ltb n.bound b high,
      lt-ltb n.bound (b + 1) (omega arith),
      eq-eqb n.bound b e,
      below_more b ns,
    )
    | inr ne ↦ grind (
      arith,
      le-ltb n.bound b high,
      le-ltb n.bound (b + 1) (omega arith),
      ne_eqb n.bound b ne,
      below_more b ns,
    )
  ]
]

pub none_below_0 : (ns : List Node) → nodes_below 0 ns ≡ []
none_below_0 [] = refl
none_below_0 (n ∷ ns) = grind (arith, le-ltb, none_below_0 ns)

-- where none has a bound from c on, all are below
pub all_counted : (c : ℕ) (ns : List Node) → ((b : ℕ) → c ≤ b → count_of b ns ≡ 0) → nodes_below c ns ≡ ns
all_counted c [] h = refl
all_counted c (n ∷ ns) h = elim (cases_lt n.bound c) [
  | inl low ↦ rw (lt-ltb n.bound c low) (ap (λ ms. n ∷ ms)
      (all_counted c ns (λ b le. let e = h b le in omega arith)))
  | inr high ↦ absurd (let e = h n.bound high in let f = eq-eqb n.bound n.bound refl in grind arith)
]

pub count_next : (counts : List ℕ) (ns : List Node) (i all : ℕ) → HaveCounts counts ns
    → all ≡ length (nodes_below i ns) → all + get_or counts i 0 ≡ length (nodes_below (i + 1) ns)
count_next counts ns i all have e = let f = have i in omega (arith, below_more i ns)

pub count_most : (c : ℕ) (ns : List Node) → length (nodes_below c ns) ≤ length ns
count_most c [] = omega arith
count_most c (n ∷ ns) = grind (arith, cases_lt, lt-ltb, le-ltb, count_most c ns)

beyond : (counts : List ℕ) (b : ℕ) → length counts ≤ b → get_or counts b 0 ≡ 0
beyond [] b h = refl
beyond (x ∷ counts) zero h = absurd (omega arith)
beyond (x ∷ counts) (suc b) h = beyond counts b (omega arith)

pub count_end : (counts : List ℕ) (ns : List Node) → HaveCounts counts ns
    → length (nodes_below (length counts) ns) ≡ length ns
count_end counts ns have = ap length (all_counted (length counts) ns (λ b le. have b ∙ beyond counts b le))

-- no count is greater than the number of nodes
pub count_few : (b : ℕ) (ns : List Node) → count_of b ns ≤ length ns
count_few b [] = omega arith
count_few b (n ∷ ns) = grind (arith, cases_Bool, count_few b ns)

pub count_below : (b c d : ℕ) (ns : List Node) → c ≤ d → count_of b (nodes_below c ns) ≤ length (nodes_below d ns)
count_below b c d [] le = omega arith
count_below b c d (n ∷ ns) le = grind (arith, cases_Bool, cases_lt, lt-ltb, le-ltb, count_below b c d ns le)

pub count_within : (b a c : ℕ) (ns : List Node) → count_of b (nodes_within a c ns) ≤ length (nodes_below c ns)
count_within b a c [] = omega arith
count_within b a c (n ∷ ns) = grind (arith, cases_Bool, cases_lt, lt-ltb, le-ltb, count_within b a c ns)
