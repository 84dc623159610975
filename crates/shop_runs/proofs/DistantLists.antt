-- The open nodes of a run, of which it stores the first ones and only counts the others.
use Rattle.std.proofs.Common.{◌≡◌, ℕ, zero, suc, ◌+◌, ◌≤◌, ◌<◌, ◌⊎◌, min, inl, inr, cond, List, [], ◌∷◌, ◌++◌, length}
use Rattle.std.proofs.Common.{take, drop, get_or, refl, sym, ◌∙◌, ap, subst, arith, append-nil, append_assoc, ltb}
use Rattle.std.proofs.lemmas.{Bool.{cases_Bool, cases_lt, lt-ltb, le-ltb, le-leb, lt-leb}, List.length-drop}
use Rattle.std.{proofs.lemmas.List.{take-append-le, drop-append-le}, specs.List.AllByRecursion}
use Rattle.shop_nodes.specs.{Branching.insert_by, declared.nodes.Node.Node, inner.HeldNodes.nodes_below}
use Rattle.shop_nodes.proofs.Members.{all_insert}
use Rattle.shop_runs.specs.declared.plans.Order.{Order, TheVariants.{Kept, Bound}}
use Rattle.shop_runs.specs.declared.{distant_nodes.DistantNodes.DistantNodes, open_nodes.OpenNodes.OpenNodes}
use Rattle.shop_runs.specs.inner.Distant.{count_of, nodes_within, AreAdded, AreDistant, IsRetired}
use Rattle.shop_runs.specs.inner.{Stacks.put_all_before, Stores.{open_list, order_of}, NodeLists.least_of_bounds}
use Rattle.shop_runs.proofs.{Cutting.all_front, DistantLemmas.{count_append, none_within}}

abbrev pub AreBefore : ℕ → List Node → Type 0
AreBefore h ns = AllByRecursion (λ n. n.bound < h) ns

abbrev pub AreFrom : ℕ → List Node → Type 0
AreFrom h ns = AllByRecursion (λ n. h ≤ n.bound) ns

-- a node is put among the first nodes, or among the later ones
insert_front : (h : ℕ) (n : Node) (ns ms : List Node) → n.bound < h → AreFrom h ms
    → insert_by (λ m. m.bound) n (ns ++ ms) ≡ insert_by (λ m. m.bound) n ns ++ ms
insert_front h n [] [] l a = refl
insert_front h n [] (m ∷ ms) l a = grind (arith, lt-leb)
insert_front h n (x ∷ ns) ms l a = grind (arith, cases_Bool, insert_front h n ns ms l a)

insert_back : (h : ℕ) (n : Node) (ns ms : List Node) → h ≤ n.bound → AreBefore h ns
    → insert_by (λ m. m.bound) n (ns ++ ms) ≡ ns ++ insert_by (λ m. m.bound) n ms
insert_back h n [] ms l a = refl
insert_back h n (x ∷ ns) ms l a = grind (arith, cases_Bool, lt-ltb, insert_back h n ns ms l a.1)

module _ (h c : ℕ) where
  -- those put among the first stay before the horizon, those among the later ones behind it
  near_put : (o : Order) (ns nodes : List Node) → AreBefore h nodes
      → AreBefore h (put_all_before o (nodes_below (min c h) ns) nodes)
  near_put o [] nodes a = a
  near_put Kept (n ∷ ns) nodes a = grind (arith, cases_lt, lt-ltb, le-ltb, near_put Kept ns nodes a)
  near_put Bound (n ∷ ns) nodes a = grind (arith, cases_lt, lt-ltb, le-ltb, all_insert, near_put Bound ns nodes a)

  distant_put : (ns nodes : List Node) → AreFrom h nodes
      → AreFrom h (put_all_before Bound (nodes_within h c ns) nodes)
  distant_put [] nodes a = a
  distant_put (n ∷ ns) nodes a = grind
      (arith, cases_lt, lt-ltb, le-ltb, le-leb, lt-leb, all_insert, distant_put ns nodes a)

  put_split : (ns first later : List Node) → AreBefore h first → AreFrom h later
      → put_all_before Bound (nodes_below c ns) (first ++ later)
      ≡ put_all_before Bound (nodes_below (min c h) ns) first ++ put_all_before Bound (nodes_within h c ns) later
  put_split [] first later a b = refl
  put_split (n ∷ ns) first later a b = grind (
    arith,
    cases_lt,
    lt-ltb,
    le-ltb,
    le-leb,
    insert_front,
    insert_back,
    near_put,
    distant_put,
    put_split ns first later a b,
  )

-- what is put is counted
count_insert : (b : ℕ) (n : Node) (ns : List Node)
    → count_of b (insert_by (λ m. m.bound) n ns) ≡ count_of b (n ∷ ns)
count_insert b n [] = refl
count_insert b n (m ∷ ns) = grind (arith, cases_Bool, count_insert b n ns)

pub count_put : (b : ℕ) (ns nodes : List Node) → count_of b (put_all_before Bound ns nodes)
    ≡ count_of b ns + count_of b nodes
count_put b [] nodes = grind arith
count_put b (n ∷ ns) nodes = grind (arith, count_insert, count_put b ns nodes)

insert_longer : (n : Node) (ns : List Node) → length (insert_by (λ m. m.bound) n ns) ≡ suc (length ns)
insert_longer n [] = refl
insert_longer n (m ∷ ns) = grind (arith, cases_Bool, insert_longer n ns)

longer : (ns nodes : List Node) → length nodes ≤ length (put_all_before Bound ns nodes)
longer [] nodes = omega arith
longer (n ∷ ns) nodes = grind (arith, insert_longer, longer ns nodes)

-- none lies behind a horizon that isn't below the makespan
pub none_distant : (h c : ℕ) (ns : List Node) → c ≤ h → AreFrom h ns → AreBefore c ns → ns ≡ []
none_distant h c [] le a b = refl
none_distant h c (n ∷ ns) le a b = absurd (let x = a.0 in let y = b.0 in omega arith)

before_lower : (c h : ℕ) (ns : List Node) → AreBefore c ns → AreBefore h ns → AreBefore (min c h) ns
before_lower c h [] a b = tt
before_lower c h (n ∷ ns) a b = ((let x = a.0 in let y = b.0 in omega arith), before_lower c h ns a.1 b.1)

from_lower : (c h : ℕ) (ns : List Node) → c ≤ h → AreFrom h ns → AreFrom c ns
from_lower c h [] le a = tt
from_lower c h (n ∷ ns) le a = ((let x = a.0 in omega arith), from_lower c h ns le a.1)

from_both : (h : ℕ) (ns ms : List Node) → AreFrom h ns → AreFrom h ms → AreFrom h (ns ++ ms)
from_both h [] ms a b = b
from_both h (n ∷ ns) ms a b = (a.0, from_both h ns ms a.1 b)

before_filter : (h c : ℕ) (ns : List Node) → AreBefore h ns → AreBefore h (nodes_below c ns)
before_filter h c [] a = tt
before_filter h c (n ∷ ns) a = grind (arith, cases_Bool, before_filter h c ns a.1)

from_filter : (h c : ℕ) (ns : List Node) → AreFrom h ns → AreFrom h (nodes_below c ns)
from_filter h c [] a = tt
from_filter h c (n ∷ ns) a = grind (arith, cases_Bool, from_filter h c ns a.1)

all_kept : (h c : ℕ) (ns : List Node) → h ≤ c → AreBefore h ns → nodes_below c ns ≡ ns
all_kept h c [] le a = refl
all_kept h c (n ∷ ns) le a = grind (arith, lt-ltb, all_kept h c ns le a.1)

-- counts below a makespan
count_below : (b c : ℕ) (ns : List Node) → count_of b (nodes_below c ns) ≡ cond (ltb b c) (count_of b ns) 0
count_below b c [] = grind (arith, cases_Bool)
count_below b c (n ∷ ns) = grind (arith, cases_Bool, cases_lt, lt-ltb, le-ltb, count_below b c ns)

taken_count : (counts : List ℕ) (b c : ℕ) → get_or (take c counts) b 0 ≡ cond (ltb b c) (get_or counts b 0) 0
taken_count counts b zero = grind (arith, le-ltb)
taken_count [] b (suc c) = grind (arith, cases_Bool)
taken_count (x ∷ counts) zero (suc c) = grind (arith, lt-ltb)
taken_count (x ∷ counts) (suc b) (suc c) = grind (arith, taken_count counts b c)

-- the first items of a list are the first of all, where there are enough or no others
pub first_of_all : {A : Type 0} (n : ℕ) (xs ys : List A) → (ys ≡ []) ⊎ (n ≤ length xs)
    → (take n (xs ++ ys) ≡ take n xs) × (drop n (xs ++ ys) ≡ drop n xs ++ ys)
first_of_all n xs ys enough = elim enough [
  | inl none ↦ (
    ap (λ zs. take n (xs ++ zs)) none ∙ ap (take n) (append-nil xs),
    ap (λ zs. drop n (xs ++ zs)) none ∙ (ap (drop n) (append-nil xs) ∙ (sym (append-nil (drop n xs))
        ∙ ap (λ zs. drop n xs ++ zs) (sym none))),
  )
  | inr long ↦ (take-append-le n xs ys long, drop-append-le n xs ys long)
]

-- the least bound is that of the first nodes
least_from : (h c : ℕ) (ns : List Node) → c ≤ h → AreFrom h ns → least_of_bounds c ns ≡ c
least_from h c [] le a = refl
least_from h c (n ∷ ns) le a = grind (arith, least_from h c ns le a.1)

pub least_near : (h c : ℕ) (ns distant : List Node) → AreBefore h ns → AreFrom h distant → (distant ≡ [])
    ⊎ (1 ≤ length ns)
    → least_of_bounds c (ns ++ distant) ≡ least_of_bounds c ns
least_near h c [] distant a b enough = elim enough [
  | inl none ↦ ap (least_of_bounds c) none
  | inr some ↦ absurd (omega arith)
]
least_near h c (n ∷ ns) distant a b enough = go (min c n.bound) ns (let x = a.0 in omega arith) a.1
  where
    go : (d : ℕ) (xs : List Node) → d ≤ h → AreBefore h xs → least_of_bounds d (xs ++ distant) ≡ least_of_bounds d xs
    go d [] le x = least_from h d distant le b
    go d (y ∷ xs) le x = go (min d y.bound) xs (omega arith) x.1

-- what stands of a run after each step of a round
module _ (most c : ℕ) (store : OpenNodes) (distant : DistantNodes) (ns : List Node)
    (are : AreDistant most c store distant ns) where
  pub distant_taken : (n left : ℕ) (later : OpenNodes) → most ≡ n + left → order_of later ≡ order_of store
      → open_list later ≡ drop n (open_list store) → AreDistant left c later distant ns
  distant_taken n left later e order list = record {
    near = subst (AreBefore distant.horizon) (sym list) (before_drop n (open_list store) are.near);
    behind = are.behind;
    counted = are.counted;
    enough = elim are.enough [
      | inl le ↦ inl le
      | inr many ↦ inr (
        order ∙ many.0,
        (let l = ap length list in let d = length-drop n (open_list store)
            in let m = many.1 in omega arith),
      )
    ];
  }
    where
      before_drop : (n : ℕ) (xs : List Node) → AreBefore distant.horizon xs → AreBefore distant.horizon (drop n xs)
      before_drop zero xs a = a
      before_drop (suc n) [] a = tt
      before_drop (suc n) (x ∷ xs) a = before_drop n xs a.1

  pub distant_kept : (m : ℕ) (later : OpenNodes) (distants : DistantNodes) → m ≤ c → order_of later ≡ order_of store
      → open_list later ≡ nodes_below m (open_list store) → distants.horizon ≡ distant.horizon
      → distants.counts.items ≡ take m distant.counts.items → AreDistant most m later distants (nodes_below m ns)
  distant_kept m later distants le order list horizon counts = record {
    near = subst (λ h. AreBefore h (open_list later)) (sym horizon)
        (subst (AreBefore distant.horizon) (sym list) (before_filter distant.horizon m (open_list store) are.near));
    behind = subst (λ h. AreFrom h (nodes_below m ns)) (sym horizon) (from_filter distant.horizon m ns are.behind);
    counted = λ b. (count_below b m ns ∙ (ap (λ k. cond (ltb b m) k 0) (are.counted b)
        ∙ (sym (taken_count distant.counts.items b m) ∙ ap (λ xs. get_or xs b 0) (sym counts))));
    enough = elim are.enough [
      | inl low ↦ inl (let h = horizon in omega arith)
      | inr many ↦ elim (cases_lt distant.horizon m) [
        | inl low ↦ inr (
          order ∙ many.0,
          (let l = ap length (list
              ∙ all_kept distant.horizon m (open_list store) (omega arith) are.near) in let x = many.1 in omega arith),
        )
        | inr high ↦ inl (let h = horizon in omega arith)
      ]
    ];
  }

  -- where a run keeps its order, or no node lies behind its store, none comes to lie there
  pub distant_joined : (left : List Node) (later : OpenNodes) (distants : DistantNodes) → AreBefore c ns
      → order_of later ≡ order_of store
      → open_list later ≡ put_all_before (order_of store) (nodes_below (min c distant.horizon) left) (open_list store)
      → distants.horizon ≡ distant.horizon
      → AreAdded (nodes_within distant.horizon c left) distant.counts.items distants.counts.items
      → (more : List Node) × AreDistant most c later distants more
      × (put_all_before (order_of store) (nodes_below c left) (open_list store ++ ns) ≡ open_list later ++ more)
  distant_joined left later distants low order list horizon added = go (order_of store) refl
    where
      near : AreBefore distants.horizon (open_list later)
      near = subst (λ h. AreBefore h (open_list later)) (sym horizon) (subst (AreBefore distant.horizon) (sym list)
          (near_put distant.horizon c (order_of store) left (open_list store) are.near))

      go : (o : Order) → order_of store ≡ o → (more : List Node) × AreDistant most c later distants more
          × (put_all_before (order_of store) (nodes_below c left) (open_list store ++ ns) ≡ open_list later ++ more)
      go Kept is = elim are.enough [
        | inl le ↦ (
            let none : ns ≡ [] = none_distant distant.horizon c ns le are.behind low
            in let same : min c distant.horizon ≡ c = omega arith
            in (
              [],
              record {
                near = near;
                behind = tt;
                counted = λ b. (let e = are.counted b in let f = added b in let g = ap (count_of b) none
                    in let h = ap (count_of b) (none_within distant.horizon c left le) in omega arith);
                enough = inl (let h = horizon in omega arith);
              },
              ap (λ xs. put_all_before (order_of store) (nodes_below c left) (open_list store ++ xs)) none
                  ∙ (ap (put_all_before (order_of store) (nodes_below c left)) (append-nil (open_list store))
                  ∙ (ap (λ m. put_all_before (order_of store) (nodes_below m left) (open_list store)) (sym same)
                  ∙ (sym list ∙ sym (append-nil (open_list later))))),
            )
            )
        | inr many ↦ absurd (let e : Kept ≡ Bound = sym is ∙ many.0 in cc)
      ]
      go Bound is =
          let more = put_all_before Bound (nodes_within distant.horizon c left) ns
          in (
            more,
            record {
              near = near;
              behind = subst (λ h. AreFrom h more) (sym horizon) (distant_put distant.horizon c left ns are.behind);
              counted = λ b. (let e = count_put b (nodes_within distant.horizon c left) ns in let f = are.counted b
                  in let g = added b in omega arith);
              enough = elim are.enough [
                | inl le ↦ inl (let h = horizon in omega arith)
                | inr many ↦ inr (
                  order ∙ is,
                  (let l = ap length (list ∙ ap (λ o. put_all_before o
                      (nodes_below (min c distant.horizon) left) (open_list store)) is)
                      in let x = longer (nodes_below (min c distant.horizon) left) (open_list store)
                      in let y = many.1 in omega arith),
                )
              ];
            },
            ap (λ o. put_all_before o (nodes_below c left) (open_list store ++ ns)) is
                ∙ (put_split distant.horizon c left (open_list store) ns are.near are.behind
                ∙ ap (λ xs. xs ++ more) (sym (list ∙ ap (λ o. put_all_before o
                (nodes_below (min c distant.horizon) left) (open_list store)) is))),
          )

  -- nodes that the store lets go lie behind it
  pub distant_retired : (later : OpenNodes) (distants : DistantNodes) → order_of later ≡ order_of store
      → IsRetired most (open_list store) distant (open_list later) distants
      → (order_of store ≡ Kept → distants.horizon ≡ distant.horizon)
      → (more : List Node) × AreDistant most c later distants more × (open_list store ++ ns ≡ open_list later ++ more)
  distant_retired later distants order retired kept = elim retired.horizon [
    | inl none ↦ (
        let same : open_list store ≡ open_list later = retired.all ∙ (ap (λ xs. open_list later ++ xs) none.0
        ∙ append-nil (open_list later))
        in (
          ns,
          record {
            near = subst (λ h. AreBefore h (open_list later)) (sym none.1)
                (subst (AreBefore distant.horizon) same are.near);
            behind = subst (λ h. AreFrom h ns) (sym none.1) are.behind;
            counted = λ b. (let e = are.counted b in let f = retired.counted b in let g = ap (count_of b) none.0
                in omega arith);
            enough = elim are.enough [
              | inl le ↦ inl (let h = none.1 in omega arith)
              | inr many ↦ inr (order ∙ many.0, (let l = ap length same in let y = many.1 in omega arith))
            ];
          },
          ap (λ xs. xs ++ ns) same,
        )
        )
    | inr up ↦ (
        let more = retired.gone ++ ns
        in let front : AreBefore distant.horizon (open_list later) = all_front (λ n. n.bound < distant.horizon)
        (open_list later) retired.gone (subst (AreBefore distant.horizon) retired.all are.near)
        in (
          more,
          record {
            near = subst (λ h. AreBefore h (open_list later)) (sym up.moves)
                (before_lower distant.horizon up.end (open_list later) front up.below);
            behind = subst (λ h. AreFrom h more) (sym up.moves) (from_both (min distant.horizon up.end) retired.gone ns
                (from_lower (min distant.horizon up.end) up.end retired.gone (omega arith) up.behind)
                (from_lower (min distant.horizon up.end) distant.horizon ns (omega arith) are.behind));
            counted = λ b. (let e = are.counted b in let f = retired.counted b in let g = count_append b retired.gone ns
                in omega arith);
            enough = orders (order_of store) refl up.enough;
          },
          ap (λ xs. xs ++ ns) retired.all ∙ append_assoc (open_list later) retired.gone ns,
        )
        )
  ]
    where
      orders : (o : Order) → order_of store ≡ o → most ≤ length (open_list later)
          → (c ≤ distants.horizon) ⊎ ((order_of later ≡ Bound) × (most ≤ length (open_list later)))
      orders Kept is many = elim are.enough [
        | inl le ↦ inl (let h = kept is in omega arith)
        | inr other ↦ absurd (let e : Kept ≡ Bound = sym is ∙ other.0 in cc)
      ]
      orders Bound is many = inr (order ∙ is, many)
