-- Masks and least numbers of lists in blocks of eight, and the first number that a mask tells.
use Rattle.std.proofs.Common.{◌≡◌, ◌≢◌, ℕ, zero, suc, ◌+◌, ◌-◌, ◌*◌, ◌<◌, ◌≤◌, ◌^◌, min, Bool, true, false, rules, inl}
use Rattle.std.proofs.Common.{inr, ◌==◌, List, [], ◌∷◌, ◌++◌, length, map, take, drop, replicate, get_or, ap, sym, ◌∙◌}
use Rattle.std.proofs.{Common.{arith, pow-suc, take-append-drop, length-drop}, lemmas.Bool.cases_lt}
use Rattle.std.proofs.lemmas.Bool.Decides.{nat_tests}
use Rattle.std.proofs.lemmas.List.{drop_all, drop-drop, map-append, length-map, length-take, take_all}
use Rattle.std.proofs.{lemmas.Simd.{mask_l-lt, none_from_empty_mask, get_or-chunk, length-zip2}, Math.Pow.pow_mono}
use lib.{Count.count_trailing_zeros, Lanes.{mask_l, zip2}}
use Rattle.shop_lanes.specs.{Ends.IsFirstLeast, Folds.least_up_to, inner.Passes.IsLeastFound}
use Rattle.shop_lanes.proofs.{Extremes.{least-append, least-lesser, least_le_top}, MarkLemmas.{odd_lowest, even_lowest}}

-- the elements from block b on are those of block b and those behind it
pub drop_split : {A : Type 0} (b : ℕ) (xs : List A)
    → drop (8 * b) xs ≡ take 8 (drop (8 * b) xs) ++ drop (8 * (b + 1)) xs
drop_split b xs = grind (arith, take-append-drop 8 (drop (8 * b) xs), drop-drop 8 (8 * b) xs)

pub length-block : {A : Type 0} (b : ℕ) (xs : List A) → 8 * (b + 1) ≤ length xs → length (take 8 (drop (8 * b) xs)) ≡ 8
length-block b xs le = simp (length-take, length-drop) (omega arith)

pub mask-append : (xs ys : List Bool) → mask_l (xs ++ ys) ≡ mask_l xs + 2 ^ length xs * mask_l ys
mask-append [] ys = omega arith
mask-append (x ∷ xs) ys =
    let rest = mask-append xs ys
    in let power : 2 ^ suc (length xs) * mask_l ys ≡ 2 * (2 ^ length xs * mask_l ys) =
    rw (pow-suc 2 (length xs)) (omega arith)
    in omega (arith, rest, power)

-- the elements from pair b on are those of the pair and those behind it
pair_split : {A : Type 0} (b : ℕ) (xs : List A)
    → drop (16 * b) xs ≡ take 16 (drop (16 * b) xs) ++ drop (16 * (b + 1)) xs
pair_split b xs = grind (arith, take-append-drop 16 (drop (16 * b) xs), drop-drop 16 (16 * b) xs)

length-pair : {A : Type 0} (b : ℕ) (xs : List A) → 16 * (b + 1) ≤ length xs → length (take 16 (drop (16 * b) xs)) ≡ 16
length-pair b xs le = simp (length-take, length-drop) (omega arith)

-- one pair back
pub mask_back : (p : ℕ → Bool) (n : ℕ) (xs : List ℕ) → 0 < n → 16 * n ≤ length xs → (pair rest : ℕ)
    → pair ≡ mask_l (map p (take 16 (drop (16 * (n - 1)) xs))) → rest ≡ mask_l (map p (drop (16 * n) xs))
    → pair + 65536 * rest ≡ mask_l (map p (drop (16 * (n - 1)) xs))
mask_back p n xs some le pair rest e f = grind (arith, length-map, length-pair, pair_split, map-append, mask-append)

-- behind all pairs stands nothing, or one block
pub no_odd : (p : ℕ → Bool) (n : ℕ) (xs : List ℕ) → length xs ≤ n → 0 ≡ mask_l (map p (drop n xs))
no_odd p n xs past = ap (λ l. mask_l (map p l)) (sym (drop_all n xs past))

pub odd_block : (p : ℕ → Bool) (h : ℕ) (xs : List ℕ) → length xs ≤ 16 * h + 8
    → mask_l (map p (take 8 (drop (8 * (2 * h)) xs))) ≡ mask_l (map p (drop (16 * h) xs))
odd_block p h xs few =
    let at : 8 * (2 * h) ≡ 16 * h = omega arith
    in let last = length-drop (16 * h) xs
    in ap (λ n. mask_l (map p (take 8 (drop n xs)))) at
    ∙ ap (λ l. mask_l (map p l)) (take_all 8 (drop (16 * h) xs) (omega arith))

mask_small : (p : ℕ → Bool) (xs : List ℕ) (k : ℕ) → length xs ≤ 64 → mask_l (map p (drop k xs)) < 2 ^ 64
mask_small p xs k le = search (rules, length-map, length-drop, mask_l-lt, pow_mono)

pub mask_fits : (p : ℕ → Bool) (n : ℕ) (xs : List ℕ) → 0 < n → 16 * n ≤ length xs → length xs ≤ 64 → (pair rest : ℕ)
    → pair ≡ mask_l (map p (take 16 (drop (16 * (n - 1)) xs))) → rest ≡ mask_l (map p (drop (16 * n) xs))
    → pair + 65536 * rest < 2 ^ 64
mask_fits p n xs some le few pair rest e f =
    let all = mask_back p n xs some le pair rest e f in omega (arith, all, mask_small p xs (16 * (n - 1)) few)

pub least_begins : (top : ℕ) (xs : List ℕ)
    → min (least_up_to top (replicate 8 top)) (least_up_to top xs) ≡ least_up_to top xs
least_begins top xs = omega (arith, least_le_top top xs)

pub least_more : (top b : ℕ) (xs least next : List ℕ) (all : ℕ) → 8 * (b + 1) ≤ length xs → length least ≡ 8
    → next ≡ zip2 min least (take 8 (drop (8 * b) xs))
    → min (least_up_to top least) (least_up_to top (drop (8 * b) xs)) ≡ all
    → min (least_up_to top next) (least_up_to top (drop (8 * (b + 1)) xs)) ≡ all
least_more top b xs least next all le eight is so_far =
    grind (arith, length-block, least-lesser, drop_split, least-append)

pub length-lesser : (b : ℕ) (xs least next : List ℕ) → 8 * (b + 1) ≤ length xs → length least ≡ 8
    → next ≡ zip2 min least (take 8 (drop (8 * b) xs)) → length next ≡ 8
length-lesser b xs least next le eight is = grind (arith, length-zip2, length-block)

pub least_ends : (top b : ℕ) (xs least : List ℕ) → length xs ≤ 8 * b
    → min (least_up_to top least) (least_up_to top (drop (8 * b) xs)) ≡ least_up_to top xs
    → least_up_to top least ≡ least_up_to top xs
least_ends top b xs least past so_far = grind (arith, drop_all, least_le_top)

-- the lowest bit of a mask is the first number that passes
pub record IsFirstPassed (p : ℕ → Bool) (xs : List ℕ) (r : ℕ) : Type 0 where
  pub within : r < length xs
  pub passes : p (get_or xs r 0) ≡ true
  pub earlier : (i : ℕ) → i < r → p (get_or xs i 0) ≡ false

pub first_passed : (p : ℕ → Bool) (k : ℕ) (xs : List ℕ) → length xs ≤ k → 0 < mask_l (map p xs)
    → IsFirstPassed p xs (count_trailing_zeros k (mask_l (map p xs)))
first_passed p k [] le some = absurd (omega arith)
first_passed p zero (x ∷ xs) le some = absurd (omega arith)
first_passed p (suc k) (x ∷ xs) le some =
    grind (arith, mask_l, count_trailing_zeros, odd_lowest, even_lowest, first_passed p k xs)

equal_if : (number x : ℕ) → (x == number) ≡ true → x ≡ number
equal_if number x e = grind (arith, nat_tests)

different_if : (number x : ℕ) → (x == number) ≡ false → x ≢ number
different_if number x e = grind (arith, nat_tests)

-- i is the first position of `number`, or the length of the list if it is not in it
pub record IsFirstOf (xs : List ℕ) (number i : ℕ) : Type 0 where
  pub within : i ≤ length xs
  pub found : i < length xs → get_or xs i 0 ≡ number
  pub first : (k : ℕ) → k < i → get_or xs k 0 ≢ number

-- the first number of block b that is `number`, where none before the block is
pub position_in_block : (number b : ℕ) (xs : List ℕ) → 8 * (b + 1) ≤ length xs
    → ((k : ℕ) → k < 8 * b → get_or xs k 0 ≢ number)
    → {read : List ℕ} → read ≡ take 8 (drop (8 * b) xs) → {bits : ℕ} → bits ≡ mask_l (map (λ x. x == number) read)
    → bits ≢ 0 → IsFirstOf xs number (8 * b + count_trailing_zeros 64 bits)
position_in_block number b xs le before read_is {bits} told some =
    let block = take 8 (drop (8 * b) xs)
    in let is = told ∙ ap (λ l. mask_l (map (λ x. x == number) l)) read_is
    in let long = length-block b xs le
    in let positive : 0 < mask_l (map (λ x. x == number) block) = omega (arith, is, some)
    in let r = first_passed (λ x. x == number) 64 block (omega (arith, long)) positive
    in let z = count_trailing_zeros 64 (mask_l (map (λ x. x == number) block))
    in let found : 8 * b + count_trailing_zeros 64 bits ≡ 8 * b + z = ap (λ n. 8 * b + count_trailing_zeros 64 n) is
    in let below_8 : z < 8 = let a = r.within in omega (arith, long)
    in rw found (record {
      within = omega arith;
      found = λ lt.
          let here : get_or block z 0 ≡ get_or xs (8 * b + z) 0 = get_or-chunk (8 * b) 8 xs z 0 below_8
          in let same : get_or block z 0 ≡ number = equal_if number (get_or block z 0) r.passes
          in sym here ∙ same;
      first = λ k lt. elim (cases_lt k (8 * b)) [
        | inl early ↦ before k early
        | inr late ↦
            let i = k - 8 * b
            in let small : i < z = omega arith
            in let at : 8 * b + i ≡ k = omega arith
            in let here : get_or block i 0 ≡ get_or xs k 0 =
            get_or-chunk (8 * b) 8 xs i 0 (omega arith) ∙ ap (λ n. get_or xs n 0) at
            in λ e. different_if number (get_or block i 0) (r.earlier i small) (here ∙ e)
      ];
    })

pub none_in_block : (number b : ℕ) (xs : List ℕ) → 8 * (b + 1) ≤ length xs
    → ((k : ℕ) → k < 8 * b → get_or xs k 0 ≢ number)
    → {read : List ℕ} → read ≡ take 8 (drop (8 * b) xs) → {bits : ℕ} → bits ≡ mask_l (map (λ x. x == number) read)
    → bits ≡ 0 → (k : ℕ) → k < 8 * (b + 1) → get_or xs k 0 ≢ number
none_in_block number b xs le before read_is told none k lt =
    let is = told ∙ ap (λ l. mask_l (map (λ x. x == number) l)) read_is
    in elim (cases_lt k (8 * b)) [
      | inl early ↦ before k early
      | inr late ↦ different_if number (get_or xs k 0)
          (none_from_empty_mask (λ x. x == number) xs (8 * b) 8 0 (omega arith) (sym is ∙ none) k late (omega arith))
    ]

-- the least is at most each number, and one of them
least_le : (top : ℕ) (xs : List ℕ) (k : ℕ) → k < length xs → least_up_to top xs ≤ get_or xs k 0
least_le top [] k lt = absurd (omega arith)
least_le top (x ∷ xs) zero lt = omega arith
least_le top (x ∷ xs) (suc k) lt = let rest = least_le top xs k (omega arith) in omega (arith, rest)

least_reached : (top : ℕ) (x : ℕ) (xs : List ℕ) → ((k : ℕ) → get_or (x ∷ xs) k 0 ≤ top)
    → (k : ℕ) × (k < length (x ∷ xs)) × (get_or (x ∷ xs) k 0 ≡ least_up_to top (x ∷ xs))
least_reached top x [] small = (0, omega arith, let a = small 0 in omega arith)
least_reached top x (y ∷ xs) small =
    let r = least_reached top y xs (λ k. small (suc k))
    in elim (cases_lt (least_up_to top (y ∷ xs)) x) [
      | inl lt ↦ (suc r.0, let a = r.1 in omega arith, let a = r.2 in omega arith)
      | inr le ↦ (0, omega arith, omega arith)
    ]

first_of_least : (top : ℕ) (xs : List ℕ) (least i : ℕ) → 0 < length xs → ((k : ℕ) → get_or xs k 0 ≤ top)
    → least ≡ least_up_to top xs → IsFirstOf xs least i → IsFirstLeast xs i
first_of_least top [] least i some small is h = absurd (omega arith)
first_of_least top (x ∷ xs) least i some small is h = grind (arith, least_reached, cases_lt, least_le)

pub least_found : (top : ℕ) (xs : List ℕ) (least i : ℕ) → 0 < length xs → ((k : ℕ) → get_or xs k 0 ≤ top)
    → least ≡ least_up_to top xs → IsFirstOf xs least i → IsLeastFound xs (i, least)
least_found top xs least i some small is h =
    let first = first_of_least top xs least i some small is h
    in record { first = first; least = sym (h.found first.within) }

-- of the bits of those that are the least, the lowest
pub least_by_mask : (top : ℕ) (xs : List ℕ) (least bits : ℕ) → 0 < length xs → length xs ≤ 64
    → ((k : ℕ) → get_or xs k 0 ≤ top) → least ≡ least_up_to top xs → bits ≡ mask_l (map (λ x. x == least) xs)
    → IsFirstLeast xs (count_trailing_zeros 64 bits) × (least ≡ get_or xs (count_trailing_zeros 64 bits) 0)
least_by_mask top [] least bits some few small is e = absurd (omega arith)
least_by_mask top (x ∷ xs) least bits some few small is e =
    let all = x ∷ xs
    in let r = least_reached top x xs small
    in let set : bits ≢ 0 = λ none. some_bit all (sym e ∙ none) r.0 r.1 (r.2 ∙ sym is)
    in let f = first_passed (λ y. y == least) 64 all few (omega (arith, e, set))
    in let z = count_trailing_zeros 64 (mask_l (map (λ y. y == least) all))
    in let here = equal_if least (get_or all z 0) f.passes
    in let first : IsFirstOf all least z = record {
      within = let a = f.within in omega arith;
      found = λ lt. here;
      first = λ k lt. different_if least (get_or all k 0) (f.earlier k lt);
    }
    in rw e (first_of_least top all least z some small is first, sym here)
  where
    some_bit : (ys : List ℕ) → mask_l (map (λ y. y == least) ys) ≡ 0 → (k : ℕ) → k < length ys
        → get_or ys k 0 ≢ least
    some_bit ys none k lt =
        let whole : mask_l (map (λ y. y == least) (take (length ys) (drop 0 ys))) ≡ 0 =
        ap (λ l. mask_l (map (λ y. y == least) l)) (take_all (length ys) ys (omega arith)) ∙ none
        in different_if least (get_or ys k 0)
        (none_from_empty_mask (λ y. y == least) ys 0 (length ys) 0 (omega arith) whole k (omega arith) (omega arith))
