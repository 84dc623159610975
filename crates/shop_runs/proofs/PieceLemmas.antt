-- Nodes cut into pieces.
use Rattle.std.proofs.Common.{◌≡◌, ℕ, zero, suc, ◌+◌, ◌-◌, ◌*◌, ◌≤◌, ◌<◌, Bool, true, false, ◌&&◌, List, [], ◌∷◌, ◌++◌}
use Rattle.std.proofs.Common.{map, length, get_or, take, drop, refl, sym, ◌∙◌, ap, subst, arith, eqb, append_assoc}
use Rattle.std.proofs.lemmas.{Bool.{eqb-true, eq-eqb}, List.{map-append, take-take, drop-take, take-map, drop-map}}
use Rattle.std.proofs.lemmas.List.{append-nil, take_all, drop_all, length-drop, Elements.recursion_from_All}
use Rattle.std.{proofs.lemmas.List.Elements.All-from_recursion, specs.List.AllByRecursion}
use Rattle.shop_model.specs.Shop.{Shop}
use Rattle.shop_nodes.specs.{declared.{nodes.Node.Node, pieces.Piece.Piece}, Nodes.{words_of, IsNode, AreNodes}}
use Rattle.shop_runs.specs.{Round.cut_into, Nodes.{pieces_in, ArePieces, numbered}, inner.NodeLists.nodes_in}

both : (a b : Bool) → (a && b) ≡ true → (a ≡ true) × (b ≡ true)
both x b e = grind arith

-- the piece at index n has the number n
pub numbered_at : (k : ℕ) (ps : List Piece) (n : ℕ) (d : Piece) → numbered k ps ≡ true → n < length ps
    → (get_or ps n d).number ≡ k + n
numbered_at k [] n d e h = absurd (omega arith)
numbered_at k (p ∷ ps) zero d e h = grind (arith, both, eqb-true)
numbered_at k (p ∷ ps) (suc n) d e h =
    let t = both (eqb p.number k) (numbered (k + 1) ps) e in let u = numbered_at (k + 1) ps n d t.1 (omega arith)
    in omega arith

-- one more piece, of the next number
pub numbered_more : (k : ℕ) (ps : List Piece) (p : Piece) → numbered k ps ≡ true → p.number ≡ k + length ps
    → numbered k (ps ++ p ∷ []) ≡ true
numbered_more k [] p e h = let s : p.number ≡ k = omega arith in rw (eq-eqb p.number k s) refl
numbered_more k (q ∷ ps) p e h =
    let t = both (eqb q.number k) (numbered (k + 1) ps) e
    in let r = numbered_more (k + 1) ps p t.1 (omega arith)
    in rw (t.0, r) refl

module _ {A : Type 0} where
  -- one more item of those that are left
  pub take_next : (xs ys rest zs : List A) (x : A) (k : ℕ) → ys ≡ take k xs → rest ≡ drop k xs → rest ≡ x ∷ zs
      → (ys ++ x ∷ [] ≡ take (k + 1) xs) × (zs ≡ drop (k + 1) xs)
  take_next [] ys rest zs x zero e f g = absurd (let a : x ∷ zs ≡ [] = sym g ∙ f in (cc))
  take_next [] ys rest zs x (suc k) e f g = absurd (let a : x ∷ zs ≡ [] = sym g ∙ f in (cc))
  take_next (y ∷ xs) ys rest zs x zero e f g = grind arith
  take_next (y ∷ xs) ys rest zs x (suc k) e f g = grind (arith, take_next xs (take k xs) rest zs x k refl f g)

  -- a piece is cut off what is left
  pub cut_next : (m size : ℕ) (xs : List A) → 0 < length xs
      → cut_into (suc m) size xs ≡ take size xs ∷ cut_into m size (drop size xs)
  cut_next m size y h = grind arith

  pub cut_none : (m size : ℕ) → cut_into m size (let xs : List A = [] in xs) ≡ []
  cut_none x size = grind arith

  -- no more than n pieces
  pub few_pieces : (n size : ℕ) (xs : List A) → length (cut_into n size xs) ≤ n
  few_pieces zero size xs = omega arith
  few_pieces (suc n) size [] = omega arith
  few_pieces (suc n) size (x ∷ xs) = let a = few_pieces n size (drop size (x ∷ xs)) in omega arith

  -- what lies beyond the pieces changes none
  pub cut_front : (n size m : ℕ) (xs : List A) → 0 < size → n * size ≤ m
      → cut_into n size (take m xs) ≡ cut_into n size xs
  cut_front zero size m xs h k = refl
  cut_front (suc n) size zero xs h k = absurd (let e : suc n * size ≡ size + n * size = omega arith in omega arith)
  cut_front (suc n) size (suc m) [] h k = refl
  cut_front (suc n) size (suc m) (x ∷ xs) h k =
      let e : suc n * size ≡ size + n * size = omega arith
      in let le : size ≤ suc m = omega arith
      in let split : size + (suc m - size) ≡ suc m = omega arith
      in let first : take size (take (suc m) (x ∷ xs)) ≡ take size (x ∷ xs) = take-take size (suc m) (x ∷ xs) le
      in let rest : drop size (take (suc m) (x ∷ xs)) ≡ take (suc m - size) (drop size (x ∷ xs)) =
      ap (λ i. drop size (take i (x ∷ xs))) (sym split) ∙ drop-take size (suc m - size) (x ∷ xs)
      in (λ i. first i ∷ (ap (cut_into n size) rest
      ∙ cut_front n size (suc m - size) (drop size (x ∷ xs)) h (omega arith)) i)

  all_take : (P : A → Type 0) (n : ℕ) (xs : List A) → AllByRecursion P xs → AllByRecursion P (take n xs)
  all_take P zero xs a = tt
  all_take P (suc n) [] a = tt
  all_take P (suc n) (x ∷ xs) a = (a.0, all_take P n xs a.1)

  all_drop : (P : A → Type 0) (n : ℕ) (xs : List A) → AllByRecursion P xs → AllByRecursion P (drop n xs)
  all_drop P zero xs a = a
  all_drop P (suc n) [] a = tt
  all_drop P (suc n) (x ∷ xs) a = all_drop P n xs a.1

  all_cut : (P : A → Type 0) (n size : ℕ) (xs : List A) → AllByRecursion P xs
      → AllByRecursion (AllByRecursion P) (cut_into n size xs)
  all_cut P zero size xs a = tt
  all_cut P (suc n) size [] a = tt
  all_cut P (suc n) size (x ∷ xs) a =
      (all_take P size (x ∷ xs) a, all_cut P n size (drop size (x ∷ xs)) (all_drop P size (x ∷ xs) a))

module _ {A B : Type 0} (f : A → B) where
  map_cut : (n size : ℕ) (xs : List A) → map (map f) (cut_into n size xs) ≡ cut_into n size (map f xs)
  map_cut zero size xs = refl
  map_cut (suc n) size [] = refl
  map_cut (suc n) size (x ∷ xs) =
      (λ i. sym (take-map f size (x ∷ xs)) i ∷
      (map_cut n size (drop size (x ∷ xs)) ∙ ap (cut_into n size) (sym (drop-map f size (x ∷ xs)))) i)

-- the words of the pieces are cut as the nodes are
words_in : (ps : List Piece) → pieces_in ps ≡ map words_of (nodes_in ps)
words_in [] = refl
words_in (p ∷ ps) = ap (λ ws. words_of p.nodes.items ∷ ws) (words_in ps)

pub cut_words : (ps : List Piece) (n size : ℕ) (ns : List Node) → nodes_in ps ≡ cut_into n size ns
    → pieces_in ps ≡ cut_into n size (words_of ns)
cut_words ps n size ns e = words_in ps ∙ (ap (map words_of) e ∙ map_cut (λ (x : Node). x.word) n size ns)

are_pieces : (shop : Shop) (ps : List Piece) → AllByRecursion (AllByRecursion (IsNode shop)) (nodes_in ps)
    → AllByRecursion (λ p. AreNodes shop p.nodes.items) ps
are_pieces shop [] a = tt
are_pieces shop (p ∷ ps) a = (All-from_recursion (IsNode shop) p.nodes.items a.0, are_pieces shop ps a.1)

pub cut_nodes : (shop : Shop) (ps : List Piece) (n size : ℕ) (ns : List Node) → nodes_in ps ≡ cut_into n size ns
    → AreNodes shop ns → ArePieces shop ps
cut_nodes shop ps n size ns e a = All-from_recursion (λ p. AreNodes shop p.nodes.items) ps
    (are_pieces shop ps (subst (AllByRecursion (AllByRecursion (IsNode shop))) (sym e)
    (all_cut (IsNode shop) n size ns (recursion_from_All (IsNode shop) ns a))))

-- a turn of the cutting: the pieces so far, and what is left, are all
pub cut_turn : (ps : List Piece) (p : Piece) (n size : ℕ) (rest rest' all : List Node) → n < 256 → 0 < length rest
    → p.nodes.items ≡ take size rest → rest' ≡ drop size rest
    → nodes_in ps ++ cut_into (256 - n) size rest ≡ cut_into 256 size all
    → nodes_in (ps ++ p ∷ []) ++ cut_into (256 - (n + 1)) size rest' ≡ cut_into 256 size all
cut_turn ps p n size rest rest' all h some e f was =
    let step : 256 - n ≡ suc (256 - (n + 1)) = omega arith
    in let cut : cut_into (256 - n) size rest ≡ take size rest ∷ cut_into (256 - (n + 1)) size (drop size rest) =
    ap (λ m. cut_into m size rest) step ∙ cut_next (256 - (n + 1)) size rest some
    in let more : nodes_in (ps ++ p ∷ []) ≡ nodes_in ps ++ p.nodes.items ∷ [] =
    map-append (λ (q : Piece). q.nodes.items) ps (p ∷ [])
    in (λ i. more i ++ cut_into (256 - (n + 1)) size (f i))
    ∙ (append_assoc (nodes_in ps) (p.nodes.items ∷ []) (cut_into (256 - (n + 1)) size (drop size rest))
    ∙ ((λ i. nodes_in ps ++ (e i ∷ cut_into (256 - (n + 1)) size (drop size rest)))
    ∙ (ap (λ v. nodes_in ps ++ v) (sym cut) ∙ was)))

module _ {A : Type 0} where
  pub take_some : (n : ℕ) (xs : List A) → 0 < length (take n xs) → 0 < length xs
  take_some y xs h = grind arith

  -- where a piece of some size is empty, nothing is left
  pub take_none : (n : ℕ) (xs : List A) → 0 < n → length (take n xs) ≡ 0 → xs ≡ []
  take_none y xs h e = grind arith

  -- all were taken
  pub all_taken : (xs : List A) (n most : ℕ) → drop n xs ≡ [] → n ≤ most
      → (take n xs ≡ take most xs) × ([] ≡ drop most xs)
  all_taken xs n most none le =
      let few = sym (length-drop n xs) ∙ ap length none
      in (take_all n xs (omega arith) ∙ sym (take_all most xs (omega arith)), sym (drop_all most xs (omega arith)))

-- once nothing is left, or no piece may be added, the pieces are all
pub cut_empty : (ps : List Piece) (m size : ℕ) (rest : List Node) (cut : List (List Node)) → rest ≡ []
    → nodes_in ps ++ cut_into m size rest ≡ cut → nodes_in ps ≡ cut
cut_empty ps m size rest cut e was = grind (arith, append-nil, cut_none)

pub cut_last : (ps : List Piece) (m size : ℕ) (rest : List Node) (cut : List (List Node)) → m ≡ 0
    → nodes_in ps ++ cut_into m size rest ≡ cut → nodes_in ps ≡ cut
cut_last ps m size rest cut e was = grind (arith, append-nil)

pub some_open : (n m : ℕ) → n ≡ m → false ≡ eqb n 0 → 0 < m
some_open x m e f = grind arith
