-- Pieces and the rest are all the words.
use Rattle.std.proofs.Common.{◌≡◌, ℕ, zero, suc, ◌*◌, ◌⊎◌, inl, inr, List, [], ◌∷◌, ◌++◌, drop, refl, ap, arith}
use Rattle.std.proofs.{Common.append_assoc, Math.Seq.drop-nil, lemmas.List.{drop-drop, take-append-drop}}
use Rattle.std.specs.List.{AllByRecursion, flat_map}
use Rattle.shop_nodes.proofs.Members.{In}
use Rattle.shop_runs.specs.{Round.cut_into, Laws.PiecesAreAll}

module _ {A : Type 0} where
  -- what is in two lists together is in one of them
  pub in_or : (x : A) (xs ys : List A) → In x (xs ++ ys) → In x xs ⊎ In x ys
  in_or x [] ys h = inr h
  in_or x (y ∷ xs) ys h = elim h [
    | inl e ↦ inl (inl e)
    | inr g ↦ elim (in_or x xs ys g) [ inl k ↦ inl (inr k) | inr k ↦ inr k ]
  ]

  -- what is in all pieces together is in one of them
  pub in_some : (x : A) (ps : List (List A)) → In x (flat_map (λ p. p) ps) → (p : List A) × In p ps × In x p
  in_some x [] h = absurd h
  in_some x (p ∷ ps) h = elim (in_or x p (flat_map (λ p. p) ps) h) [
    | inl k ↦ (p, inl refl, k)
    | inr k ↦ (let r = in_some x ps k in (r.0, inr r.1, r.2))
  ]

  pub all_front : (P : A → Type 0) (xs ys : List A) → AllByRecursion P (xs ++ ys) → AllByRecursion P xs
  all_front P [] ys a = tt
  all_front P (x ∷ xs) ys a = (a.0, all_front P xs ys a.1)

  pub all_back : (P : A → Type 0) (xs ys : List A) → AllByRecursion P (xs ++ ys) → AllByRecursion P ys
  all_back P [] ys a = a
  all_back P (x ∷ xs) ys a = all_back P xs ys a.1

  pub all_pieces : (P : A → Type 0) (ps : List (List A)) → AllByRecursion P (flat_map (λ p. p) ps)
      → AllByRecursion (AllByRecursion P) ps
  all_pieces P [] a = tt
  all_pieces P (p ∷ ps) a = (
    all_front P p (flat_map (λ p. p) ps) a,
    all_pieces P ps
        (all_back P p (flat_map (λ p. p) ps) a),
  )

pub cut_join : (n size : ℕ) (ws : List (List ℕ)) → flat_map (λ p. p) (cut_into n size ws) ++ drop (n * size) ws ≡ ws
cut_join zero size ws = let e : zero * size ≡ 0 = omega arith in ap (λ n. drop n ws) e
cut_join (suc n) size [] = drop-nil (suc n * size)
cut_join (suc n) size (w ∷ ws) =
    grind (arith, drop-drop, append_assoc, take-append-drop, cut_join n size (drop size (w ∷ ws)))

pub pieces_all : PiecesAreAll
pieces_all plan words = cut_join 256 plan.piece words
