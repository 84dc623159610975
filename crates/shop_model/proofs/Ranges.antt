-- Lists made job by job.
use Rattle.std.proofs.Common.{◌≡◌, ℕ, zero, suc, ◌+◌, List, [], ◌∷◌, ◌++◌, ◌∙◌, ap, arith, add-one}
use Rattle.std.{proofs.lemmas.List.{append-nil, Concat.flat_map-append}, specs.List.{range_with_len, flat_map}}

range_suc : (a n j : ℕ) → a + n ≡ j → range_with_len a (suc n) ≡ range_with_len a n ++ j ∷ []
range_suc a zero j e = let f : a ≡ j = omega arith in ap (λ (x : ℕ). x ∷ []) f
range_suc a (suc n) j e = ap (λ (xs : List ℕ). a ∷ xs) (range_suc (a + 1) n j (omega arith))

-- one more number
pub flat_map_range_more : {A : Type 0} (f : ℕ → List A) (j : ℕ)
    → flat_map f (range_with_len 0 (j + 1)) ≡ flat_map f (range_with_len 0 j) ++ f j
flat_map_range_more f j =
    let range : range_with_len 0 (j + 1) ≡ range_with_len 0 j ++ j ∷ [] = rw add-one (range_suc 0 j j (omega arith))
    in ap (flat_map f) range ∙ (flat_map-append f (range_with_len 0 j) (j ∷ [])
    ∙ ap (λ xs. flat_map f (range_with_len 0 j) ++ xs) (append-nil (f j)))

pub flat_map_more_part : {A : Type 0} (f : ℕ → List A) (old new part : List A) (j : ℕ)
    → old ≡ flat_map f (range_with_len 0 j)
    → f j ≡ part → new ≡ old ++ part → new ≡ flat_map f (range_with_len 0 (j + 1))
flat_map_more_part f old new part j before each is = grind (arith, flat_map_range_more)
