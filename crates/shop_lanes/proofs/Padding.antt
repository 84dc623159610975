-- Rows that are filled up to whole blocks, and what of them is seen.
use Rattle.std.proofs.Common.{◌≡◌, ℕ, zero, suc, ◌+◌, ◌-◌, ◌*◌, ◌/◌, ◌<◌, ◌≤◌, Bool, inl, inr, List, [], ◌∷◌, length}
use Rattle.std.proofs.Common.{map, take, set, replicate, get_or, refl, ap, sym, ◌∙◌, arith, length-set}
use Rattle.std.proofs.lemmas.{Bool.{cases_lt, Decides.nat_tests}, List.{take-replicate, drop-replicate, drop-set-lt}}
use Rattle.std.proofs.lemmas.List.{length-replicate, length-take, get_or-replicate, get_or-take, get_or-drop}
use lib.Lanes.{mask_l}
use Rattle.shop_lanes.specs.{Rows.blocks, Marks.{marked, waits_below}, SetBits.set_bits, Ends.IsFirstLeast}
use Rattle.shop_lanes.specs.{Eights.is_between, inner.Passes.IsPadded}
use Rattle.shop_lanes.proofs.{LaneLists.length-blocks, MarkLemmas.set_bits-mask}

pub take-set : {A : Type 0} (n : ℕ) (xs : List A) (i : ℕ) (x : A) → take n (set xs i x) ≡ set (take n xs) i x
take-set zero xs i x = refl
take-set (suc n) [] i x = refl
take-set (suc n) (y ∷ xs) zero x = refl
take-set (suc n) (y ∷ xs) (suc i) x = ap (λ l. y ∷ l) (take-set n xs i x)

replicate_le : (none n k : ℕ) → get_or (replicate n none) k 0 ≤ none
replicate_le none zero k = omega arith
replicate_le none (suc n) zero = omega arith
replicate_le none (suc n) (suc k) = replicate_le none n k

set_le : (top : ℕ) (xs : List ℕ) (i x : ℕ) → ((k : ℕ) → get_or xs k 0 ≤ top) → x ≤ top
    → (k : ℕ) → get_or (set xs i x) k 0 ≤ top
set_le top [] i x small le k = omega arith
set_le top (y ∷ xs) zero x small le zero = le
set_le top (y ∷ xs) zero x small le (suc k) = small (suc k)
set_le top (y ∷ xs) (suc i) x small le zero = small 0
set_le top (y ∷ xs) (suc i) x small le (suc k) = set_le top xs i x (λ n. small (suc n)) le k

pub padded_none : (none jobs : ℕ) (ends : List ℕ) → ends ≡ replicate (8 * (jobs / 8 + 1)) none
    → IsPadded none jobs ends × (take jobs ends ≡ replicate jobs none)
padded_none none jobs ends e = grind (arith, length-replicate, drop-replicate, replicate_le, take-replicate)

pub padded_set : (none jobs : ℕ) (ends : List ℕ) (job end : ℕ) → IsPadded none jobs ends → job < length (take jobs ends)
    → end ≤ none → IsPadded none jobs (set ends job end)
padded_set none jobs ends job end h lt le = grind (arith, length-take, length-set, drop-set-lt, set_le)

-- the first least of a padded row is one of the jobs' ends
pub first_least_seen : (none jobs : ℕ) (ends : List ℕ) (i : ℕ) → IsPadded none jobs ends → 0 < length (take jobs ends)
    → IsFirstLeast ends i → IsFirstLeast (take jobs ends) i
first_least_seen none jobs ends i pad some h =
    let taken = length-take jobs ends
    in let within = pad.within
    in let inside = h.within
    in let before : i < jobs = elim (cases_lt i jobs) [
      | inl lt ↦ lt
      | inr past ↦ absurd (
          let j = i - jobs
          in let at : jobs + j ≡ i = omega arith
          in let value : get_or ends i 0 ≡ none =
          ap (λ n. get_or ends n 0) (sym at)
          ∙ sym (get_or-drop jobs ends j 0)
          ∙ ap (λ l. get_or l j 0) pad.rest
          ∙ get_or-replicate (length ends - jobs) j none 0 (omega arith)
          in let less = h.first 0 (omega arith)
          in let most = pad.least 0
          in omega arith
          )
    ]
    in let here : get_or (take jobs ends) i 0 ≡ get_or ends i 0 = get_or-take jobs ends i 0 before
    in record {
      within = omega arith;
      least = λ k lt.
          let there : get_or (take jobs ends) k 0 ≡ get_or ends k 0 = get_or-take jobs ends k 0 (omega arith)
          in let a = h.least k (omega arith)
          in omega arith;
      first = λ k lt.
          let there : get_or (take jobs ends) k 0 ≡ get_or ends k 0 = get_or-take jobs ends k 0 (omega arith)
          in let a = h.first k lt
          in omega arith;
    }

marked_alike : (p q : ℕ → Bool) → ((x : ℕ) → p x ≡ q x) → (at : ℕ) (xs : List ℕ) → marked p at xs ≡ marked q at xs
marked_alike p q same at [] = refl
marked_alike p q same at (x ∷ xs) = grind (arith, marked_alike p q same (at + 1) xs)

-- above 0 and at most one less than the limit
pub marks_below : (heads : List ℕ) (from to limit upto bits : ℕ) (marks : List ℕ) → 8 * to ≤ length heads
    → to ≤ from + 8 → upto ≡ limit - 1 → marks ≡ set_bits 64 (8 * from) bits
    → bits ≡ mask_l (map (is_between 0 upto) (blocks from to heads))
    → marks ≡ marked (waits_below limit) (8 * from) (blocks from to heads)
marks_below heads from to limit upto bits marks room few below marks_are bits_are =
    grind (arith, length-blocks, set_bits-mask, marked_alike, nat_tests)
