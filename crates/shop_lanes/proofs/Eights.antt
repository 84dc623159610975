-- Lists of eight, their sums by three shifted additions, and their greatest by three turns.
use Rattle.std.proofs.Common.{◌≡◌, ℕ, suc, ◌+◌, ◌-◌, ◌≤◌, ◌^◌, List, [], ◌∷◌, length, refl, ap, ◌∙◌, arith}
use Rattle.std.proofs.lemmas.Nat.{pow_pos}
use lib.Lanes.{Each2, sum_l}
use mir.{Syntax.Width, Val.{Fits, bits}}
use Rattle.shop_lanes.specs.{Eights.{added, AddsFit, moved}, declared.blocks.Move.TheVariants.{UpOne, UpTwo, UpFour}}
use Rattle.shop_lanes.specs.Folds.{sums_before}

one_more : (P : List ℕ → Type 0) (n : ℕ) → ((x : ℕ) (xs : List ℕ) → length xs ≡ n → P (x ∷ xs))
    → (v : List ℕ) → length v ≡ suc n → P v
one_more P n each [] e = absurd (omega arith)
one_more P n each (x ∷ xs) e = each x xs (omega arith)

none_more : (P : List ℕ → Type 0) → P [] → (v : List ℕ) → length v ≡ 0 → P v
none_more P none [] e = none
none_more P none (x ∷ xs) e = absurd (omega arith)

-- what is so of eight numbers is so of a list of that length
pub on_eight : (P : List ℕ → Type 0)
    → ((a b c d e f g h : ℕ) → P (a ∷ b ∷ c ∷ d ∷ e ∷ f ∷ g ∷ h ∷ []))
    → (v : List ℕ) → length v ≡ 8 → P v
on_eight P each =
    one_more P 7 (λ a. one_more (λ v. P (a ∷ v)) 6 (λ b. one_more (λ v. P (a ∷ b ∷ v)) 5 (λ c.
    one_more (λ v. P (a ∷ b ∷ c ∷ v)) 4 (λ d. one_more (λ v. P (a ∷ b ∷ c ∷ d ∷ v)) 3 (λ e.
    one_more (λ v. P (a ∷ b ∷ c ∷ d ∷ e ∷ v)) 2 (λ f. one_more (λ v. P (a ∷ b ∷ c ∷ d ∷ e ∷ f ∷ v)) 1 (λ g.
    one_more (λ v. P (a ∷ b ∷ c ∷ d ∷ e ∷ f ∷ g ∷ v)) 0 (λ h.
    none_more (λ v. P (a ∷ b ∷ c ∷ d ∷ e ∷ f ∷ g ∷ h ∷ v)) (each a b c d e f g h)))))))))

abbrev pub pairs : List ℕ → List ℕ
pairs v = added v (moved UpOne v)

abbrev pub fours : List ℕ → List ℕ
fours v = added (pairs v) (moved UpTwo (pairs v))

abbrev pub eights : List ℕ → List ℕ
eights v = added (fours v) (moved UpFour (fours v))

-- for each number `start` plus all numbers up to it
abbrev pub running : ℕ → List ℕ → List ℕ
running start [] = []
running start (x ∷ xs) = (start + x) ∷ running (start + x) xs

-- sums that fit a width are what its additions ask for
pub lanes_fit : (w : Width) (xs ys : List ℕ) → AddsFit (2 ^ bits w - 1) xs ys → Each2 (λ a b. Fits w (a + b)) xs ys
lanes_fit w [] ys h = tt
lanes_fit w (x ∷ xs) [] h = tt
lanes_fit w (x ∷ xs) (y ∷ ys) h = grind (arith, pow_pos, lanes_fit w xs ys h.1)

-- the sums up to each one, moved by one
sums_moved : (v : List ℕ) → length v ≡ 8 → moved UpOne (running 0 v) ≡ sums_before 0 v
sums_moved = on_eight (λ v. moved UpOne (running 0 v) ≡ sums_before 0 v) (λ a b c d e f g h. refl)

pub pairs_fit : (limit : ℕ) (v : List ℕ) → length v ≡ 8 → sum_l v ≤ limit → AddsFit limit v (moved UpOne v)
pairs_fit limit = on_eight (λ v. sum_l v ≤ limit → AddsFit limit v (moved UpOne v))
    (λ a b c d e f g h small. omega arith)

pub fours_fit : (limit : ℕ) (v : List ℕ) → length v ≡ 8 → sum_l v ≤ limit
    → AddsFit limit (pairs v) (moved UpTwo (pairs v))
fours_fit limit = on_eight (λ v. sum_l v ≤ limit → AddsFit limit (pairs v) (moved UpTwo (pairs v)))
    (λ a b c d e f g h small. omega arith)

pub eights_fit : (limit : ℕ) (v : List ℕ) → length v ≡ 8 → sum_l v ≤ limit
    → AddsFit limit (fours v) (moved UpFour (fours v))
eights_fit limit = on_eight (λ v. sum_l v ≤ limit → AddsFit limit (fours v) (moved UpFour (fours v)))
    (λ a b c d e f g h small. omega arith)

pub same_eight : {a b c d e f g h a' b' c' d' e' f' g' h' : ℕ} → a ≡ a' → b ≡ b' → c ≡ c' → d ≡ d' → e ≡ e' → f ≡ f'
    → g ≡ g' → h ≡ h'
    → a ∷ b ∷ c ∷ d ∷ e ∷ f ∷ g ∷ h ∷ [] ≡ a' ∷ b' ∷ c' ∷ d' ∷ e' ∷ f' ∷ g' ∷ h' ∷ []
same_eight p q r s t u v w = cc

-- three shifted additions give the running sums
pub eights-running : (v : List ℕ) → length v ≡ 8 → eights v ≡ running 0 v
eights-running = on_eight (λ v. eights v ≡ running 0 v) (λ a b c d e f g h.
    same_eight (omega arith) (omega arith) (omega arith) (omega arith) (omega arith) (omega arith) (omega arith)
    (omega arith))

-- the three additions one by one
module _ (limit : ℕ) (v ones : List ℕ) (eight : length v ≡ 8) (small : sum_l v ≤ limit)
    (ones_are : ones ≡ moved UpOne v) where
  pub ones_fit : AddsFit limit v ones
  ones_fit = rw ones_are (pairs_fit limit v eight small)

  module _ (ps twos : List ℕ) (ps_are : ps ≡ added v ones) (twos_are : twos ≡ moved UpTwo ps) where
    are_pairs : ps ≡ pairs v
    are_pairs = ps_are ∙ ap (added v) ones_are

    are_twos : twos ≡ moved UpTwo (pairs v)
    are_twos = twos_are ∙ ap (moved UpTwo) are_pairs

    pub twos_fit : AddsFit limit ps twos
    twos_fit = rw (are_pairs, are_twos) (fours_fit limit v eight small)

    module _ (fs four : List ℕ) (fs_are : fs ≡ added ps twos) (four_is : four ≡ moved UpFour fs) where
      are_fours : fs ≡ fours v
      are_fours = fs_are ∙ ap (λ l. added l twos) are_pairs ∙ ap (added (pairs v)) are_twos

      are_four : four ≡ moved UpFour (fours v)
      are_four = four_is ∙ ap (moved UpFour) are_fours

      pub four_fits : AddsFit limit fs four
      four_fits = rw (are_fours, are_four) (eights_fit limit v eight small)

      sums_run : (sums : List ℕ) → sums ≡ added fs four → sums ≡ running 0 v
      sums_run sums e = grind (arith, are_fours, are_four, eights-running)

      pub run_moved : (sums up : List ℕ) → sums ≡ added fs four → up ≡ moved UpOne sums → up ≡ sums_before 0 v
      run_moved sums up e f = f ∙ ap (moved UpOne) (sums_run sums e) ∙ sums_moved v eight
