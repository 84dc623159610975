-- Tables under a word, as the word grows.
use Rattle.std.proofs.Common.{◌≡◌, ℕ, ◌≤◌, ◌<◌, inl, inr, List, [], ◌∷◌, ◌++◌, refl, sym, ◌∙◌, ap, subst, arith}
use Rattle.std.proofs.{Common.{append_assoc, cond, eqb}, lemmas.{Bool.{cases_eq, cases_lt}, List.Sums.fold-append}}
use Rattle.std.proofs.lemmas.List.Sums.{sum_by-append, sum_by-cons}
use Rattle.shop_model.specs.Shop.{Shop, Starts, machine_of, IsOperation, IsFeasible, finish_of}
use Rattle.shop_model.specs.Word.{Placing, none_placed, place_next, placing, count_of, IsWord, IsUnder}
use Rattle.shop_model.proofs.WordLemmas.{snoc_induct, count_of-snoc_same, count_of-snoc_other, cut_snoc, IsWord-init}
use Rattle.shop_model.proofs.Placings.{IsNext, place_next-is, IsSound, sound_next, each_placed, before_new, Follows}
use Rattle.shop_model.proofs.Placings.{follows_next, new_follows, merged, merged-placed, between, merged_feasible}

-- the next step of j after w ends before what isn't in w or this begins on its machine
abbrev pub Precedes : Shop → List ℕ → ℕ → Starts → Type 0
Precedes shop w j starts = (i l : ℕ) → IsOperation shop i l → count_of i (w ++ j ∷ []) ≤ l
    → machine_of shop i l ≡ machine_of shop j (count_of j w)
    → finish_of shop starts j (count_of j w) ≤ starts i l

pub under-init : (shop : Shop) (w : List ℕ) (j : ℕ) (starts : Starts) → IsUnder shop (w ++ j ∷ []) starts
    → IsUnder shop w starts × Precedes shop w j starts
under-init shop w j starts u = (
  record {
    feasible = u.feasible;
    first = λ v i later e. u.first v i (later ++ j ∷ [])
        (ap (λ (x : List ℕ). x ++ j ∷ []) e ∙ append_assoc v (i ∷ later) (j ∷ []));
  },
  u.first w j [] refl,
)

pub under-snoc : (shop : Shop) (w : List ℕ) (j : ℕ) (starts : Starts) → IsUnder shop w starts → Precedes shop w j starts
    → IsUnder shop (w ++ j ∷ []) starts
under-snoc shop w j starts u p = record {
  feasible = u.feasible;
  first = λ v i later e. elim (cut_snoc w v later j i e) [
    | inl h ↦ subst (λ (x : List ℕ). (a b : ℕ) → IsOperation shop a b → count_of a (x ++ i ∷ []) ≤ b
        → machine_of shop a b ≡ machine_of shop i (count_of i x) → finish_of shop starts i (count_of i x) ≤ starts a b)
        (sym h.1)
        (subst (λ (y : ℕ). (a b : ℕ) → IsOperation shop a b → count_of a (w ++ y ∷ []) ≤ b
        → machine_of shop a b ≡ machine_of shop y (count_of y w)
        → finish_of shop starts y (count_of y w) ≤ starts a b)
        (sym h.2) p)
    | inr h ↦ u.first v i h.0 h.2
  ];
}

-- what stands once a word is placed
pub record AfterWord (shop : Shop) (w : List ℕ) (p : Placing) : Type 0 where
  pub steps : (i : ℕ) → p.steps i ≡ count_of i w
  pub sound : IsSound shop p
  pub ordered : (v : List ℕ) (j : ℕ) (later : List ℕ) → w ≡ v ++ j ∷ later → (i l : ℕ) → count_of i (v ++ j ∷ []) ≤ l
      → l < p.steps i
      → machine_of shop i l ≡ machine_of shop j (count_of j v) → finish_of shop p.begins j (count_of j v) ≤ p.begins i l

pub placing-snoc : (shop : Shop) (w : List ℕ) (j : ℕ) → placing shop (w ++ j ∷ []) ≡ place_next shop (placing shop w) j
placing-snoc shop w j = fold-append (place_next shop) (none_placed shop) w (j ∷ [])

-- an entry is counted
pub count_of-cut : (v later : List ℕ) (j : ℕ) → count_of j v < count_of j (v ++ j ∷ later)
count_of-cut v later j =
    let f : ℕ → ℕ = λ x. cond (eqb x j) 1 0
    in let a = sum_by-append f v (j ∷ later) in let b = sum_by-cons f j later in let c = count_of-snoc_same v j j refl
    in let d = sum_by-append f v (j ∷ []) in let e = sum_by-cons f j []
    in omega arith

-- the next step of a job is an operation, if the job is to be the next entry
pub next_operation : (shop : Shop) (w : List ℕ) (j : ℕ) → IsWord shop (w ++ j ∷ []) → IsOperation shop j (count_of j w)
next_operation shop w j h = let a = h j in let b = count_of-snoc_same w j j refl in omega arith

after_none : (shop : Shop) → AfterWord shop [] (placing shop [])
after_none shop = grind arith

module _ (shop : Shop) (w : List ℕ) (j : ℕ) (p q : Placing) (n : IsNext shop p j q) where
  after_next : AfterWord shop w p → IsWord shop (w ++ j ∷ []) → AfterWord shop (w ++ j ∷ []) q
  after_next a word =
      let same : p.steps j ≡ count_of j w = a.steps j
      in let op : IsOperation shop j (p.steps j) = rw same (next_operation shop w j word)
      in let counts : (i : ℕ) → q.steps i ≡ count_of i (w ++ j ∷ []) = (λ i. elim (cases_eq i j) [
        | inl e ↦ (let b = count_of-snoc_same w i j e in let c = n.steps_here
            in let d : q.steps i ≡ q.steps j = ap q.steps e in let f = a.steps i
            in let g : p.steps i ≡ p.steps j = ap p.steps e in omega arith)
        | inr ne ↦ (let b = count_of-snoc_other w i j ne in let c = n.steps_other i ne in let f = a.steps i
            in omega arith)
      ])
      in record {
        steps = counts;
        sound = sound_next shop p j q n a.sound op;
        ordered = λ v c later e. elim (cut_snoc w v later j c e) [
          | inl h ↦ (λ i l few below m. let k = counts i
              in let same_count : count_of i (v ++ c ∷ []) ≡ count_of i (w ++ j ∷ []) =
              (let x : v ++ c ∷ [] ≡ w ++ j ∷ [] = cc in ap (count_of i) x) in absurd (omega arith))
          | inr h ↦ (let in_w : count_of c v < p.steps c =
              (let x = count_of-cut v h.0 c in let y = a.steps c
              in let z : count_of c w ≡ count_of c (v ++ c ∷ h.0) = ap (count_of c) h.2 in omega arith)
              in λ i l few below m. each_placed shop p j q n
              (λ i l. count_of i (v ++ c ∷ []) ≤ l → machine_of shop i l ≡ machine_of shop c (count_of c v)
              → finish_of shop q.begins c (count_of c v) ≤ q.begins i l)
              (λ i l below few m. let x = n.begins_old i l below in let y = n.begins_old c (count_of c v) in_w
              in let z = a.ordered v c h.0 h.2 i l few below m in omega arith)
              (λ few m. before_new shop p j q n a.sound c (count_of c v) in_w (sym m))
              i l below few m)
        ];
      }

pub after_word : (shop : Shop) (w : List ℕ) → IsWord shop w → AfterWord shop w (placing shop w)
after_word shop = snoc_induct (λ w. IsWord shop w → AfterWord shop w (placing shop w))
    (λ _. after_none shop)
    (λ w j before word. rw placing-snoc
    (after_next shop w j (placing shop w) (place_next shop (placing shop w) j)
    (place_next-is shop (placing shop w) j) (before (IsWord-init shop w j word)) word))

-- a table under a word follows what the word places
pub follows_word : (shop : Shop) (starts : Starts) (w : List ℕ) → IsWord shop w → IsUnder shop w starts
    → Follows shop (placing shop w) starts
follows_word shop starts = snoc_induct
    (λ w. IsWord shop w → IsUnder shop w starts → Follows shop (placing shop w) starts)
    (λ _ u. record {
      begins = λ i l h. absurd (omega arith);
      ready = λ i op. u.feasible.released i op;
      free = λ i l op h. omega arith;
      ends = λ m. omega arith;
    })
    (λ w j before word under.
    let word' = IsWord-init shop w j word
    in let both = under-init shop w j starts under
    in let a = after_word shop w word'
    in let f = before word' both.0
    in let p = placing shop w
    in let n = place_next-is shop p j
    in let same : p.steps j ≡ count_of j w = a.steps j
    in let op : IsOperation shop j (p.steps j) = rw same (next_operation shop w j word)
    in let counts = after_word shop (w ++ j ∷ []) word
    in rw placing-snoc (follows_next shop p j (place_next shop p j) n starts under.feasible f op
    (λ i l o h m. let x = new_follows shop p j (place_next shop p j) n starts f op
    in let c : (place_next shop p j).steps i ≡ count_of i (w ++ j ∷ []) =
    (let s = counts.steps i in rw placing-snoc at s)
    in let y : finish_of shop starts j (p.steps j) ≤ starts i l = rw same (both.1 i l o (omega arith) (rw same at m))
    in omega arith)))

-- placing the word first and leaving the rest gives a table under the word
pub merged_under : (shop : Shop) (w : List ℕ) (starts : Starts) → IsWord shop w → IsFeasible shop starts
    → Follows shop (placing shop w) starts
    → IsUnder shop w (merged (placing shop w) starts)
merged_under shop w starts word feasible f =
    grind (arith, after_word, merged_feasible, count_of-cut, cases_lt, merged-placed, between)
