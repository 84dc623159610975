-- By its tokens a line is blank, numbers or words.
use Rattle.std.proofs.Common.{◌≡◌, ℕ, ◌<◌, Bool, true, false, cond, List, [], ◌∷◌, ◌++◌, length, map, Option, Some}
use Rattle.std.proofs.{Common.{None, refl, sym, ap, ◌∙◌, arith, append_assoc}, lemmas.Bool.cases_Bool}
use Rattle.std.{proofs.lemmas.List.append-nil, specs.{Prelude.MatchOption, List.list_all}}
use Rattle.shop_text.specs.Lines.{Blank, Numbers, Words, is_number, value_of, line_of_tokens}
use Rattle.shop_text.specs.inner.LineReading.{capped, with_tokens}

abbrev values : List (List ℕ) → List ℕ
values tokens = map (λ t. capped (value_of t)) tokens

all_numbers : (ns : List ℕ) (ts : List (List ℕ)) (ms : List ℕ) → with_tokens ns ts ≡ Some ms
    → (list_all is_number ts ≡ true) × (ms ≡ ns ++ values ts)
all_numbers ns [] ms e = (refl, sym (append-nil ns ∙ cc))
all_numbers ns (t ∷ ts) ms e =
    grind (arith, cases_Bool, append_assoc, all_numbers (ns ++ capped (value_of t) ∷ []) ts ms)

some_word : (ns : List ℕ) (ts : List (List ℕ)) → with_tokens ns ts ≡ None → list_all is_number ts ≡ false
some_word ns [] e = absurd cc
some_word ns (t ∷ ts) e = grind (arith, cases_Bool, some_word (ns ++ capped (value_of t) ∷ []) ts)

-- a token that is no number ends it
pub at_word : (ns : List ℕ) (t : List ℕ) (ts : List (List ℕ)) → is_number t ≡ false → with_tokens ns (t ∷ ts) ≡ None
at_word ns t ts isnt = rw isnt refl

pub is_words : (ts : List (List ℕ)) → with_tokens [] ts ≡ None → line_of_tokens ts ≡ Words ts
is_words x e = grind (arith, some_word)

pub is_blank : (ts : List (List ℕ)) (ns : List ℕ) → with_tokens [] ts ≡ Some ns → length ns ≡ 0
    → line_of_tokens ts ≡ Blank
is_blank x ns e none = grind (arith, all_numbers)

pub is_numbers : (ts : List (List ℕ)) (ns : List ℕ) → with_tokens [] ts ≡ Some ns → 0 < length ns
    → (row : List ℕ) × (line_of_tokens ts ≡ Numbers row) × (ns ≡ map capped row)
is_numbers [] ns e some = absurd (let p : ns ≡ [] = (all_numbers [] [] ns e).1 in omega (arith, some, ap length p))
is_numbers (t ∷ ts) ns e some =
    let p = all_numbers [] (t ∷ ts) ns e
    in (map value_of (t ∷ ts), rw p.0 refl, p.1 ∙ through (t ∷ ts))
  where
    through : (ts : List (List ℕ)) → values ts ≡ map capped (map value_of ts)
    through [] = refl
    through (t ∷ ts) = ap (λ (ns : List ℕ). capped (value_of t) ∷ ns) (through ts)

-- what no number is read from is none
pub no_number : (b : Bool) (n : ℕ) (o : Option ℕ) → o ≡ cond b (Some n) None → ((m : ℕ) → o ≡ Some m → ⊥) → b ≡ false
no_number x n o e h = grind arith

-- what holds where there is nothing, for what is nothing
pub none_of : {A : Type 0} (P : Type 0) (Q : A → Type 0) (o : Option A) → MatchOption o P Q
    → ((x : A) → o ≡ Some x → ⊥) → P
none_of y z u h n = grind arith
