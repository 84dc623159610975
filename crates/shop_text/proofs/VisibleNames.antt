-- The names in a text have visible bytes alone.
use Rattle.std.proofs.{lemmas.Grind.common_steps, Common.{Option, Some, None, refl, subst, arith}}
use Rattle.std.proofs.Common.{◌≡◌, ℕ, zero, suc, ◌+◌, ◌/◌, ◌%◌, ◌<◌, Bool, true, false, cond, ltb, eqb, List, [], ◌∷◌}
use Rattle.std.proofs.lemmas.Bool.{le-leb, lt-ltb}
use Rattle.std.specs.{Prelude.IsTrue, List.{list_all, AllByRecursion}, Fmt.{decimal, digits, digits_onto}}
use Rattle.shop_text.specs.{Lines.Numbered, Grammar.Part, Formats.{is_visible, grammar_of}, Names.first_named}
use Rattle.shop_text.specs.{Texts.{NamedShop, IsText, last_or, headers_of, named_from}, RoundTrip.NamesAreVisible}
use Rattle.shop_text.specs.declared.formats.Format.{Format}

abbrev IsVisible : List ℕ → Type 0
IsVisible bytes = list_all is_visible bytes ≡ true

-- ---- numbers

glyph_visible : (d : ℕ) → d < 10 → is_visible (cond (ltb d 10) (48 + d) (87 + d)) ≡ true
glyph_visible d h = rw (lt-ltb d 10 h, le-leb 33 (48 + d) (omega arith), le-leb (48 + d) 126 (omega arith)) refl

visible_more : (b : ℕ) (bytes : List ℕ) → is_visible b ≡ true → IsVisible bytes → IsVisible (b ∷ bytes)
visible_more b bytes h g = rw (h, g) refl

either_visible : (b : Bool) (xs ys : List ℕ) → IsVisible xs → IsVisible ys → IsVisible (cond b xs ys)
either_visible x xs ys f g = grind arith

digits_visible : (k n : ℕ) (acc : List ℕ) → IsVisible acc → IsVisible (digits_onto k 10 false n acc)
digits_visible zero n acc h = h
digits_visible (suc k) n acc h =
    let more = visible_more (cond (ltb (n % 10) 10) (48 + n % 10) (87 + n % 10)) acc
    (glyph_visible (n % 10) (omega arith)) h
    in either_visible (eqb (n / 10) 0) _ _ more (digits_visible k (n / 10) _ more)

decimal_visible : (n : ℕ) → IsVisible (decimal n)
unfolding digits
decimal_visible n = digits_visible 64 n [] refl

-- ---- headers

last_visible : (p : Format) (lines : List Numbered) (name : List ℕ) → IsVisible name
    → IsVisible (last_or name (headers_of (grammar_of p) lines))
last_visible p [] name h = h
last_visible p (line ∷ lines) name h = grind (arith, last_visible p lines)

named_visible : (p : Format) (n : ℕ) (parts : List Part)
    → AllByRecursion (λ (s : NamedShop). IsTrue (list_all is_visible s.name)) (named_from (grammar_of p) n parts)
named_visible p n [] = tt
named_visible p n (part ∷ parts) = grind (arith, last_visible, decimal_visible, named_visible p (n + 1) parts)

pub names_visible : (p : Format) → NamesAreVisible (grammar_of p)
names_visible p text shops is = grind (arith, common_steps, named_visible)

-- ---- the instance that is asked for

-- what holds of all instances holds of the one that is picked
module _ (P : NamedShop → Type 0) where
  pub picked_has : (shops : List NamedShop) (name : Option (List ℕ)) (asked : NamedShop) → AllByRecursion P shops
      → first_named shops name ≡ Some asked → P asked
  picked_has [] None asked all e = absurd cc
  picked_has (s ∷ shops) None asked all e = let first : s ≡ asked = cc in subst P first all.0
  picked_has [] (Some name) asked all e = absurd cc
  picked_has (s ∷ shops) (Some name) asked all e = grind (arith, picked_has shops (Some name) asked all.1)

pub asked_visible : (p : Format) (text : List ℕ) (shops : List NamedShop) (name : Option (List ℕ))
    (asked : NamedShop) → IsText (grammar_of p) text shops → first_named shops name ≡ Some asked
    → IsTrue (list_all is_visible asked.name)
asked_visible p text shops name asked is e = picked_has (λ (s : NamedShop). IsTrue (list_all is_visible s.name)) shops
    name asked (names_visible p text shops is) e
