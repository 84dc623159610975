-- Lines are good for some parts, or have some fault.
use Rattle.std.proofs.{lemmas.Grind.common_steps, lemmas.Bool.cases_lt, lemmas.List.append-nil}
use Rattle.std.proofs.Common.{◌≡◌, ℕ, ◌+◌, ◌≤◌, ◌⊎◌, inl, inr, Bool, true, false, cond, List, [], ◌∷◌, ◌++◌, length}
use Rattle.std.proofs.Common.{Option, Some, None, refl, sym, ap, subst, ◌∙◌, append_assoc, arith}
use Rattle.std.specs.{Prelude.{IsTrue, filter}, List.AllByRecursion}
use Rattle.shop_text.specs.{Lines.{Line, Blank, Numbers, Words, Numbered, is_left, lines_of}, Grammar.{Row, Grammar}}
use Rattle.shop_text.specs.Grammar.{LineFault, WrongRow, fault_at, Entry, Part, entry_rows, lines_of_parts, AreText}
use Rattle.shop_text.specs.Grammar.{IsPart, IsGood, IsBegun, refusal, IsRefused, IsFault}
use Rattle.shop_text.specs.declared.faults.ReadFault.{ReadFault, TheVariants.{NoInstance, Truncated, TooLong}}
use Rattle.shop_text.specs.Texts.{from_first_header, lines_left, named_from, HasReading, SomeReading}
use Rattle.shop_text.proofs.{OneReading.{IsGrammar, with_row}, Places.{words_on, row_on, part_on}}

abbrev pub Outcome : Grammar → ℕ → List Numbered → Type 0
Outcome f last lines =
    ((parts : List Part) × IsGood f lines parts) ⊎ ((fault : ReadFault) × IsFault f last lines fault)

-- outside a part
outside : (f : Grammar) (last : ℕ) (lines after : List Numbered) (parts : List Part) → lines
    ≡ lines_of_parts parts ++ [] ++ after → AllByRecursion (IsPart f) parts → AreText after → Outcome f last lines
outside f last lines after [] cut good text =
    inr (NoInstance, inl (record { text = subst AreText (sym cut) text; told = refl }))
outside f last lines after (p ∷ parts) cut good text =
    inl (
      p ∷ parts,
      record {
        after = after;
        cut = cut ∙ ap (λ (ls : List Numbered). ls ++ after) (append-nil (lines_of_parts (p ∷ parts)));
        parts_good = good;
        after_text = text;
        some = omega arith;
      },
    )

pub ends : (f : Grammar) (last : ℕ) (lines : List Numbered) (begun : List Entry) → IsBegun f lines begun
    → Outcome f last lines
ends f last lines (e ∷ begun) s =
    inr (Truncated (last + 1), inr (inl (record { begun = e ∷ begun; place = s; inside = omega arith; told = refl })))
ends f last lines [] s = outside f last lines s.after s.parts s.cut s.parts_good s.after_skipped.0

pub refused_here : (f : Grammar) (all front lines : List Numbered) (begun : List Entry) → IsBegun f front begun
    → (n : ℕ) (line : Line) → all ≡ front ++ (n, line) ∷ lines → (name : LineFault)
    → refusal f (entry_rows begun) line ≡ Some name → IsRefused f all (fault_at n name)
refused_here f all front lines begun s n line cut name e = grind (arith, common_steps)

-- from each place on the way, the rest of the lines has an outcome
abbrev Found : Grammar → ℕ → List Numbered → List Numbered → Type 0
Found f last all lines =
    (front : List Numbered) (begun : List Entry) → IsBegun f front begun → all ≡ front ++ lines → Outcome f last all

at_words : (f : Grammar) (last : ℕ) (all lines front : List Numbered) (begun : List Entry) → IsBegun f front begun
    → (n : ℕ) (words : List (List ℕ)) → all ≡ front ++ (n, Words words) ∷ lines → Found f last all lines
    → (b : Bool) → f.skips (entry_rows begun) ≡ b → Outcome f last all
at_words f last all lines front begun s n words cut go true e =
    go (front ++ (n, Words words) ∷ []) begun (words_on f front begun s n words e)
    (cut ∙ sym (append_assoc front ((n, Words words) ∷ []) lines))
at_words f last all lines front begun s n words cut go false e =
    let refused : refusal f (entry_rows begun) (Words words) ≡ Some WrongRow = rw e refl
    in inr (
      fault_at n WrongRow,
      inr (inr (refused_here f all front lines begun s n (Words words) cut WrongRow refused)),
    )

at_row : (f : Grammar) → IsGrammar f → (last : ℕ) (all lines front : List Numbered) (begun : List Entry)
    (s : IsBegun f front begun) (n : ℕ) (row : Row) → all ≡ front ++ (n, Numbers row) ∷ lines → Found f last all lines
    → f.refuses (entry_rows begun) row ≡ None → (b : Bool) → f.is_whole (entry_rows (with_row begun s.after n row)) ≡ b
    → Outcome f last all
at_row f is last all lines front begun s n row cut go free true e =
    go (front ++ (n, Numbers row) ∷ []) [] (part_on f is front begun s n row free e)
    (cut ∙ sym (append_assoc front ((n, Numbers row) ∷ []) lines))
at_row f is last all lines front begun s n row cut go free false e =
    go (front ++ (n, Numbers row) ∷ []) (with_row begun s.after n row) (row_on f front begun s n row free e)
    (cut ∙ sym (append_assoc front ((n, Numbers row) ∷ []) lines))

at_numbers : (f : Grammar) → IsGrammar f → (last : ℕ) (all lines front : List Numbered) (begun : List Entry)
    (s : IsBegun f front begun) (n : ℕ) (row : Row) → all ≡ front ++ (n, Numbers row) ∷ lines → Found f last all lines
    → (o : Option LineFault) → f.refuses (entry_rows begun) row ≡ o → Outcome f last all
at_numbers f is last all lines front begun s n row cut go None e =
    at_row f is last all lines front begun s n row cut go e
    (f.is_whole (entry_rows (with_row begun s.after n row))) refl
at_numbers f is last all lines front begun s n row cut go (Some name) e =
    inr (fault_at n name, inr (inr (refused_here f all front lines begun s n (Numbers row) cut name e)))

abbrev pub AreLeft : List Numbered → Type 0
AreLeft lines = AllByRecursion (λ l. IsTrue (is_left l)) lines

pub found : (f : Grammar) → IsGrammar f → (last : ℕ) (all lines : List Numbered) → AreLeft lines
    → Found f last all lines
found f is last all [] left =
    λ front begun s cut. subst (Outcome f last) (sym (cut ∙ append-nil front)) (ends f last front begun s)
found f is last all ((n, Blank) ∷ lines) left = absurd (let e = left.0 in cc)
found f is last all ((n, Words words) ∷ lines) left =
    λ front begun s cut.
    at_words f last all lines front begun s n words cut (found f is last all lines left.1) (f.skips (entry_rows begun))
    refl
found f is last all ((n, Numbers row) ∷ lines) left =
    λ front begun s cut.
    at_numbers f is last all lines front begun s n row cut (found f is last all lines left.1)
    (f.refuses (entry_rows begun) row) refl

unfoldable pub nothing_yet : (f : Grammar) → IsGrammar f → IsBegun f [] []
nothing_yet f is = record {
  parts = [];
  after = [];
  cut = refl;
  parts_good = tt;
  begun_good = tt;
  room = is.none_whole;
  after_skipped = (tt, inl refl);
}

-- lines that aren't blank are good, or have a fault
pub some_reading : (f : Grammar) → IsGrammar f → (last : ℕ) (lines : List Numbered) → AreLeft lines
    → Outcome f last lines
some_reading f is last lines left = found f is last lines lines left [] [] (nothing_yet f is) refl

-- ---- whole texts

left_all : (lines : List Numbered) → AreLeft (filter is_left lines)
left_all [] = tt
left_all ((n, Blank) ∷ lines) = left_all lines
left_all ((n, Numbers row) ∷ lines) = (refl, left_all lines)
left_all ((n, Words words) ∷ lines) = (refl, left_all lines)

left_chosen : (b : Bool) (xs ys : List Numbered) → AreLeft xs → AreLeft ys → AreLeft (cond b xs ys)
left_chosen x xs ys h g = grind arith

left_after : (f : Grammar) (lines : List Numbered) → AreLeft lines → AreLeft (from_first_header f lines)
left_after f [] h = tt
left_after f (l ∷ lines) h = grind (arith, common_steps, left_after f lines h.1)

pub all_left : (f : Grammar) (text : List ℕ) → AreLeft (lines_left f text)
all_left f text = grind (arith, common_steps, left_all, left_chosen, left_after)

pub some_text : (f : Grammar) → IsGrammar f → SomeReading f
some_text f is text = elim (cases_lt 16777216 (length text)) [
  | inl long ↦ inr (TooLong, inl (record { long = long; told = refl }))
  | inr short ↦
      short_text text short (some_reading f is (length (lines_of text)) (lines_left f text) (all_left f text))
]
  where
    short_text : (text : List ℕ) → length text ≤ 16777216
        → Outcome f (length (lines_of text)) (lines_left f text) → HasReading f text
    short_text text short (inl (parts, good)) =
        inl (named_from f 1 parts, record { short = short; parts = parts; good = good; shops_are = refl })
    short_text text short (inr (fault, bad)) = inr (fault, inr (record { short = short; in_lines = bad }))
