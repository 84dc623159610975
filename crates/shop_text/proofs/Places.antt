-- Where in a part the lines stand after one more: a skipped text line, a row of the part, or its last row.
use Rattle.std.proofs.Common.{arith, ◌≡◌, ℕ, inl, inr, true, false, List, [], ◌∷◌, ◌++◌, None, refl, sym, ap, ◌∙◌}
use Rattle.std.proofs.{Common.append_assoc, lemmas.{Grind.{common_steps, flat_map-append}, List.append-nil}}
use Rattle.std.{proofs.lemmas.List.{map-append, Concat.flat_map-cons}, specs.{Prelude.IsTrue, List.AllByRecursion}}
use Rattle.shop_text.specs.{Lines.{Numbers, Words, Numbered}, Grammar.{IsAccepted, AreAccepted, IsPart, IsBegun}}
use Rattle.shop_text.specs.Grammar.{Row, Grammar, Entry, Part, entry_rows, lines_of_part, lines_of_parts, AreText}
use Rattle.shop_text.proofs.OneReading.{IsGrammar, entry, with_row}

pub text_more : (t : List Numbered) (n : ℕ) (words : List (List ℕ)) → AreText t → AreText (t ++ (n, Words words) ∷ [])
text_more [] n words h = (tt, tt)
text_more (l ∷ t) n words h = (h.0, text_more t n words h.1)

pub accepted_more : (f : Grammar) (rows : List Row) (es : List Entry) (e : Entry) → AreAccepted f rows es
    → IsAccepted f (rows ++ entry_rows es) e → AreAccepted f rows (es ++ e ∷ [])
accepted_more f rows [] e a h = grind (arith, common_steps, append-nil)
accepted_more f rows (x ∷ es) e a h = grind (arith, append_assoc, accepted_more f (rows ++ x.row ∷ []) es e a.1)

pub parts_more : (f : Grammar) (parts : List Part) (p : Part) → AllByRecursion (IsPart f) parts → IsPart f p
    → AllByRecursion (IsPart f) (parts ++ p ∷ [])
parts_more f [] p h g = (g, tt)
parts_more f (q ∷ parts) p h g = (h.0, parts_more f parts p h.1 g)

pub part_last : (parts : List Part) (p : Part)
    → lines_of_parts (parts ++ p ∷ []) ≡ lines_of_parts parts ++ lines_of_part p
part_last parts p = grind (arith, common_steps, flat_map-append, flat_map-cons, append-nil)

pub rows_more : (begun : List Entry) (text : List Numbered) (n : ℕ) (row : Row)
    → entry_rows (with_row begun text n row) ≡ entry_rows begun ++ row ∷ []
rows_more begun text n row = map-append (λ (e : Entry). e.row) begun (entry text n row ∷ [])

-- the lines with one more row
pub entry_cut : (parts : List Part) (begun : List Entry) (after : List Numbered) (n : ℕ) (row : Row)
    (front : List Numbered) → front ≡ lines_of_parts parts ++ lines_of_part begun ++ after
    → front ++ (n, Numbers row) ∷ [] ≡ lines_of_parts parts ++ lines_of_part (with_row begun after n row)
entry_cut parts begun after n row front cut = grind (arith, common_steps, append_assoc, entry)

-- one more row is accepted
pub one_more : (f : Grammar) (front : List Numbered) (begun : List Entry) (s : IsBegun f front begun) (n : ℕ)
    (row : Row) → f.refuses (entry_rows begun) row ≡ None → AreAccepted f [] (with_row begun s.after n row)
one_more f front begun s n row free = grind (arith, common_steps, accepted_more, entry)

-- a text line that is skipped
unfoldable pub words_on : (f : Grammar) (front : List Numbered) (begun : List Entry) (s : IsBegun f front begun) (n : ℕ)
    (words : List (List ℕ)) → IsTrue (f.skips (entry_rows begun)) → IsBegun f (front ++ (n, Words words) ∷ []) begun
words_on f front begun s n words skips = record {
  parts = s.parts;
  after = s.after ++ (n, Words words) ∷ [];
  cut = ap (λ (ls : List Numbered). ls ++ (n, Words words) ∷ []) s.cut
      ∙ append_assoc (lines_of_parts s.parts ++ lines_of_part begun) s.after ((n, Words words) ∷ []);
  parts_good = s.parts_good;
  begun_good = s.begun_good;
  room = s.room;
  after_skipped = (text_more s.after n words s.after_skipped.0, inr skips);
}

-- a row, and the part isn't whole yet
unfoldable pub row_on : (f : Grammar) (front : List Numbered) (begun : List Entry) (s : IsBegun f front begun) (n : ℕ)
    (row : Row)
    → f.refuses (entry_rows begun) row ≡ None → f.is_whole (entry_rows (with_row begun s.after n row)) ≡ false
    → IsBegun f (front ++ (n, Numbers row) ∷ []) (with_row begun s.after n row)
row_on f front begun s n row free room =
    let more : List Entry = with_row begun s.after n row
    in record {
      parts = s.parts;
      after = [];
      cut = entry_cut s.parts begun s.after n row front s.cut
          ∙ sym (append-nil (lines_of_parts s.parts ++ lines_of_part more));
      parts_good = s.parts_good;
      begun_good = one_more f front begun s n row free;
      room = room;
      after_skipped = (tt, inl refl);
    }

-- the last row of a part
unfoldable pub part_on : (f : Grammar) → IsGrammar f
    → (front : List Numbered) (begun : List Entry) (s : IsBegun f front begun) (n : ℕ)
    (row : Row) → f.refuses (entry_rows begun) row ≡ None
    → f.is_whole (entry_rows (with_row begun s.after n row)) ≡ true → IsBegun f (front ++ (n, Numbers row) ∷ []) []
part_on f is front begun s n row free whole =
    let part : Part = with_row begun s.after n row
    in let parts : List Part = s.parts ++ part ∷ []
    in record {
      parts = parts;
      after = [];
      cut = entry_cut s.parts begun s.after n row front s.cut ∙ sym (part_last s.parts part)
          ∙ sym (append-nil (lines_of_parts parts)) ∙ sym (append-nil (lines_of_parts parts ++ []));
      parts_good = parts_more f s.parts part s.parts_good (one_more f front begun s n row free, whole);
      begun_good = tt;
      room = is.none_whole;
      after_skipped = (tt, inl refl);
    }
