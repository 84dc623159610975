-- The line-by-line reading computes the fault of a text, and its parts where it has none.
use Rattle.std.proofs.Common.{arith, rules, ◌≡◌, ℕ, leb, true, List, [], length, Option, Some, None, sym, ap, ◌∙◌, inl}
use Rattle.std.proofs.{Common.inr, lemmas.Bool.leb-true}
use Rattle.shop_text.specs.{Formats.grammar_of, Lines.{Numbered, lines_of}, Grammar.{Grammar, IsGood, IsFault}}
use Rattle.shop_text.specs.Texts.{NamedShop, lines_left, named_from, IsText, IsTextFault}
use Rattle.shop_text.specs.{declared.faults.ReadFault.ReadFault, declared.formats.Format.Format}
use Rattle.shop_text.proofs.OneReading.{Reading, read, fault_of, read_good, fault_read, no_fault, IsGrammar}
use Rattle.shop_text.proofs.{SomeReading.{Outcome, some_reading, all_left}, ReaderTurns.is_grammar}

-- the reading of a text, and its fault
abbrev pub reading_of : Grammar → List ℕ → Reading
reading_of grammar text = read grammar [] [] (lines_left grammar text)

abbrev pub fault_in : Grammar → List ℕ → Option ReadFault
fault_in grammar text = fault_of (length (lines_of text)) (reading_of grammar text)

lines_fault : (f : Grammar) → IsGrammar f → (last : ℕ) (lines : List Numbered) (e : ReadFault)
    → Outcome f last lines → fault_of last (read f [] [] lines) ≡ Some e → IsFault f last lines e
lines_fault f is last lines e (inl (parts, good)) h =
    absurd (let none = sym (no_fault last parts good.some)
    ∙ sym (ap (fault_of last) (read_good f is lines parts good)) in cc)
lines_fault f is last lines e (inr (fault, bad)) h = grind (arith, fault_read)

lines_good : (f : Grammar) → IsGrammar f → (last : ℕ) (lines : List Numbered) → Outcome f last lines
    → fault_of last (read f [] [] lines) ≡ None → IsGood f lines (read f [] [] lines).0
lines_good f is last lines (inl (parts, good)) h = grind (arith, read_good)
lines_good f is last lines (inr (fault, bad)) h =
    absurd (let is_some = fault_read f is last lines fault bad in cc)

pub has_fault : (p : Format) (text : List ℕ) (e : ReadFault) → leb (length text) 16777216 ≡ true
    → fault_in (grammar_of p) text ≡ Some e → IsTextFault (grammar_of p) text e
has_fault p text e short h =
    let f : Grammar = grammar_of p
    in inr (record {
      short = leb-true (length text) 16777216 short;
      in_lines = search (rules, lines_fault, is_grammar, some_reading, all_left);
    })

pub is_read_as : (p : Format) (text : List ℕ) (shops : List NamedShop) → leb (length text) 16777216 ≡ true
    → fault_in (grammar_of p) text ≡ None → shops ≡ named_from (grammar_of p) 1 (reading_of (grammar_of p) text).0
    → IsText (grammar_of p) text shops
is_read_as p text shops short h e = search (rules, leb-true, lines_good, is_grammar, some_reading, all_left)
