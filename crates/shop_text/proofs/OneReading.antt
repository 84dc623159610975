-- A text has one reading at most: lines that are good are good for one list of parts and have no fault, and a fault is
-- the only one.
use Rattle.std.proofs.{lemmas.Grind.common_steps, Common.{Some, None, refl, sym, ap, ◌∙◌, append_assoc, arith}}
use Rattle.std.proofs.Common.{◌≡◌, ℕ, ◌+◌, ◌<◌, inl, inr, Bool, true, false, List, [], ◌∷◌, ◌++◌, length, rules, Option}
use Rattle.std.proofs.{lemmas.List.{append-nil, map-append}, lemmas.List.Concat.flat_map-cons}
use Rattle.std.specs.{Prelude.IsTrue, List.AllByRecursion}
use Rattle.shop_text.specs.{Lines.{Line, Blank, Numbers, Words, Numbered}, declared.faults.ReadFault.ReadFault}
use Rattle.shop_text.specs.Texts.{NamedShop, lines_left, named_from, IsText, IsTextFault, OneReading}
use Rattle.shop_text.specs.Grammar.{Row, Grammar, LineFault, WrongRow, fault_at, Entry, Part, entry_rows}
use Rattle.shop_text.specs.Grammar.{lines_of_entry, lines_of_part, lines_of_parts, AreText, AreSkipped, IsAccepted}
use Rattle.shop_text.specs.Grammar.{AreAccepted, IsPart, IsGood, IsBegun, refusal, IsRefused, IsTruncated, IsFault}
use Rattle.shop_text.specs.declared.faults.ReadFault.TheVariants.{NoInstance, Truncated}

-- how lines end: outside a part, inside one, or at a line that is refused
pub data End : Type 0 where
  Outside : End
  Inside : End
  Refused : ReadFault → End

abbrev pub Reading : Type 0
Reading = List Part × End

abbrev pub at_end : List Entry → End
at_end [] = Outside
at_end (e ∷ begun) = Inside

abbrev onto : List Part → Reading → Reading
onto parts reading = (parts ++ reading.0, reading.1)

-- a number line: refused, or the last of its part, or one more
abbrev on_row : Option LineFault → ℕ → Bool → List Entry → (List Entry → Reading) → Reading
on_row (Some name) n whole begun go = ([], Refused (fault_at n name))
on_row None n true begun go = onto (begun ∷ []) (go [])
on_row None n false begun go = go begun

abbrev on_words : Bool → ℕ → Reading → Reading
on_words true n reading = reading
on_words false n reading = ([], Refused (fault_at n WrongRow))

abbrev pub entry : List Numbered → ℕ → Row → Entry
entry text n row = record { before = text; line = n; row = row }

-- the rows with one more
abbrev pub with_row : List Entry → List Numbered → ℕ → Row → List Entry
with_row begun text n row = begun ++ entry text n row ∷ []

-- the lines one by one: the begun part, the text lines since its last row, and the lines to come
abbrev pub read : Grammar → List Entry → List Numbered → List Numbered → Reading
read f begun text [] = ([], at_end begun)
read f begun text ((n, Blank) ∷ lines) = read f begun text lines
read f begun text ((n, Words words) ∷ lines) =
    on_words (f.skips (entry_rows begun)) n (read f begun (text ++ (n, Words words) ∷ []) lines)
read f begun text ((n, Numbers row) ∷ lines) =
    on_row (f.refuses (entry_rows begun) row) n (f.is_whole (entry_rows (with_row begun text n row)))
    (with_row begun text n row) (λ o. read f o [] lines)

read_text : (f : Grammar) (begun : List Entry) (text more lines : List Numbered) → AreText more
    → IsTrue (f.skips (entry_rows begun)) → read f begun text (more ++ lines) ≡ read f begun (text ++ more) lines
read_text f begun text [] lines are skips = grind (arith, common_steps, append-nil)
read_text f begun text ((n, Words words) ∷ more) lines are skips =
    grind (arith, append_assoc, read_text f begun (text ++ (n, Words words) ∷ []) more lines are.1 skips)
read_text f begun text ((n, Numbers row) ∷ more) lines are skips = absurd are.0
read_text f begun text ((n, Blank) ∷ more) lines are skips = absurd are.0

read_skipped : (f : Grammar) (begun : List Entry) (more lines : List Numbered) → AreSkipped f (entry_rows begun) more
    → read f begun [] (more ++ lines) ≡ read f begun more lines
read_skipped f begun more lines x = grind (arith, read_text)

read_entry : (f : Grammar) (begun : List Entry) (e : Entry) (lines : List Numbered) → IsAccepted f (entry_rows begun) e
    → read f begun [] (lines_of_entry e ++ lines)
    ≡ on_row None e.line (f.is_whole (entry_rows (begun ++ e ∷ []))) (begun ++ e ∷ []) (λ o. read f o [] lines)
read_entry f begun e lines a = grind (arith, common_steps, append_assoc, read_skipped)

rows_more : (begun : List Entry) (e : Entry) → entry_rows (begun ++ e ∷ []) ≡ entry_rows begun ++ e.row ∷ []
rows_more begun e = map-append (λ (e : Entry). e.row) begun (e ∷ [])

-- the line of the last of some entries
abbrev last_line : Entry → List Entry → ℕ
last_line e [] = e.line
last_line e (next ∷ entries) = last_line next entries

-- the rows of a part, or of its beginning
read_entries : (f : Grammar) (begun : List Entry) (e : Entry) (entries : List Entry) (lines : List Numbered)
    → AreAccepted f (entry_rows begun) (e ∷ entries) → read f begun [] (lines_of_part (e ∷ entries) ++ lines)
    ≡ on_row None (last_line e entries) (f.is_whole (entry_rows (begun ++ e ∷ entries))) (begun ++ e ∷ entries)
    (λ o. read f o [] lines)
read_entries f begun e [] lines a = grind (arith, common_steps, flat_map-cons, append-nil, read_entry)
read_entries f begun e (next ∷ entries) lines a =
    grind (
      arith,
      rows_more,
      flat_map-cons,
      append_assoc,
      read_entry,
      read_entries f (begun ++ e ∷ []) next entries
          lines,
    )

-- what each grammar is
pub record IsGrammar (f : Grammar) : Type 0 where
  pub none_whole : f.is_whole [] ≡ false
  pub skips_first : f.skips [] ≡ true

read_parts : (f : Grammar) → IsGrammar f → (parts : List Part) (lines : List Numbered) → AllByRecursion (IsPart f) parts
    → read f [] [] (lines_of_parts parts ++ lines) ≡ onto parts (read f [] [] lines)
read_parts f is [] lines h = refl
read_parts f is ([] ∷ parts) lines h = grind (arith, common_steps)
read_parts f is ((e ∷ part) ∷ parts) lines h =
    grind (arith, common_steps, flat_map-cons, append_assoc, read_entries, read_parts f is parts lines h.1)

pub read_good : (f : Grammar) → IsGrammar f → (lines : List Numbered) (parts : List Part) → IsGood f lines parts
    → read f [] [] lines ≡ (parts, Outside)
read_good f is lines parts good =
    ap (read f [] []) good.cut ∙ read_parts f is parts good.after good.parts_good ∙ ap (onto parts)
    (ap (read f [] []) (sym (append-nil good.after)) ∙ read_text f [] [] good.after [] good.after_text is.skips_first)
    ∙ ap (λ (ps : List Part). (ps, Outside)) (append-nil parts)

-- lines are good for one list of parts
pub one_list : (f : Grammar) → IsGrammar f → (lines : List Numbered) (parts others : List Part) → IsGood f lines parts
    → IsGood f lines others → parts ≡ others
one_list f is lines parts others a b =
    ap (λ (r : Reading). r.0) (sym (read_good f is lines parts a) ∙ read_good f is lines others b)

-- The lines begin some parts: what follows is read at this place.
read_begun : (f : Grammar) → IsGrammar f → (lines later : List Numbered) (begun : List Entry)
    (b : IsBegun f lines begun) → read f [] [] (lines ++ later) ≡ onto b.parts (read f begun b.after later)
read_begun f is lines later begun b =
    let follow : List Numbered = b.after ++ later
    in ap (λ (ls : List Numbered). read f [] [] (ls ++ later)) b.cut ∙ ap (read f [] [])
    (append_assoc (lines_of_parts b.parts ++ lines_of_part begun) b.after later
    ∙ append_assoc (lines_of_parts b.parts) (lines_of_part begun) follow)
    ∙ read_parts f is b.parts (lines_of_part begun ++ follow) b.parts_good
    ∙ ap (onto b.parts) (opened follow begun b.begun_good b.room ∙ read_skipped f begun b.after later b.after_skipped)
  where
    opened : (follow : List Numbered) (es : List Entry) → AreAccepted f [] es → f.is_whole (entry_rows es) ≡ false
        → read f [] [] (lines_of_part es ++ follow) ≡ read f es [] follow
    opened follow [] a room = refl
    opened follow (e ∷ es) a room = grind (arith, read_entries)

-- a line that is refused ends the reading
read_line : (f : Grammar) (begun : List Entry) (text : List Numbered) (n : ℕ) (line : Line) (later : List Numbered)
    (name : LineFault) → refusal f (entry_rows begun) line ≡ Some name
    → read f begun text ((n, line) ∷ later) ≡ ([], Refused (fault_at n name))
read_line f begun text n x later name e = grind arith

pub read_refused : (f : Grammar) → IsGrammar f → (lines : List Numbered) (fault : ReadFault) → IsRefused f lines fault
    → (read f [] [] lines).1 ≡ Refused fault
read_refused f is lines fault r =
    ap (λ (ls : List Numbered). (read f [] [] ls).1) r.cut
    ∙ ap (λ (x : Reading). x.1) (read_begun f is r.before (r.line ∷ r.later) r.begun r.place)
    ∙ ap (λ (x : Reading). x.1) (read_line f r.begun r.place.after r.line.0 r.line.1 r.later r.name r.refused)
    ∙ ap Refused (sym r.told)

pub read_truncated : (f : Grammar) → IsGrammar f → (last : ℕ) (lines : List Numbered) (fault : ReadFault)
    → IsTruncated f last lines fault → (read f [] [] lines).1 ≡ Inside
read_truncated f is last lines fault t =
    ap (λ (ls : List Numbered). (read f [] [] ls).1) (sym (append-nil lines))
    ∙ ap (λ (x : Reading). x.1) (read_begun f is lines [] t.begun t.place) ∙ inside t.begun t.inside
  where
    inside : (es : List Entry) → 0 < length es → at_end es ≡ Inside
    inside x h = grind arith

pub read_nothing : (f : Grammar) → IsGrammar f → (lines : List Numbered) → AreText lines
    → read f [] [] lines ≡ ([], Outside)
read_nothing f is lines are =
    ap (read f [] []) (sym (append-nil lines)) ∙ read_text f [] [] lines [] are is.skips_first

-- ---- the law

-- the fault of a reading, if it has one
abbrev pub fault_of : ℕ → Reading → Option ReadFault
fault_of last (parts, Refused fault) = Some fault
fault_of last (parts, Inside) = Some (Truncated (last + 1))
fault_of last ([], Outside) = Some NoInstance
fault_of last (part ∷ parts, Outside) = None

at_refused : (last : ℕ) (r : Reading) (fault : ReadFault) → r.1 ≡ Refused fault → fault_of last r ≡ Some fault
at_refused last r fault e = ap (λ (end : End). fault_of last (r.0, end)) e

at_inside : (last : ℕ) (r : Reading) (fault : ReadFault) → r.1 ≡ Inside → fault ≡ Truncated (last + 1)
    → fault_of last r ≡ Some fault
at_inside last r fault e told = grind (arith, common_steps)

pub fault_read : (f : Grammar) → IsGrammar f → (last : ℕ) (lines : List Numbered) (fault : ReadFault)
    → IsFault f last lines fault → fault_of last (read f [] [] lines) ≡ Some fault
fault_read f is last lines fault (inl none) = grind (arith, read_nothing)
fault_read f is last lines fault (inr (inl t)) = search (rules, at_inside, read_truncated)
fault_read f is last lines fault (inr (inr r)) = search (rules, at_refused, read_refused)

pub no_fault : (last : ℕ) (parts : List Part) → 0 < length parts → fault_of last (parts, Outside) ≡ None
no_fault last x h = grind arith

-- what is good has no fault
pub good_has_no_fault : (f : Grammar) → IsGrammar f → (last : ℕ) (lines : List Numbered) (parts : List Part)
    (fault : ReadFault) → IsGood f lines parts → IsFault f last lines fault → ⊥
good_has_no_fault f is last lines parts fault good bad =
    let e : None ≡ Some fault =
    sym (no_fault last parts good.some) ∙ sym (ap (fault_of last) (read_good f is lines parts good))
    ∙ fault_read f is last lines fault bad
    in cc

-- a fault is the only one
pub one_fault : (f : Grammar) → IsGrammar f → (last : ℕ) (lines : List Numbered) (fault other : ReadFault)
    → IsFault f last lines fault → IsFault f last lines other → fault ≡ other
one_fault f is last lines fault other a b =
    let e : Some fault ≡ Some other =
    sym (fault_read f is last lines fault a) ∙ fault_read f is last lines other b
    in cc

-- ---- whole texts

not_both : (f : Grammar) → IsGrammar f → (text : List ℕ) (shops : List NamedShop) (fault : ReadFault)
    → IsText f text shops → IsTextFault f text fault → ⊥
not_both f is text shops fault a (inl b) = let s = a.short in let l = b.long in omega arith
not_both f is text shops fault a (inr b) = search (rules, good_has_no_fault)

one_text_fault : (f : Grammar) → IsGrammar f → (text : List ℕ) (fault other : ReadFault) → IsTextFault f text fault
    → IsTextFault f text other → fault ≡ other
one_text_fault f is text fault other (inl a) (inl b) = a.told ∙ sym b.told
one_text_fault f is text fault other (inl a) (inr b) = absurd (let s = b.short in let l = a.long in omega arith)
one_text_fault f is text fault other (inr a) (inl b) = absurd (let s = a.short in let l = b.long in omega arith)
one_text_fault f is text fault other (inr a) (inr b) = search (rules, one_fault)

pub one_text : (f : Grammar) → IsGrammar f → OneReading f
one_text f is = record {
  one_list = λ text shops others a b.
      a.shops_are ∙ ap (named_from f 1) (one_list f is (lines_left f text) a.parts b.parts a.good b.good)
      ∙ sym b.shops_are;
  one_fault = λ text fault other a b. one_text_fault f is text fault other a b;
  not_both = λ text shops fault a b. not_both f is text shops fault a b;
}
