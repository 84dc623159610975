-- What a reader has read after one more line.
use Rattle.std.proofs.{lemmas.Grind.{common_steps, flat_map-append}, lemmas.List.{append-nil, length-map, map-append}}
use Rattle.std.proofs.Common.{◌≡◌, ℕ, suc, ◌+◌, ◌<◌, ◌⊎◌, true, List, [], ◌∷◌, ◌++◌, length, Option, Some, None, String}
use Rattle.std.proofs.Common.{string_bytes, refl, sym, ap, ◌∙◌, subst, append_assoc, arith}
use Rattle.std.proofs.{lemmas.List.Concat.flat_map-cons, lemmas.List.Elements.filter_map-append}
use Rattle.std.specs.{Fmt.decimal, declared.alloc.Global.Global}
use Rattle.shop_model.specs.Shop.{Shop}
use Rattle.shop_text.specs.{Formats.grammar_of, Lines.{Line, Numbers, Words, Numbered}, Names.{shops_of, shop_of_named}}
use Rattle.shop_text.specs.Grammar.{Row, Grammar, LineFault, fault_at, Entry, Part, entry_rows, lines_of_parts, IsBegun}
use Rattle.shop_text.specs.{Grammar.{IsRefused, IsWithoutInstance, AreText}, inner.LineReading.Fails}
use Rattle.shop_text.specs.Texts.{NamedShop, headers_of, last_or, name_of, named_from, OneReading}
use Rattle.shop_text.specs.{inner.Drafts.{IsDraft, IsOneMore, IsLastOne}, declared.instance_drafts.Draft.Draft}
use Rattle.shop_text.specs.inner.InstanceReading.{texts_of, name_or, IsLast, IsReadUpTo, AreRead}
use Rattle.shop_text.specs.{declared.faults.ReadFault.ReadFault, declared.names.Named.Named}
use Rattle.shop_text.specs.declared.faults.ReadFault.TheVariants.{NoMemory, NoInstance}
use Rattle.shop_text.specs.{declared.formats.Format.Format, declared.instance_readers.Reader.Reader}
use Rattle.shop_text.proofs.{OneReading.{IsGrammar, with_row, entry, one_text}, SomeReading.{nothing_yet, refused_here}}
use Rattle.shop_text.proofs.Places.{words_on, row_on, part_on, rows_more}

pub is_grammar : (p : Format) → IsGrammar (grammar_of p)
is_grammar x = grind arith

pub one_reading : (p : Format) → OneReading (grammar_of p)
one_reading p = one_text (grammar_of p) (is_grammar p)

pub nothing_read : (reader : Reader) → reader.named.items ≡ [] → reader.name ≡ None → reader.draft.jobs_wanted ≡ 0
    → IsReadUpTo reader []
unfolding nothing_yet
nothing_read reader named name fresh = record {
  begun = [];
  place = nothing_yet (grammar_of reader.format) (is_grammar reader.format);
  draft_holds = fresh;
  named_are = ap shops_of named;
  name_is = λ otherwise. rw name refl;
}

-- ---- names

last_push : (otherwise name : List ℕ) (names : List (List ℕ)) → last_or otherwise (names ++ name ∷ []) ≡ name
last_push otherwise name [] = refl
last_push otherwise name (next ∷ names) = last_push next name names

header_none : (f : Grammar) (lines : List Numbered) (n : ℕ) (line : Line) → f.header line ≡ None
    → headers_of f (lines ++ (n, line) ∷ []) ≡ headers_of f lines
header_none f lines n line e = grind (arith, common_steps, filter_map-append, append-nil)

header_some : (f : Grammar) (lines : List Numbered) (n : ℕ) (line : Line) (name : List ℕ) → f.header line ≡ Some name
    → headers_of f (lines ++ (n, line) ∷ []) ≡ headers_of f lines ++ name ∷ []
header_some f lines n line name e = grind (arith, common_steps, filter_map-append)

texts_more : (begun : List Entry) (after : List Numbered) (n : ℕ) (row : Row)
    → texts_of (with_row begun after n row) ≡ texts_of begun ++ after
texts_more begun after n row = grind (arith, common_steps, flat_map-append, entry, flat_map-cons, append-nil)

named_push : (f : Grammar) (n : ℕ) (parts : List Part) (part : Part) → named_from f n (parts ++ part ∷ [])
    ≡ named_from f n parts ++ record { name = name_of f (n + length parts) part; shop = f.shop (entry_rows part) } ∷ []
named_push f n [] part = grind (arith, common_steps)
named_push f n (p ∷ parts) part = grind (arith, common_steps, named_push f (n + 1) parts part)

named_len : (f : Grammar) (n : ℕ) (parts : List Part) → length (named_from f n parts) ≡ length parts
named_len f n [] = refl
named_len f n (p ∷ parts) = ap suc (named_len f (n + 1) parts)

pub parts_len : (f : Grammar) (named : List Named) (parts : List Part) → shops_of named ≡ named_from f 1 parts
    → length parts ≡ length named
parts_len f named parts e = sym (named_len f 1 parts) ∙ sym (ap length e) ∙ length-map named shop_of_named

-- ---- a text line

pub words_read : (reader : Reader) (name : Option (String Global)) (n : ℕ) (words : List (List ℕ))
    (front : List Numbered) (r : IsReadUpTo reader front) → (grammar_of reader.format).skips (entry_rows r.begun) ≡ true
    → IsLast name (headers_of (grammar_of reader.format) ((texts_of r.begun ++ r.place.after) ++ (n, Words words) ∷ []))
    → IsReadUpTo (record reader { name = name }) (front ++ (n, Words words) ∷ [])
unfolding words_on
words_read reader name n words front r skips last = record {
  begun = r.begun;
  place = words_on (grammar_of reader.format) front r.begun r.place n words skips;
  draft_holds = r.draft_holds;
  named_are = r.named_are;
  name_is = grind (arith, append_assoc);
}

-- that gives no name
pub no_header : (reader : Reader) (n : ℕ) (words : List (List ℕ)) (front : List Numbered) (r : IsReadUpTo reader front)
    → (grammar_of reader.format).header (Words words) ≡ None → IsLast reader.name (headers_of (grammar_of reader.format)
    ((texts_of r.begun ++ r.place.after) ++ (n, Words words) ∷ []))
no_header reader n words front r e = grind (arith, common_steps, header_none)

-- that gives one
pub one_header : (reader : Reader) (n : ℕ) (words : List (List ℕ)) (front : List Numbered) (r : IsReadUpTo reader front)
    (bytes : List ℕ) (name : String Global) → (grammar_of reader.format).header (Words words) ≡ Some bytes
    → string_bytes name ≡ bytes → IsLast (Some name) (headers_of (grammar_of reader.format)
    ((texts_of r.begun ++ r.place.after) ++ (n, Words words) ∷ []))
one_header reader n words front r bytes name e is = λ otherwise.
    ap (last_or otherwise)
    (header_some (grammar_of reader.format) (texts_of r.begun ++ r.place.after) n (Words words) bytes e)
    ∙ last_push otherwise bytes (headers_of (grammar_of reader.format) (texts_of r.begun ++ r.place.after)) ∙ sym is

-- ---- a number line

-- one more
pub row_read : (reader : Reader) (draft : Draft) (n : ℕ) (row : Row) (front : List Numbered)
    (r : IsReadUpTo reader front) → IsOneMore reader.format (entry_rows r.begun) row draft
    → IsReadUpTo (record reader { draft = draft }) (front ++ (n, Numbers row) ∷ [])
unfolding row_on
row_read reader draft n row front r more =
    let f : Grammar = grammar_of reader.format
    in let begun : List Entry = with_row r.begun r.place.after n row
    in let rows : entry_rows begun ≡ entry_rows r.begun ++ row ∷ [] = rows_more r.begun r.place.after n row
    in record {
      begun = begun;
      place = row_on f front r.begun r.place n row more.accepted (ap f.is_whole rows ∙ more.room);
      draft_holds = subst (λ rs. IsDraft reader.format draft rs) (sym rows) more.draft_holds;
      named_are = r.named_are;
      name_is = grind (arith, texts_more, append-nil);
    }

-- the last one of a part
pub part_read : (reader later : Reader) (instance : Shop) (name : String Global) (n : ℕ) (row : Row)
    (front : List Numbered) (r : IsReadUpTo reader front)
    → IsLastOne reader.format (entry_rows r.begun) row later.draft instance
    → string_bytes name ≡ name_or (decimal (length reader.named.items + 1)) reader.name
    → later.named.items ≡ reader.named.items ++ record { name = name; instance = instance } ∷ [] → later.name ≡ None
    → IsReadUpTo (record later { format = reader.format }) (front ++ (n, Numbers row) ∷ [])
unfolding part_on
part_read reader later instance name n row front r last named pushed none =
    let f : Grammar = grammar_of reader.format
    in let part : Part = with_row r.begun r.place.after n row
    in let rows : entry_rows part ≡ entry_rows r.begun ++ row ∷ [] = rows_more r.begun r.place.after n row
    in let count : 1 + length r.place.parts ≡ length reader.named.items + 1 =
    omega (arith, parts_len f reader.named.items r.place.parts r.named_are)
    in let name_is : name_of f (1 + length r.place.parts) part ≡ string_bytes name =
    ap (λ (ls : List Numbered). last_or (decimal (1 + length r.place.parts)) (headers_of f ls))
    (texts_more r.begun r.place.after n row) ∙ r.name_is (decimal (1 + length r.place.parts))
    ∙ ap (λ (k : ℕ). name_or (decimal k) reader.name) count ∙ sym named
    in let shop_is : f.shop (entry_rows part) ≡ instance = ap f.shop rows ∙ sym last.shop_is
    in let this : NamedShop = record {
      name = name_of f (1 + length r.place.parts) part;
      shop = f.shop (entry_rows part);
    }
    in let named_is : this ≡ record { name = string_bytes name; shop = instance } = rw (name_is, shop_is) refl
    in record {
      begun = [];
      place = grind (arith, part_on, is_grammar);
      draft_holds = last.draft_holds;
      named_are = grind (arith, map-append, string_bytes, named_push);
      name_is = λ otherwise. rw none refl;
    }

-- ---- a line that is refused

pub fails_by : (e : ReadFault) (n : ℕ) (o : Option LineFault) → Fails e n o
    → (e ≡ NoMemory) ⊎ ((name : LineFault) × (o ≡ Some name) × (e ≡ fault_at n name))
fails_by e n o x = grind arith

pub row_refused : (reader : Reader) (n : ℕ) (row : Row) (front : List Numbered) (r : IsReadUpTo reader front)
    (e : ReadFault) → Fails e n ((grammar_of reader.format).refuses (entry_rows r.begun) row) → (e ≡ NoMemory)
    ⊎ ((later : List Numbered) → IsRefused (grammar_of reader.format) (front ++ (n, Numbers row) ∷ later) e)
row_refused reader n row front r e h =
    told (fails_by e n ((grammar_of reader.format).refuses (entry_rows r.begun) row) h)
  where
    told : (e ≡ NoMemory) ⊎ ((name : LineFault)
        × ((grammar_of reader.format).refuses (entry_rows r.begun) row ≡ Some name) × (e ≡ fault_at n name))
        → (e ≡ NoMemory)
        ⊎ ((later : List Numbered) → IsRefused (grammar_of reader.format) (front ++ (n, Numbers row) ∷ later) e)
    told x = grind (arith, refused_here)

-- ---- the end

fresh_begun : (reader : Reader) (lines : List Numbered) (begun : List Entry)
    → IsDraft reader.format reader.draft (entry_rows begun) → reader.draft.jobs_wanted ≡ 0 → begun ≡ []
fresh_begun reader lines [] d fresh = refl
fresh_begun reader lines (e ∷ begun) d fresh = absurd (let s = d.some_job in omega arith)

cut_outside : (f : Grammar) (lines : List Numbered) (begun : List Entry) (s : IsBegun f lines begun) → begun ≡ []
    → lines ≡ lines_of_parts s.parts ++ s.after
cut_outside f lines y s e = grind (arith, append-nil)

pub all_read : (reader : Reader) (lines : List Numbered) → IsReadUpTo reader lines → reader.draft.jobs_wanted ≡ 0
    → 0 < length reader.named.items → AreRead (grammar_of reader.format) lines reader.named
all_read reader lines r fresh some = grind (arith, common_steps, parts_len, cut_outside, fresh_begun)

no_parts : (f : Grammar) (lines : List Numbered) (parts : List Part) (after : List Numbered)
    → lines ≡ lines_of_parts parts ++ after → length parts ≡ 0 → AreText after → AreText lines
no_parts f lines x after cut none text = grind (arith, common_steps)

pub none_read : (reader : Reader) (lines : List Numbered) → IsReadUpTo reader lines → reader.draft.jobs_wanted ≡ 0
    → length reader.named.items ≡ 0 → IsWithoutInstance lines NoInstance
none_read reader lines r fresh none = grind (arith, common_steps, parts_len, no_parts, cut_outside, fresh_begun)
