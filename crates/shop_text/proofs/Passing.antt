-- One more line of a text: what is left behind it, and what a reader makes of it.
use Rattle.std.proofs.{lemmas.Grind.common_steps, Common.{Err, Vec, ap, ◌∙◌, subst, append_assoc, arith, ◌≡◌, ℕ, ◌+◌}}
use Rattle.std.proofs.Common.{◌<◌, ◌≤◌, ◌⊎◌, inl, inr, List, [], ◌∷◌, ◌++◌, length, map, filter, Result}
use Rattle.std.{proofs.lemmas.List.append-nil, specs.{List.{list_any, enumerate_from}, declared.alloc.Global.Global}}
use Rattle.shop_text.specs.{Formats.grammar_of, Lines.{Numbered, is_left, line_of, lines_of, numbered_lines}}
use Rattle.shop_text.specs.{Grammar.{Grammar, IsRefused}, Texts.{is_header, from_first_header, lines_left}}
use Rattle.shop_text.specs.{Names.IsRead, inner.LineReading.{lines_after, IsBehind}, declared.names.Named.Named}
use Rattle.shop_text.specs.inner.InstanceReading.{IsReadUpTo, left_of, Ends, IsOnTheWay}
use Rattle.shop_text.specs.{declared.faults.ReadFault.ReadFault, declared.faults.ReadFault.TheVariants.NoMemory}
use Rattle.shop_text.specs.{declared.formats.Format.Format, declared.instance_readers.Reader.Reader}

pub one_behind : (whole : List ℕ) (n : ℕ) (text bytes rest : List ℕ) → IsBehind whole n text
    → lines_of text ≡ bytes ∷ lines_of rest → length rest < length text → IsBehind whole (n + 1) rest
one_behind whole n text bytes rest f cut shorter = grind (arith, common_steps)

-- the lines of a rest, by its first one
abbrev numbered : ℕ → List (List ℕ) → List Numbered
numbered n lines = filter is_left (enumerate_from n (map line_of lines))

pub after_cut : (n : ℕ) (text bytes rest : List ℕ) → lines_of text ≡ bytes ∷ lines_of rest
    → lines_after n text ≡ left_of (n + 1) (line_of bytes) ++ lines_after (n + 1) rest
after_cut n text bytes rest cut = grind (arith, common_steps)

-- ---- up to the first header

-- the rest has the first header of the text, if there is one
pub record IsBeforeHeader (f : Grammar) (text : List ℕ) (n : ℕ) (rest : List ℕ) : Type 0 where
  pub any : list_any (is_header f) (lines_after n rest) ≡ list_any (is_header f) (numbered_lines text)
  pub first : from_first_header f (lines_after n rest) ≡ from_first_header f (numbered_lines text)

-- ---- line by line

pub line_taken : (text : List ℕ) (n : ℕ) (rest bytes after : List ℕ) (p : Format) (old new : Reader)
    (w : IsOnTheWay text n rest p old) → lines_of rest ≡ bytes ∷ lines_of after → length after < length rest
    → new.format ≡ old.format → IsReadUpTo new (w.front ++ left_of (n + 1) (line_of bytes))
    → IsOnTheWay text (n + 1) after p new
line_taken text n rest bytes after p old new w cut shorter same read =
    grind (arith, common_steps, after_cut, append_assoc, one_behind)

pub line_refused : (text : List ℕ) (n : ℕ) (rest bytes after : List ℕ) (p : Format) (reader : Reader) (e : ReadFault)
    (w : IsOnTheWay text n rest p reader) → length text ≤ 16777216 → lines_of rest ≡ bytes ∷ lines_of after
    → (e ≡ NoMemory) ⊎ ((later : List Numbered)
    → IsRefused (grammar_of reader.format) (w.front ++ (left_of (n + 1) (line_of bytes) ++ later)) e)
    → IsRead (grammar_of p) text (Err e)
line_refused text n rest bytes after p reader e w short cut (inl none) = inl (none, short)
line_refused text n rest bytes after p reader e w short cut (inr refused) =
    let here = refused (lines_after (n + 1) after)
    in let lines : lines_left (grammar_of p) text
    ≡ w.front ++ (left_of (n + 1) (line_of bytes) ++ lines_after (n + 1) after) =
    w.cut ∙ ap (λ (ls : List Numbered). w.front ++ ls) (after_cut n rest bytes after cut)
    in let placed : IsRefused (grammar_of p) (lines_left (grammar_of p) text) e =
    rw lines (subst (λ q. IsRefused (grammar_of q)
    (w.front ++ (left_of (n + 1) (line_of bytes) ++ lines_after (n + 1) after)) e) w.same here)
    in inr (inr (record { short = short; in_lines = inr (inr placed) }))

nothing_after : (n : ℕ) (rest : List ℕ) → length rest ≡ 0 → (lines_after n rest ≡ []) × (length (lines_of rest) ≡ 0)
nothing_after n x e = grind (arith, common_steps)

-- the end of the text
pub end_read : (text : List ℕ) (n : ℕ) (rest : List ℕ) (p : Format) (reader : Reader)
    (r : Result (Vec Named Global) ReadFault) → IsOnTheWay text n rest p reader → length text ≤ 16777216
    → length rest ≡ 0 → ((lines : List Numbered) → IsReadUpTo reader lines → Ends (grammar_of reader.format) n lines r)
    → IsRead (grammar_of p) text r
end_read text n rest p reader r w short none ends =
    let over = nothing_after n rest none
    in let lines : lines_left (grammar_of p) text ≡ w.front =
    w.cut ∙ ap (λ (ls : List Numbered). w.front ++ ls) over.0 ∙ append-nil w.front
    in let last : n ≡ length (lines_of text) = omega (arith, w.behind.lines, over.1)
    in told r (subst (λ q. Ends (grammar_of q) n w.front r) w.same (ends w.front w.read)) lines last
  where
    told : (r : Result (Vec Named Global) ReadFault) → Ends (grammar_of p) n w.front r
        → lines_left (grammar_of p) text ≡ w.front → n ≡ length (lines_of text) → IsRead (grammar_of p) text r
    told x h lines last = grind arith
