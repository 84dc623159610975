-- The entries of a round, in number order.
use Rattle.std.proofs.Common.{◌≡◌, ℕ, zero, suc, ◌<◌, false, Global, Vec, vec_len, Option, Some, None, List, [], ◌∷◌}
use Rattle.std.proofs.{Common.{length, get_or, sym, ◌∙◌, ap, subst, arith, zero-add}, lemmas.Iterator.YieldsList}
use Rattle.std.proofs.lemmas.Iterator.{Adapters.YieldsList-from_vec, Consumers.{YieldsList-turn, YieldsList-end}}
use Rattle.std.{proofs.lemmas.List.length-map, specs.Prelude.{slice_index_or, IfOk, Result}}
use Rattle.std.specs.{declared.alloc.AllocError.AllocError, Iterator.Yields, Vec.Iter.{into_iter_items, into_iter_len}}
use Rattle.std.specs.{Vec.Iter.into_iter_steps, declared.vec.IntoIter.IntoIter}
use Rattle.shop_model.specs.Shop.{Shop}
use Rattle.shop_nodes.specs.{Nodes.words_of, Sheets.IsSheetOf, declared.{pieces.Piece.Piece, sheets.Sheet.Sheet}}
use Rattle.shop_runs.specs.declared.{entries.{Entry.Entry, Kind.TheVariants.{Done, Passed}}, rounds.Round.Round}
use Rattle.shop_runs.specs.{Nodes.pieces_in, Round.Told, Entries.{told, is_hit, IsOf}, Crews.{OneForEach, IsEntryOf}}
use Rattle.shop_runs.proofs.{PieceLemmas.numbered_at, GatherLemmas.IsSheetAt}

-- the entry at index n
pub record IsEntryAt (es : List Entry) (n : ℕ) (e : Entry) : Type 0 where
  pub inside : n < length es
  pub is : e ≡ get_or es n e

module _ (r : Told) (es : List Entry) (n : ℕ) (e : Entry) (all : OneForEach r es) (at : IsEntryAt es n e) where
  entry_of : IsEntryOf r n e
  entry_of = subst (IsEntryOf r n) (sym at.is) (all.1 n e at.inside)

  -- of a piece that was searched it holds the sheet
  pub entry_done : (s : Sheet) → e.kind ≡ Done s → IsSheetAt r n s
  entry_done s k = grind (arith, entry_of)

  -- it was passed only if a lower piece ends at the opening bound
  pub entry_not_passed : (number by' : ℕ) → e.kind ≡ Passed number by' → ((k : ℕ) → k < n → is_hit r k ≡ false) → ⊥
  entry_not_passed number by' k none = grind (arith, entry_of)

-- the entry of a turn of a loop over them, and all of them at its end
module _ (s t u : IntoIter Entry Global) (es : Vec Entry Global) (items : into_iter_items s ≡ es.items)
    (len : into_iter_len s ≡ vec_len es)
    (xs : List Entry) (so_far : Yields (into_iter_steps {X = Entry} {Z = Global}) s xs t) (o : Option Entry)
    (step : into_iter_steps t o u) where
  from : YieldsList (into_iter_steps {X = Entry} {Z = Global}) (λ y. y) s es.items
  from = YieldsList-from_vec es.items items (len ∙ es.ok.0)

  pub entry_turn : (e : Entry) → o ≡ Some e → IsEntryAt es.items (length xs) e
  entry_turn e is = let turn = YieldsList-turn from xs t so_far o u e is step in record { inside = turn.0; is = turn.1 }

  pub entries_end : o ≡ None → length xs ≡ length es.items
  entries_end is = (YieldsList-end from xs t so_far o u is step).1

-- the words of the piece at index n
words_at : (ps : List Piece) (n : ℕ) (q : Piece) → n < length ps → q ≡ get_or ps n q
    → words_of q.nodes.items ≡ slice_index_or (pieces_in ps) n []
words_at [] n q h e = absurd (omega arith)
words_at (p ∷ ps) zero q h e = ap (λ (x : Piece). words_of x.nodes.items) e
words_at (p ∷ ps) (suc n) q h e = words_at ps n q (omega arith) e

-- the sheet of the n-th piece of a round is of the round
pub searched : (r : Round) (n : ℕ) (q : Piece) (s : Sheet) → n < length r.pieces.items → q ≡ get_or r.pieces.items n q
    → IsSheetOf s r.instance.now q r.best r.budget → IsSheetAt (told r) n s
searched r n q s h at of = grind (arith, numbered_at, zero-add, length-map, words_at)

-- and so are those that a search of the n-th piece gives
pub sheets_at : (r : Round) (n : ℕ) (q : Piece) (shop : Shop) (o : Result Sheet AllocError) → n < length r.pieces.items
    → q ≡ get_or r.pieces.items n q → shop ≡ r.instance.now → IfOk o (λ s. IsSheetOf s shop q r.best r.budget)
    → IfOk o (λ s. IsSheetAt (told r) n s)
sheets_at r n q shop o h at same of = grind (arith, searched)

-- they are of their piece, and tell whether it ends at the opening bound
pub sheets_of_piece : (r : Told) (n : ℕ) (o : Result Sheet AllocError) → IfOk o (λ s. IsSheetAt r n s)
    → IfOk o (λ s. IsOf r s × (s.number ≡ n))
sheets_of_piece r n o at = grind arith
