-- Entries of pieces in order, up to and with the first that ends at the opening bound.
use Rattle.std.proofs.Common.{◌≡◌, ℕ, ◌<◌, ◌+◌, ◌++◌, List, [], ◌∷◌, length, get_or, sym, ◌∙◌, ap, subst, arith, inl}
use Rattle.std.proofs.{Common.inr, Math.{ListN.get_or-append, Seq.get_or-append_seam}, lemmas.Bool.cases_eq}
use Rattle.std.{proofs.lemmas.List.length_push, specs.Prelude.slice_index_or}
use Rattle.shop_runs.specs.{declared.entries.Entry.Entry, Round.Told, Crews.{OneForEach, IsEntryOf, IsUpToHit}}
use Rattle.shop_round.specs.inner.Hits.{IsEntryUpToHit}

pub record AreEntriesUpTo (r : Told) (es : List Entry) (n : ℕ) : Type 0 where
  pub count : length es ≡ n
  pub each : (k : ℕ) (d : Entry) → k < n → IsEntryUpToHit r k (slice_index_or es k d)

pub one_entry_more : (r : Told) (es new : List Entry) (n : ℕ) (e : Entry) → AreEntriesUpTo r es n
    → new ≡ es ++ e ∷ [] → IsEntryOf r n e → IsUpToHit r n e.kind → AreEntriesUpTo r new (n + 1)
one_entry_more r es new n e up added is stops = record {
  count = ap (λ (xs : List Entry). length xs) added ∙ (length_push es e ∙ ap (λ k. k + 1) up.count);
  each = λ k d h. subst (λ (xs : List Entry). IsEntryUpToHit r k (slice_index_or xs k d)) (sym added) (at k d h);
}
  where
    at : (k : ℕ) (d : Entry) → k < n + 1 → IsEntryUpToHit r k (get_or (es ++ e ∷ []) k d)
    at k d h = elim (cases_eq k n) [
      | inl same ↦
          let here : get_or (es ++ e ∷ []) k d ≡ e = ap (λ i. get_or (es ++ e ∷ []) i d) (same ∙ sym up.count)
          ∙ get_or-append_seam es e [] d
          in subst (IsEntryUpToHit r k) (sym here) (subst (λ i. IsEntryUpToHit r i e) (sym same) (is, stops))
      | inr other ↦
          let below : k < length es = (let a = up.count in omega arith)
          in subst (IsEntryUpToHit r k) (sym (get_or-append es (e ∷ []) d k below)) (up.each k d (omega arith))
    ]

-- all of them
pub all_entries : (r : Told) (es : List Entry) (n : ℕ) → AreEntriesUpTo r es n → n ≡ length r.pieces → OneForEach r es
all_entries r es n up e = (up.count ∙ e, λ k d h. (up.each k d (let a = up.count in omega arith)).0)
