-- The entries of a worker that takes pieces from a pool, after one more.
use Rattle.std.proofs.Common.{◌≡◌, ℕ, ◌<◌, ◌≤◌, List, [], ◌∷◌, ◌++◌, length, get_or, true, sym, subst, arith}
use Rattle.std.proofs.{lemmas.List.Elements.{All-push, All-weaker, All-get_or}, lemmas.List.Quantifiers.all_pairs_push}
use Rattle.std.specs.{Prelude.All, List.AllPairs}
use Rattle.shop_runs.specs.{Round.Told, Crews.IsEntryOf, Entries.{told, number_of, is_hit}}
use Rattle.shop_runs.specs.declared.entries.Entry.{Entry}
use Rattle.shop_workers.specs.Entries.{OfRound, IsPassed, LetsPass}

-- a piece that ends at the opening bound isn't below this number
abbrev pub IsNotBelow : Told → ℕ → Entry → Type 0
IsNotBelow r low e = is_hit r (number_of e.kind) ≡ true → low ≤ number_of e.kind

pub record AreTaken (r : Told) (low : ℕ) (es : List Entry) : Type 0 where
  pub of_round : OfRound r es
  pub passes : AllPairs (LetsPass r) es
  pub least : All (IsNotBelow r low) es

pub one_taken : (r : Told) (before low n : ℕ) (es : List Entry) (e : Entry) → AreTaken r before es → low ≤ before
    → IsEntryOf r n e → (before < n → IsPassed e.kind) → (is_hit r n ≡ true → low ≤ n) → AreTaken r low (es ++ e ∷ [])
one_taken r before low n es e taken lower is passed hit = record {
  of_round = All-push (λ (x : Entry). told x.round.now ≡ r) es e taken.of_round is.0;
  passes = all_pairs_push (LetsPass r) es e taken.passes lets;
  least = All-push (IsNotBelow r low) es e still here;
}
  where
    lets : (k : ℕ) (d : Entry) → k < length es → LetsPass r (get_or es k d) e
    lets k d inside hits below = grind (arith, All-get_or)

    still : All (IsNotBelow r low) es
    still = grind (arith, All-weaker)

    here : IsNotBelow r low e
    here = subst (λ k. is_hit r k ≡ true → low ≤ k) (sym is.1) hit
