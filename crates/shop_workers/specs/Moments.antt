-- A moment of a board: a flag for each piece, behind them the hit word, and what each seat knows.
--     hit_word hits words    the word behind the flags
--     Somebody views Q       Q of the view of some seat that wasn't joined away
--     Knows hits words v     what this view says is true of the words
--     IsLawful hits s        the moment is one that a board can be in
use mathlib.Core.Option.{some}
use lib.ListN.{get_elem?}
use Rattle.std.specs.Prelude.{◌≡◌, ℕ, suc, ◌<◌, ◌≤◌, List, length, Bool, true, ◌⊎◌, slice_index}
use Rattle.atomic_table.specs.Table.{State}
use Rattle.shop_workers.specs.{declared.views.View.View, Views.{has, once}}
use Rattle.shop_runs.specs.Hits.{is_hit_in, IsHitOrEnd}

abbrev pub hit_word : List Bool → List ℕ → ℕ
hit_word hits words = slice_index words (length hits)

abbrev pub IsLive : List View → ℕ → View → Type 0
IsLive views id v = (get_elem? views id ≡ some v) × (v.live ≡ true)

abbrev pub Somebody : List View → (View → Type 0) → Type 0
Somebody views Q = (id : ℕ) × (v : View) × IsLive views id v × Q v

abbrev pub IsClaimed : List Bool → List ℕ → ℕ → Type 0
IsClaimed hits words n = (n < length hits) × (slice_index words n ≡ 1)

pub record Knows (hits : List Bool) (words : List ℕ) (v : View) : Type 0 where
  pub same : v.hits ≡ hits
  pub mine : (n : ℕ) → has v.mine n ≡ true → IsClaimed hits words n
  pub seen : (n : ℕ) → has v.seen n ≡ true → IsClaimed hits words n
  pub single : once v.mine ≡ true
  pub low : IsHitOrEnd hits v.low
  pub below : hit_word hits words ≤ v.low
  pub done : (n : ℕ) → has v.done n ≡ true
      → (has v.mine n ≡ true) × (is_hit_in hits n ≡ true) × (hit_word hits words ≤ n) × (v.low ≤ n)

pub record IsLawful (hits : List Bool) (s : State (Unit {0}) View) : Type 0 where
  pub size : length s.words ≡ suc (length hits)
  pub flag : (n : ℕ) → n < length hits → (slice_index s.words n ≡ 0) ⊎ (slice_index s.words n ≡ 1)
  pub won : (n : ℕ) → IsClaimed hits s.words n → Somebody s.views (λ v. has v.mine n ≡ true)
  pub hit : IsHitOrEnd hits (hit_word hits s.words)
  pub marked : (hit_word hits s.words ≡ length hits) ⊎ Somebody s.views (λ v. has v.done (hit_word hits s.words) ≡ true)
  pub knows : (id : ℕ) (v : View) → IsLive s.views id v → Knows hits s.words v
  pub apart : (a b : ℕ) (v w : View) (n : ℕ) → IsLive s.views a v → IsLive s.views b w
      → has v.mine n ≡ true → has w.mine n ≡ true → a ≡ b
