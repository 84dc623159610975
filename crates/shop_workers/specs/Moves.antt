-- How what a seat knows changes.
--     newcomer hits          the first seat has won, seen and marked nothing
--     empty_handed v         the second of two seats has seen as much, and won nothing
--     joined v w             one seat for two
--     HaveWonApart v w       the two seats have won no piece in common
--     KeepsHandled v w x     where both have handled what they won, so has the third
--     HasWon n v w           the piece joins those that the seat won, and wasn't among them
--     with_seen v n          the piece joins those that the seat knows to be claimed
--     IsTold won n v w       a claim of the piece was won, or lost
--     with_low v n           n is the least number read or marked
--     IsAtMostMarked v n     n is at most each number that the seat marked
--     with_done v n low      the piece joins those that the seat marked
--     HasMarked n v w        the piece was marked
use Rattle.std.specs.Prelude.{◌≡◌, ℕ, ◌≤◌, List, [], ◌∷◌, ◌++◌, length, min, Bool, true, false, MatchBool}
use Rattle.shop_workers.specs.{declared.views.View.View, Views.{has, HasHandled}}

abbrev pub newcomer : List Bool → View
newcomer hits = record { live = true; hits = hits; mine = []; seen = []; done = []; low = length hits }

abbrev pub HaveWonApart : View → View → Type 0
HaveWonApart v w = (n : ℕ) → has v.mine n ≡ true → has w.mine n ≡ true → ⊥

abbrev pub KeepsHandled : View → View → View → Type 0
KeepsHandled v w x = HasHandled v → HasHandled w → HasHandled x

abbrev pub with_mine : View → ℕ → View
with_mine v n = record v { mine = n ∷ v.mine }

abbrev pub HasWon : ℕ → View → View → Type 0
HasWon n v w = (w ≡ with_mine v n) × (has v.mine n ≡ false)

abbrev pub with_seen : View → ℕ → View
with_seen v n = record v { seen = n ∷ v.seen }

abbrev pub IsTold : Bool → ℕ → View → View → Type 0
IsTold won n v w = MatchBool won (HasWon n v w) (w ≡ with_seen v n)

abbrev pub with_low : View → ℕ → View
with_low v n = record v { low = n }

abbrev pub IsAtMostMarked : View → ℕ → Type 0
IsAtMostMarked v n = (m : ℕ) → has v.done m ≡ true → n ≤ m

abbrev pub with_done : View → ℕ → ℕ → View
with_done v n low = record v { done = n ∷ v.done; low = low }

abbrev pub HasMarked : ℕ → View → View → Type 0
HasMarked n v w = (low : ℕ) × (w ≡ with_done v n low) × (low ≤ n) × (low ≤ v.low)

abbrev pub empty_handed : View → View
empty_handed v = record v { mine = []; done = [] }

abbrev pub joined : View → View → View
joined v w = record {
  live = v.live;
  hits = v.hits;
  mine = v.mine ++ w.mine;
  seen = v.seen ++ w.seen;
  done = v.done ++ w.done;
  low = min v.low w.low;
}
