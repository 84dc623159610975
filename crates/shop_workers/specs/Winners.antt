-- Who has won a piece, whatever moment of the board it is.
--     IsOnlyWinner hits n v    whenever a seat knows v, no other seat has won piece n
--     HasWinner hits n v       whenever a seat knows v, some seat has won piece n
--     IsDecided won hits n v   a claim of the piece was won, or lost
use Rattle.std.specs.Prelude.{◌≡◌, ℕ, List, Bool, true, MatchBool}
use Rattle.atomic_table.specs.Table.{State}
use Rattle.shop_workers.specs.{declared.views.View.View, Views.has, Moments.{IsLive, Somebody, IsLawful}}

abbrev pub IsOnlyWinner : List Bool → ℕ → View → Type 0
IsOnlyWinner hits n v = (s : State (Unit {0}) View) (seat other : ℕ) (w : View) → IsLawful hits s
    → IsLive s.views seat v → IsLive s.views other w → has w.mine n ≡ true → other ≡ seat

abbrev pub HasWinner : List Bool → ℕ → View → Type 0
HasWinner hits n v = (s : State (Unit {0}) View) (seat : ℕ) → IsLawful hits s → IsLive s.views seat v
    → Somebody s.views (λ w. has w.mine n ≡ true)

abbrev pub IsDecided : Bool → List Bool → ℕ → View → Type 0
IsDecided won hits n v = MatchBool won (IsOnlyWinner hits n v) (HasWinner hits n v)
