-- What a worker does with its seat, whose view was v and is w.
--     Grows v w             what the seat knew it still knows
--     IsKnown v n           the piece is claimed, as far as the seat knows
--     numbers_of entries    the numbers of their pieces
--     IsHandled r w kind    a piece that was searched and ends at the opening bound was marked; one that was passed was
--                           passed by a number that is at least the seat's least
--     AreWon r v w entries  in number order, one for each piece that the seat won since, all handled, and passed behind
--                           one that ends at the opening bound
--     BringsWon r v w b     AreWon of the entries, unless memory was refused
--     IsAllKnown n w        each piece below n is claimed, as far as the seat knows
use Rattle.std.specs.{Prelude.{◌≡◌, ℕ, ◌<◌, ◌≤◌, List, ◌++◌, map, reverse, All, true, ◌⊎◌, IfOk}, List.AllPairs}
use Rattle.std.specs.List.Sorted.{IsStrictlyIncreasing}
use Rattle.shop_runs.specs.{Round.Told, Entries.{number_of, is_hit}, declared.entries.Entry.Entry}
use Rattle.shop_runs.specs.{declared.entries.Kind.Kind, declared.entries.Kind.TheVariants.{Done, Passed}}
use Rattle.shop_workers.specs.{declared.views.View.View, Views.has, Entries.{OfRound, Brought, LetsPass}}

pub record Grows (v w : View) : Type 0 where
  pub hits : w.hits ≡ v.hits
  pub mine : (n : ℕ) → has v.mine n ≡ true → has w.mine n ≡ true
  pub seen : (n : ℕ) → has v.seen n ≡ true → has w.seen n ≡ true
  pub done : (n : ℕ) → has v.done n ≡ true → has w.done n ≡ true
  pub low : w.low ≤ v.low

abbrev pub IsKnown : View → ℕ → Type 0
IsKnown v n = (has v.mine n ≡ true) ⊎ (has v.seen n ≡ true)

abbrev pub IsAllKnown : ℕ → View → Type 0
IsAllKnown pieces w = (n : ℕ) → n < pieces → IsKnown w n

abbrev pub numbers_of : List Entry → List ℕ
numbers_of entries = map (λ e. number_of e.kind) entries

abbrev pub IsHandled : Told → View → Kind → Type 0
IsHandled r w (Done sheet) = is_hit r sheet.number ≡ true → has w.done sheet.number ≡ true
IsHandled r w (Passed number by') = w.low ≤ by'

pub record AreWon (r : Told) (v w : View) (entries : List Entry) : Type 0 where
  pub of_round : OfRound r entries
  pub in_order : IsStrictlyIncreasing (numbers_of entries)
  pub mine : w.mine ≡ reverse (numbers_of entries) ++ v.mine
  pub handled : All (λ (e : Entry). IsHandled r w e.kind) entries
  pub passes : AllPairs (LetsPass r) entries

abbrev pub BringsWon : Told → View → View → Brought → Type 0
BringsWon r v w brought = IfOk brought (λ x. AreWon r v w x.items)
