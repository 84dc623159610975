-- No optimum is lost through the rounds.
--     IsStanding shop s  the best word is full, the open ones are words, and their bounds are below the makespan
--     IsRound r          the opening best is full, all are words, and the opening bound is at most each of their bounds
use Rattle.std.specs.Prelude.{◌≡◌, ℕ, ◌+◌, ◌*◌, ◌<◌, ◌≤◌, List, ◌++◌, length, flat_map, Contains}
use Rattle.shop_model.specs.{Shop.Shop, Word.IsFull}
use Rattle.shop_bound.specs.Bound.{lb}
use Rattle.shop_nodes.specs.Laws.{AreWords}
use Rattle.shop_runs.specs.{Plans.Planned, Round.{Stand, Told, pieces_of, rest_of, words_of_round, cut_of, gathered}}
use Rattle.shop_runs.specs.Round.{round, opening, makespan_of, Covers}

pub record IsStanding (shop : Shop) (s : Stand) : Type 0 where
  pub full : IsFull shop s.word
  pub words : AreWords shop s.open_words
  pub below : (w : List ℕ) → Contains s.open_words w → lb shop w < makespan_of shop s

-- the standing's words and bounds are right, and it covers the instance
abbrev pub StandsCovering : Shop → Stand → Type 0
StandsCovering shop s = IsStanding shop s × Covers shop (makespan_of shop s) s.open_words

-- the pieces and the rest are, in order, all that was cut
abbrev pub PiecesAreAll : Type 0
PiecesAreAll = (plan : Planned) (words : List (List ℕ))
    → flat_map (λ piece. piece) (pieces_of plan words) ++ rest_of plan words ≡ words

-- what stands where a run begins covers
abbrev pub OpeningCovers : Type 0
OpeningCovers = (shop : Shop) → StandsCovering shop (opening shop)

pub record IsRound (r : Told) : Type 0 where
  pub full : IsFull r.shop r.word
  pub best : r.best ≡ lb r.shop r.word
  pub words : AreWords r.shop (words_of_round r)
  pub most : r.bound ≤ r.best
  pub bound : (w : List ℕ) → Contains (words_of_round r) w → r.bound ≤ lb r.shop w

-- the round's words and bounds are right, and it covers the instance
abbrev pub CoversInRound : Told → Type 0
CoversInRound r = IsRound r × Covers r.shop r.best (words_of_round r)

-- what is cut from a standing that covers does so, in either order
abbrev pub CutsCover : Type 0
CutsCover = (shop : Shop) (plan : Planned) (s : Stand) → StandsCovering shop s → CoversInRound (cut_of shop plan s)

-- what is gathered of a round that covers does so
abbrev pub GatheringCovers : Type 0
GatheringCovers = (r : Told) → CoversInRound r → StandsCovering r.shop (gathered r)

-- a round of either order keeps the cover
abbrev pub RoundsKeepTheCover : Type 0
RoundsKeepTheCover = (shop : Shop) (plan : Planned) (s : Stand) → StandsCovering shop s
    → StandsCovering shop (round shop plan s)

-- a round adds one to the rounds, and at most the budget of each piece to the nodes
abbrev pub CountsStaySmall : Type 0
CountsStaySmall = (r : Told) → ((gathered r).rounds ≡ r.rounds + 1)
    × ((gathered r).nodes ≤ r.nodes + length r.pieces * r.budget)
