-- Standings, and the rounds that are cut from them and gathered to the next.
use Rattle.std.specs.Prelude.{◌≡◌}
use Rattle.shop_model.specs.Shop.{Shop}
use Rattle.shop_nodes.specs.Nodes.{words_of, AreNodes}
use Rattle.shop_runs.specs.{Plans.planned, Round.{Stand, cut_of, gathered, makespan_of}, Entries.told}
use Rattle.shop_runs.specs.Laws.{IsStanding, StandsCovering, CoversInRound}
use Rattle.shop_runs.specs.declared.{plans.Plan.Plan, rounds.Round.Round, standings.Standing.Standing}

-- the standing as definitions speak of it
abbrev pub stands : Standing → Stand
stands s = record { word = s.word; open_words = words_of s.open.items; rounds = s.rounds; nodes = s.nodes }

-- the standing is this one of the instance
pub record StandsAt (shop : Shop) (s : Stand) (t : Standing) : Type 0 where
  pub stands_at : stands t ≡ s
  pub makespan : t.makespan ≡ makespan_of shop s
  pub bounds : AreNodes shop t.open.items

-- a standing of the instance: its makespan and bounds are those of its words, its best word is
-- full, and each open bound is below the makespan
abbrev pub IsStandingOf : Shop → Standing → Type 0
IsStandingOf shop t = StandsAt shop (stands t) t × IsStanding shop (stands t)

-- the round is cut from the standing
abbrev pub IsCutOf : Shop → Plan → Standing → Round → Type 0
IsCutOf shop plan t r = told r ≡ cut_of shop (planned plan) (stands t)

-- where the standing covers the instance, so does the round
abbrev pub CutCovers : Shop → Standing → Round → Type 0
CutCovers shop t r = StandsCovering shop (stands t) → CoversInRound (told r)

-- the standing is what is gathered of the round
abbrev pub IsGatheredOf : Round → Standing → Type 0
IsGatheredOf r t = StandsAt r.instance.now (gathered (told r)) t

-- where the round covers the instance, so does the standing
abbrev pub GatheredCovers : Round → Standing → Type 0
GatheredCovers r t = CoversInRound (told r) → StandsCovering r.instance.now (stands t)
