-- What stands after a round.
use Rattle.std.proofs.{Common.{arith, ◌≡◌, ◌+◌, ◌++◌, sym, ◌∙◌, ap, subst, ltb}, lemmas.List.map-append}
use Rattle.std.{proofs.lemmas.List.Elements.{All-append, All-filter}, specs.Prelude.unwrap_or}
use Rattle.shop_model.specs.Shop.{Shop}
use Rattle.shop_bound.specs.Bound.{lb}
use Rattle.shop_nodes.specs.{declared.nodes.Node.Node, Nodes.{words_of, IsNode, AreNodes}, inner.HeldNodes.nodes_below}
use Rattle.shop_runs.specs.declared.{outcomes.RoundResult.RoundResult, rounds.Round.Round, standings.Standing.Standing}
use Rattle.shop_runs.specs.{Round.{Stand, gathered, words_below}, Laws.{IsStanding, StandsCovering, CoversInRound}}
use Rattle.shop_runs.specs.{Entries.told, inner.Outcomes.{left_open, IsOutcome}, Standings.{stands, StandsAt}}
use Rattle.shop_runs.{specs.Standings.IsStandingOf, proofs.{NodeLemmas.below_is, StandingLemmas.gathered_is_standing}}
use Rattle.shop_runs.proofs.Covering.{gather_covers}

at_own : (shop : Shop) (s : Stand) (t : Standing) → StandsAt shop s t → StandsAt shop (stands t) t
at_own shop s t a = grind arith

-- what the sheets left open and the rest, below the makespan of their outcome, come to what is gathered
pub stands_gathered : (r : Round) (o : RoundResult) (t : Standing) → IsOutcome (told r) o
    → t.word ≡ unwrap_or o.found r.word → t.makespan ≡ o.makespan
    → t.open.items ≡ nodes_below o.makespan (left_open o.left.items ++ r.rest.items)
    → t.rounds ≡ r.rounds + 1 → t.nodes ≡ o.nodes → StandsAt r.instance.now (gathered (told r)) t
stands_gathered r o t is best makespan open_nodes rounds nodes =
    let shop = r.instance.now
    in let left = left_open o.left.items
    in let all = All-append (IsNode shop) left r.rest.items is.nodes_left r.nodes_of_rest
    in let words : words_of t.open.items ≡ words_below shop o.makespan (words_of left ++ words_of r.rest.items) =
    ap words_of open_nodes ∙ (below_is shop o.makespan (left ++ r.rest.items) all
    ∙ ap (words_below shop o.makespan) (map-append (λ (n : Node). n.word) left r.rest.items))
    in let at : stands t ≡ gathered (told r) =
    (λ i. record { word = best i; open_words = words i; rounds = rounds i; nodes = nodes i }) ∙ sym is.stands
    in record {
      stands_at = at;
      makespan = makespan ∙ (is.makespan ∙ (ap (lb shop) (sym best) ∙ ap (λ (s : Stand). lb shop s.word) at));
      bounds = subst (AreNodes shop) (sym open_nodes)
          (All-filter (λ n. ltb n.bound o.makespan) (IsNode shop) (left ++ r.rest.items) all);
    }

module _ (r : Round) (t : Standing) (at : StandsAt r.instance.now (gathered (told r)) t) where
  pub gathered_standing : IsStandingOf r.instance.now t
  gathered_standing = (
    at_own r.instance.now (gathered (told r)) t at,
    subst (IsStanding r.instance.now) (sym at.stands_at) (gathered_is_standing (told r) r.is_round),
  )

  pub gathered_covering : CoversInRound (told r) → StandsCovering r.instance.now (stands t)
  gathered_covering k = subst (StandsCovering r.instance.now) (sym at.stands_at) (gather_covers (told r) k)
