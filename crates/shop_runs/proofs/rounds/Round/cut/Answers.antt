use Rattle.std.proofs.Common.{arith, sym, subst}
use Rattle.shop_runs.specs.{Laws.{IsRound, CoversInRound}, Plans.planned, Standings.stands}
use Rattle.shop_runs.proofs.{Answering.with_rest, Covering.{cut_covers, cut_is_round}, FrontLemmas.search_of}
use Rattle.shop_runs.proofs.rounds.Round.cut.Goals as goal

pub cut-requires-clause-search : goal.cut-requires-clause-search
cut-requires-clause-search c = search_of c.args.instance.now c.args.plan.now.order (stands c.args.standing)
    c.in_ok-open_run.open_run c.in_ok-open_run.ensures.at c.requires.standing.1

pub returns-clause-cut : goal.returns-clause-cut
returns-clause-cut c =
    with_rest c.args.instance.now c.args.plan.now (stands c.args.standing) c.in_ok-open_run.open_run c.in_ok-round.round
    c.cut.new.self.open c.in_ok-rest.rest.items c.in_ok-open_run.ensures.at c.in_ok-round.ensures.front
    c.in_ok-rest.ensures.taken

pub invariant_of-round-clause-nodes_of_rest : goal.invariant_of-round-clause-nodes_of_rest
invariant_of-round-clause-nodes_of_rest c = grind arith

pub invariant_of-round-clause-is_round : goal.invariant_of-round-clause-is_round
invariant_of-round-clause-is_round c =
    let s = stands c.args.standing
    in let is = with_rest c.args.instance.now c.args.plan.now s c.in_ok-open_run.open_run c.in_ok-round.round
    c.cut.new.self.open c.in_ok-rest.rest.items c.in_ok-open_run.ensures.at c.in_ok-round.ensures.front
    c.in_ok-rest.ensures.taken
    in subst IsRound (sym is) (cut_is_round c.args.instance.now (planned c.args.plan.now) s c.requires.standing.1)

pub returns-clause-covers : goal.returns-clause-covers
returns-clause-covers c k = subst CoversInRound (sym (returns-clause-cut c))
    (cut_covers c.args.instance.now (planned c.args.plan.now) (stands c.args.standing) k)
