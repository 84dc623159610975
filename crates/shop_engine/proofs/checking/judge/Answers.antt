use Rattle.std.proofs.{Common.refl, lemmas.Bool.false≢true}
use Rattle.shop_engine.proofs.checking.judge.Goals as goal

pub returns-in-Feasible-clause-judges : goal.returns-in-Feasible-clause-judges
returns-in-Feasible-clause-judges c = record {
  rows = c.in_ok-table.table;
  is_table = c.in_ok-table.ensures;
  verdict = c.in_ok-verdict.verdict;
  is_verdict = c.in_ok-verdict.ensures.verdict_holds;
  is_feasible = (λ _. let end = (c.in_ok-verdict.ensures.feasible _).0 c.in-Feasible.is in (end.0, end.1), λ _. refl);
  says = c.in_ok-line.ensures;
}

pub returns-clause-judges : goal.returns-clause-judges
returns-clause-judges c = let is = c.in_ok-verdict.ensures.feasible in record {
  rows = c.in_ok-table.table;
  is_table = c.in_ok-table.ensures;
  verdict = c.in_ok-verdict.verdict;
  is_verdict = c.in_ok-verdict.ensures.verdict_holds;
  is_feasible = (λ no. absurd (false≢true no), λ e. absurd (c.in_default.not-Feasible _ ((is _).1 (e.0, e.1, refl))));
  says = c.in_ok-line.ensures;
}
