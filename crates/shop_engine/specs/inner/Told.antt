-- What is reported of an answer that a run gave.
use Rattle.std.specs.Prelude.{◌<◌, ◌^◌}
use Rattle.shop_text.specs.{Texts.NamedShop, Writing.Reported}
use Rattle.shop_runs.specs.declared.runs.Answer.{Answer}

abbrev pub told_by : NamedShop → Answer → Reported
told_by asked a = record {
  name = asked.name;
  shop = asked.shop;
  table = a.table;
  makespan = a.makespan;
  bound = a.bound;
  open_nodes = a.open_nodes;
  rounds = a.rounds;
  nodes = a.nodes;
}

-- the numbers of an answer are below 2 ^ 64
pub record HasWords (a : Answer) : Type 0 where
  pub makespan : a.makespan < 2 ^ 64
  pub bound : a.bound < 2 ^ 64
  pub open_nodes : a.open_nodes < 2 ^ 64
  pub rounds : a.rounds < 2 ^ 64
  pub nodes : a.nodes < 2 ^ 64
