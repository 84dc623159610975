-- What a report is made of.
use Rattle.shop_text.specs.{Writing.Reported, declared.reports.Report.Report}

abbrev pub reported : Report → Reported
reported r = record {
  name = r.name.now;
  shop = r.instance.now;
  table = r.table.now;
  makespan = r.makespan;
  bound = r.bound;
  open_nodes = r.open_nodes;
  rounds = r.rounds;
  nodes = r.nodes;
}
