use Rattle.shop_tree.{specs.inner.StateWalkers.stage_of, proofs.WalkerLemmas.nodes_on}
use Rattle.shop_tree.proofs.walkers.Walker.walk_nodes.Goals as goal

pub loop-taken-preserved : goal.loop-taken-preserved
loop-taken-preserved g c = record {
  walked = nodes_on (stage_of c.args.self.now) (stage_of c.loop-taken.self) (stage_of c.walk_node.new.self)
      c.args.nodes.now c.loop-taken.taken c.index-nodes-taken.result c.index-nodes-taken.is c.loop-taken-test.true
      c.if-self-gt0.true c.loop-taken.invariant.walked c.in_ok-walk_node.ensures.walked;
  states = c.in_ok-walk_node.ensures.states;
}
