use Rattle.std.proofs.Common.{◌≡◌}
use Rattle.shop_states.specs.inner.WordStates.{IsRoom}
use Rattle.search_tests.proofs.fills.assert_fills_along.Given as goal

abbrev pub invariant-loop : goal.invariant-loop
invariant-loop g l = record {
  state : IsRoom g.L.StateLanes l.dispatcher.laid_out l.state;
  same : l.dispatcher ≡ l.fn.dispatcher;
}
