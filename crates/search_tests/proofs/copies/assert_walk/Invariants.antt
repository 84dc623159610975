use Rattle.std.proofs.Common.{◌≡◌, ◌≤◌, length}
use Rattle.shop_bound.specs.Bound.{lb}
use Rattle.shop_states.specs.inner.WordStates.{IsRoom, IsStateOf}
use Rattle.search_tests.proofs.copies.assert_walk.Given as goal

abbrev pub invariant-loop : goal.invariant-loop
invariant-loop g l = record {
  state : IsStateOf g.L.StateLanes l.dispatcher.laid_out l.path.items l.rooms.state;
  bound : l.bound ≡ lb l.dispatcher.laid_out.asked l.path.items;
  direct : IsRoom g.L.StateLanes l.dispatcher.laid_out l.rooms.direct;
  placed : IsStateOf g.L.StateLanes l.dispatcher.laid_out l.path.items l.rooms.placed;
  settled : IsStateOf g.L.StateLanes l.dispatcher.laid_out l.path.items l.rooms.settled;
  room : length l.dispatcher.laid_out.asked.jobs ≤ l.candidates.room;
  others : length l.dispatcher.laid_out.asked.jobs ≤ l.others.room;
}
