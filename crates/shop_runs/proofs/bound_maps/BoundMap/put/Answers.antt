use Rattle.std.proofs.Common.{arith}
use Rattle.shop_runs.proofs.StackLemmas.{put_is, words_left}
use Rattle.shop_runs.proofs.bound_maps.BoundMap.put.Goals as goal
use Rattle.shop_runs.proofs.bound_maps.BoundMap.put.Goals.{in-Occupied+in_ok-push-in-Occupied, in-Vacant}

pub returns : goal.returns
returns c = grind (arith, put_is, words_left, in-Vacant)
