use Rattle.std.proofs.Common.{◌-◌, ◌<◌, ap, arith, get_or, length, refl, vec_capacity}
use Rattle.shop_model.specs.Shop.{no_op}
use Rattle.shop_bound.proofs.{MachineListTurns.{has_room, one_added}, TimeSums.times_from, UnplacedTurns.rest_small}
use Rattle.shop_bound.proofs.machine_lists.add_rest.Goals as goal

pub total_time-tail-requires : goal.total_time-tail-requires
total_time-tail-requires c = rest_small c.args.free.now c.args.ready c.args.rest.now c.requires.rest

pub here : (c : goal.After-push) → (get_or c.args.rest.now c.loop-op.op-index no_op).machine < length c.loop-op.lists
here c = grind arith

pub unwrap-requires : goal.unwrap-requires
unwrap-requires c = grind (arith, vec_capacity, has_room, here)

pub loop-op-preserved : goal.loop-op-preserved
loop-op-preserved c =
    let rest = c.args.rest.now in let k = c.loop-op.op-index
    in let op = get_or rest k no_op
    in let times = times_from rest k c.loop-op-test.true
    in let before = c.loop-op.invariant in let tail = before.tail in let small = before.small
    in let time = c.requires.rest.times k
    in let on = c.requires.rest.on_machines k c.loop-op-test.true
    in let free = c.requires.rest.free_small op.machine on
    in let head = c.max-head.ensures
    in let long = before.added.long in let machines = c.requires.machines
    in record {
      added = one_added rest k c.loop-op-test.true c.args.lists.now c.loop-op.lists c.args.free.now c.args.ready
          c.loop-op.ready c.max-head.result (c.loop-op.tail - op.time) op.machine
          (get_or c.loop-op.lists op.machine c.index-lists-op.result) c.push.new.self before.added refl (omega arith)
          (ap (λ v. get_or c.loop-op.lists op.machine v) c.index-lists-op.is) head (omega arith)
          (rw c.unwrap.ensures at c.push.ensures.items) c.push.ensures.capacity;
      tail = omega arith;
      small = omega arith;
    }
