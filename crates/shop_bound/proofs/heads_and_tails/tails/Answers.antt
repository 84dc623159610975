use Rattle.std.{proofs.Common.{arith, ◌∙◌, List, map, length, ap, rules}, specs.List.range_with_len}
use Rattle.shop_model.specs.{declared.ops.Op.Op, Shop.route_of}
use Rattle.shop_bound.{specs.Heads.{tail_in, tail_of}, proofs.{Filled.rows_more, TimeSums.times_small}}
use Rattle.shop_bound.proofs.heads_and_tails.tails.Goals as goal

pub tails_of_route-requires : goal.tails_of_route-requires
tails_of_route-requires c = grind (arith, times_small)

pub loop-j-preserved : goal.loop-j-preserved
loop-j-preserved c =
    let shop = c.args.instance.now
    in record {
      filled = rows_more (λ j. map (tail_of shop j) (range_with_len 0 (length (route_of shop j)))) c.loop-j.rows.items
          c.push.new.self.items c.loop-j.j
          c.in_ok-tails_of_route.field-0 c.loop-j.invariant.filled
          (c.in_ok-tails_of_route.ensures
          ∙ ap (λ (route : List Op). map (tail_in route) (range_with_len 0 (length route))) c.route.ensures.route)
          (search rules);
      long = search rules;
      room = search rules;
    }
