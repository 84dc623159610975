use Rattle.std.proofs.Common.{◌≡◌, ◌+◌, ◌-◌, length, replicate, arith, ap, vec_len}
use Rattle.shop_model.{specs.Shop.route_of, proofs.StartWord.start_more}
use Rattle.shop_model.proofs.words.start_word.Goals as goal

pub loop-j-preserved : goal.loop-j-preserved
loop-j-preserved c =
    let full = c.loop-j.entries.ok.0
    in let steps = ap length c.route.ensures.route
    in let total = c.len.result + length c.route.result.now
    in let added : length (route_of c.args.instance.now c.loop-j.j) ≡ total - vec_len c.loop-j.entries = omega arith
    in record {
      so_far = start_more (λ i. replicate
          (length (route_of c.args.instance.now i)) i) c.loop-j.entries.items _ c.loop-j.j
          total (total - vec_len c.loop-j.entries) c.loop-j.invariant.so_far (omega arith)
          (ap (λ n. replicate n c.loop-j.j) added) c.in_ok-resize.ensures.items;
      small = (let limit = c.route.ensures.limits.routes c.loop-j.j in let g = c.in_ok-resize.ensures.len
          in omega arith);
    }
