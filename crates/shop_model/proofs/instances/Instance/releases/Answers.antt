use Rattle.std.proofs.{Common.arith, lemmas.List.FromFn.map-range_with_len_more}
use Rattle.shop_model.specs.Shop.{release_of}
use Rattle.shop_model.proofs.instances.Instance.releases.Goals as goal

pub loop-j-preserved : goal.loop-j-preserved
loop-j-preserved c =
    grind (arith, map-range_with_len_more (release_of c.args.self.now) 0 c.loop-j.j c.loop-j.j (omega arith))
