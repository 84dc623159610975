use Rattle.std.{proofs.Common.{arith, ◌++◌, ◌∷◌, []}, specs.Arc.arc_slice_items}
use Rattle.shop_model.proofs.WordLengths.{word_shared}
use Rattle.shop_nodes.proofs.ChildrenLemmas.{child-small}
use Rattle.shop_nodes.proofs.child_nodes.child_along.Goals as goal

pub overflow_cast-depth : goal.overflow_cast-depth
overflow_cast-depth c =
    let w = arc_slice_items c.args.path.now
    in let small = child-small w c.args.job (word_shared c.args.instance.now (w ++ c.args.job ∷ [])
    c.keeps_limits.ensures c.requires)
    in let a = small.0 in let b = c.len-depth.ensures in omega arith

pub overflow_cast-job : goal.overflow_cast-job
overflow_cast-job c =
    let w = arc_slice_items c.args.path.now
    in let small = child-small w c.args.job (word_shared c.args.instance.now (w ++ c.args.job ∷ [])
    c.keeps_limits.ensures c.requires)
    in let a = small.1 in omega arith
