use Rattle.std.proofs.{Common.{rules, ◌+◌, ◌<◌, drop, length, get_or, sym, subst}, lemmas.List.at_drop_more}
use Rattle.std.specs.Arc.{arc_slice_items}
use Rattle.shop_nodes.specs.{declared.halts.Pending.{TheVariants.Child, Pending}, inner.HeldNodes.child_nodes}
use Rattle.shop_nodes.specs.inner.HeldNodes.{stack_nodes}
use Rattle.shop_runs.specs.inner.Distant.{FitBelow, ArePutOrCounted}
use Rattle.shop_runs.proofs.PutLemmas.{IsLeftToPut, part_put, part_fits}
use Rattle.shop_runs.proofs.open_nodes.OpenNodes.put_pending.Goals as goal

pub loop-pending-preserved : goal.loop-pending-preserved
loop-pending-preserved c =
    let path = arc_slice_items c.args.halt.now.path
    in let items = c.args.halt.now.pending.items
    in let now = c.loop-pending
    in let next = c.put_if_open.new
    in let k = now.pending-index
    in let d : Pending = Child 0 0 0
    in let within : k < length items = search rules
    in part_put c.args.limit (stack_nodes path items) c.args.self.now c.args.distant.now
    (stack_nodes path (drop (k + 1) items)) (child_nodes path (get_or items k d)) now.self next.self now.distant
    next.distant
    (subst (λ rs. IsLeftToPut c.args.limit (stack_nodes path items) c.args.self.now c.args.distant.now rs now.self
    now.distant) (at_drop_more (stack_nodes path) items k d within) now.invariant)
    (subst (λ ws. ArePutOrCounted c.args.limit (child_nodes path (get_or ws k d)) now.self now.distant next.self
    next.distant) c.deref-pending-items.ensures.value c.in_ok-put_if_open.ensures)

pub put_if_open-requires-clause-fits : goal.put_if_open-requires-clause-fits
put_if_open-requires-clause-fits c =
    let path = arc_slice_items c.args.halt.now.path
    in let items = c.args.halt.now.pending.items
    in let now = c.loop-pending
    in let k = now.pending-index
    in let d : Pending = Child 0 0 0
    in let within : k < length items = search rules
    in subst (λ ws. FitBelow c.args.limit (child_nodes path (get_or ws k d)) now.distant)
    (sym c.deref-pending-items.ensures.value)
    (part_fits c.args.limit (stack_nodes path items) c.args.self.now c.args.distant.now
    (stack_nodes path (drop (k + 1) items)) (child_nodes path (get_or items k d)) now.self now.distant c.requires.fits
    (subst (λ rs. IsLeftToPut c.args.limit (stack_nodes path items) c.args.self.now c.args.distant.now rs now.self
    now.distant) (at_drop_more (stack_nodes path) items k d within) now.invariant))
