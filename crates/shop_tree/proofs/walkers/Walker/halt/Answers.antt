use Rattle.shop_tree.proofs.walkers.Walker.halt.Goals as goal

pub returns-clause-halt : goal.returns-clause-halt
returns-clause-halt g c = rw (c.in_ok-path.ensures.ok, c.as_slice.ensures.value)
    (rw (c.in_ok-pending.ensures, c.as_slice-2.ensures.value) c.requires.in_order.each)
