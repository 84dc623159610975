use Rattle.std.proofs.lemmas.List.Elements.{All-nil}
use Rattle.shop_tree.proofs.walkers.Walker.new.Goals as goal

pub returns-clause-states : goal.returns-clause-states
returns-clause-states g c =
    rw c.new-2.ensures.items (All-nil _)
