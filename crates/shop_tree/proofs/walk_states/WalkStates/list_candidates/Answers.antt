use Rattle.shop_tree.proofs.walk_states.WalkStates.list_candidates.Goals as goal

pub returns-clause-listed : goal.returns-clause-listed
returns-clause-listed g c = rw c.deref.ensures at c.list_candidates.ensures.listed
