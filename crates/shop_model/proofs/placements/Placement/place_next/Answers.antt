use Rattle.std.proofs.{Common.{arith, sym, subst}, lemmas.Grind.common_steps}
use Rattle.shop_model.specs.Placements.{PlacementState, IsPlacement, HasNext}
use Rattle.shop_model.proofs.PlacementLemmas.{about_to_place, job_of_next, reads, step_read, finish_small}
use Rattle.shop_model.proofs.PlacementLemmas.{placed_by_reads, start_by_reads}
use Rattle.shop_model.proofs.placements.Placement.place_next.Goals as goal

pub index-k-requires : goal.index-k-requires
index-k-requires c =
    let shop = c.args.instance.now in let j = c.args.j
    in let next = subst (λ (s : PlacementState). HasNext shop j s) (sym c.self.view_is) c.requires
    in let a = job_of_next shop j _ next
    in let b = next.placed.entries.steps
    in let o = c.self.inside.steps.ok.0 in omega arith

pub route-requires : goal.route-requires
route-requires c = job_of_next c.args.instance.now c.args.j c.args.self.now c.requires

pub bounds-route-k : goal.bounds-route-k
bounds-route-k c =
    let shop = c.args.instance.now in let j = c.args.j
    in let next = subst (λ (s : PlacementState). HasNext shop j s) (sym c.self.view_is) c.requires
    in let a = about_to_place shop j _ c.route.ensures.limits next
    in let k = step_read shop j _ c.route.ensures.limits a c.route.result.now c.route.ensures.route _ c.index-k.ensures
    in k.0

pub offset_bounds-route-k : goal.offset_bounds-route-k
offset_bounds-route-k c =
    let shop = c.args.instance.now in let j = c.args.j
    in let next = subst (λ (s : PlacementState). HasNext shop j s) (sym c.self.view_is) c.requires
    in let a = about_to_place shop j _ c.route.ensures.limits next
    in let k = step_read shop j _ c.route.ensures.limits a c.route.result.now c.route.ensures.route _ c.index-k.ensures
    in let b = k.1 in omega arith

pub overflow_add-k : goal.overflow_add-k
overflow_add-k c =
    let shop = c.args.instance.now in let j = c.args.j
    in let next = subst (λ (s : PlacementState). HasNext shop j s) (sym c.self.view_is) c.requires
    in let a = about_to_place shop j _ c.route.ensures.limits next
    in let k = step_read shop j _ c.route.ensures.limits a c.route.result.now c.route.ensures.route _ c.index-k.ensures
    in let b = k.1 in omega arith

pub overflow_add-finish : goal.overflow_add-finish
overflow_add-finish c =
    let shop = c.args.instance.now in let j = c.args.j
    in let next = subst (λ (s : PlacementState). HasNext shop j s) (sym c.self.view_is) c.requires
    in let a = about_to_place shop j _ c.route.ensures.limits next
    in let r = reads shop j _ c.route.ensures.limits a c.route.result.now c.route.ensures.route _ _ _
    c.index-k.ensures c.index.ensures c.index-2.ensures
    in let s = finish_small shop j _ c.route.ensures.limits a _ _ _ _ r
    in let m = c.max-start.ensures
    in omega arith

pub returns-clause-placed : goal.returns-clause-placed
returns-clause-placed c =
    let shop = c.args.instance.now in let j = c.args.j
    in let next = subst (λ (s : PlacementState). HasNext shop j s) (sym c.self.view_is) c.requires
    in let a = about_to_place shop j _ c.route.ensures.limits next
    in let r = reads shop j _ c.route.ensures.limits a c.route.result.now c.route.ensures.route _ _ _ c.index-k.ensures
    c.index.ensures c.index-2.ensures
    in λ p is. placed_by_reads shop j _ a.job _ _ _ _ r c.max-start.result c.max-start.ensures p
    (subst (λ (s : PlacementState). IsPlacement shop p s) (sym c.self.view_is) is)

pub returns-clause-start : goal.returns-clause-start
returns-clause-start c =
    let shop = c.args.instance.now in let j = c.args.j
    in let next = subst (λ (s : PlacementState). HasNext shop j s) (sym c.self.view_is) c.requires
    in let a = about_to_place shop j _ c.route.ensures.limits next
    in let r = reads shop j _ c.route.ensures.limits a c.route.result.now c.route.ensures.route _ _ _ c.index-k.ensures
    c.index.ensures c.index-2.ensures
    in λ p is. start_by_reads shop j _ a.job _ _ _ _ r c.max-start.result c.max-start.ensures p
    (subst (λ (s : PlacementState). IsPlacement shop p s) (sym c.self.view_is) is)

pub index_mut-requires-2 : goal.index_mut-requires-2
index_mut-requires-2 c = grind (arith, common_steps)

pub index_mut-requires : goal.index_mut-requires
index_mut-requires c = grind (arith, common_steps)
