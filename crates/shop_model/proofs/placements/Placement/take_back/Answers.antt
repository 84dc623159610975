use Rattle.std.proofs.Common.{◌≡◌, ◌-◌, List, ap, arith, get_or, length, subst, sym}
use Rattle.shop_model.specs.{declared.ops.Op.Op, Shop.{machine_of, no_op, op_of}, Placements.{PlacementState, HasLast}}
use Rattle.shop_model.{specs.{Placements.IsPlacement, Word.place_next}, proofs.PlacementLemmas.{last_read, step_placed}}
use Rattle.shop_model.proofs.PlacementLemmas.{taken_back}
use Rattle.shop_model.proofs.placements.Placement.take_back.Goals as goal

pub index-requires : goal.index-requires
index-requires c =
    let shop = c.args.instance.now in let j = c.args.j
    in let a = step_placed shop j _ (subst (λ (s : PlacementState). HasLast shop j s) (sym c.self.view_is) c.requires)
    in let job = a.job in let b = a.entries.steps in let o = c.self.inside.steps.ok.0 in omega arith

pub route-requires : goal.route-requires
route-requires c = (step_placed c.args.instance.now c.args.j c.args.self.now c.requires).job

pub offset_bounds-route-k : goal.offset_bounds-route-k
offset_bounds-route-k c =
    let shop = c.args.instance.now in let j = c.args.j
    in let a = step_placed shop j _ (subst (λ (s : PlacementState). HasLast shop j s) (sym c.self.view_is) c.requires)
    in let k = last_read shop j _ a c.route.result.now c.route.ensures.route c.index.result.now c.index.ensures
    in let few = k.2 in let e = ap (λ (xs : List Op). length xs) c.route.ensures.route
    in let most = c.route.ensures.limits.routes j in omega arith

pub bounds-route-k : goal.bounds-route-k
bounds-route-k c =
    let shop = c.args.instance.now in let j = c.args.j
    in let a = step_placed shop j _ (subst (λ (s : PlacementState). HasLast shop j s) (sym c.self.view_is) c.requires)
    in let k = last_read shop j _ a c.route.result.now c.route.ensures.route c.index.result.now c.index.ensures
    in let some = k.1 in let few = k.2 in omega arith

pub returns : goal.returns
returns c = λ p is ready free.
    let shop = c.args.instance.now in let j = c.args.j in let k = c.index.result.now - 1
    in let a = step_placed shop j _ (subst (λ (s : PlacementState). HasLast shop j s) (sym c.self.view_is) c.requires)
    in let r = last_read shop j _ a c.route.result.now c.route.ensures.route c.index.result.now c.index.ensures
    in let step = r.0 in let some = r.1
    in let operation : get_or c.route.result.now k no_op ≡ op_of shop j k =
    ap (λ (xs : List Op). get_or xs k no_op) c.route.ensures.route
    in let machine : (get_or c.route.result.now k no_op).machine ≡ machine_of shop j k =
    ap (λ (o : Op). o.machine) operation
    in taken_back shop j _ a k (get_or c.route.result.now k no_op).machine c.args.ready c.args.free (omega arith)
    machine
    (rw machine (c.route.ensures.limits.on_machines j k)) p
    (subst (λ (s : PlacementState). IsPlacement shop (place_next shop p j) s) (sym c.self.view_is) is) ready free
