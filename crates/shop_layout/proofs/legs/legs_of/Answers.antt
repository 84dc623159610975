use Rattle.std.proofs.Common.{◌≡◌, ◌∙◌, ℕ, ◌≤◌, ◌<◌, List, ap, length, map, sym, subst, take, arith}
use Rattle.std.{proofs.lemmas.List.{length-map, take_all, length_push}, specs.{List.flat_map, Prelude.Vec}}
use Rattle.std.specs.declared.alloc.Global.{Global}
use Rattle.shop_layout.{specs.Legs.route_legs, proofs.RouteLegs.{legs_more, row_below}}
use Rattle.shop_layout.proofs.legs.legs_of.Goals as goal

all_rows : (rows : List (Vec ℕ Global)) {j : ℕ} → length rows ≤ j
    → take j (map (λ v. v.items) rows) ≡ map (λ v. v.items) rows
all_rows rows {j} past =
    let long = length-map rows (λ v. v.items) in take_all j (map (λ v. v.items) rows) (omega arith)

pub add_route-requires-clause-machines : goal.add_route-requires-clause-machines
add_route-requires-clause-machines c =
    row_below c.args.step_positions.now c.loop-j.j c.index-step_positions-j.result c.as_slice.result.now
    c.loop-j-test.true c.index-step_positions-j.is c.as_slice.ensures.value (length c.args.machines.now)
    c.requires.machines

pub add_route-requires-clause-times : goal.add_route-requires-clause-times
add_route-requires-clause-times c =
    row_below c.args.step_positions.now c.loop-j.j c.index-step_positions-j.result c.as_slice.result.now
    c.loop-j-test.true c.index-step_positions-j.is c.as_slice.ensures.value (length c.args.times.now) c.requires.times

pub loop-j-preserved : goal.loop-j-preserved
loop-j-preserved c =
    let legs = route_legs c.args.machines.now c.args.times.now c.args.end
    in let pushed = c.in_ok-push.ensures.items
    in record {
      legs = legs_more c.args.step_positions.now c.loop-j.j c.index-step_positions-j.result c.as_slice.result.now
          c.loop-j-test.true c.index-step_positions-j.is c.as_slice.ensures.value legs c.loop-j.invariant.legs
          c.in_ok-add_route.ensures;
      long = grind (arith, length_push);
      firsts = grind arith;
    }

pub returns-clause-firsts : goal.returns-clause-firsts
returns-clause-firsts c =
    let all : c.loop-j.j ≡ length c.args.step_positions.now = omega arith
    in let long = c.loop-j.invariant.long
    in record {
      long = long ∙ (all ∙ sym (length-map c.args.step_positions.now (λ v. v.items)));
      each = λ j here. c.loop-j.invariant.firsts j (subst (λ n. j < n) long here);
    }

pub returns-clause-legs : goal.returns-clause-legs
returns-clause-legs c = c.loop-j.invariant.legs
    ∙ ap (flat_map (route_legs c.args.machines.now c.args.times.now c.args.end))
    (all_rows c.args.step_positions.now c.loop-j-test.false)
