use Rattle.std.proofs.{Common.{◌<◌, ◌+◌, ℕ, List, ap, arith, get_or, length}, lemmas.List.Elements.All-from_get_or}
use Rattle.shop_model.specs.declared.ops.Op.{Op}
use Rattle.shop_bound.proofs.MachineListTurns.{job_counted, visits_small, written_vec}
use Rattle.shop_bound.proofs.machine_lists.count_visits.Goals as goal

pub add_visits-requires-clause-small : goal.add_visits-requires-clause-small
add_visits-requires-clause-small c =
    let shop = c.args.instance.now in let j = c.loop-j.j
    in let job : j < length shop.jobs = (let a = c.loop-j-test.true in let b = c.jobs-j-end.ensures in omega arith)
    in let limits = c.route.ensures.limits
    in let route = ap (λ (os : List Op). length os) c.route.ensures.route in let short = limits.routes j
    in let jobs = limits.jobs in let given = c.as_mut_slice.ensures.value
    in let long = ap (λ (xs : List ℕ). length xs) given in let machines = c.loop-j.invariant.long
    in All-from_get_or (λ n. n + length c.route.result.now < 18446744073709551616) c.as_mut_slice.result.now 0
    (λ m below. let small = visits_small shop limits m j (omega arith)
    in let so_far = c.loop-j.invariant.counted m (omega arith)
    in let same = ap (λ (xs : List ℕ). get_or xs m 0) given in omega arith)

pub loop-j-preserved : goal.loop-j-preserved
loop-j-preserved c = grind (arith, written_vec, job_counted)
