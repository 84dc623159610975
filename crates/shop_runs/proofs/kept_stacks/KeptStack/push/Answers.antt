use Rattle.std.proofs.Common.{◌-◌, ◌^◌, arith}
use Rattle.shop_runs.proofs.KeptLemmas.{few_each}
use Rattle.shop_runs.proofs.kept_stacks.KeptStack.push.Goals.{then-len-capacity+in_ok-reserve_exact, else-len-capacity}
use Rattle.shop_runs.proofs.kept_stacks.KeptStack.push.Goals as goal

pub count_put-requires : goal.count_put-requires
count_put-requires c =
    let nodes = c.self.inside.nodes
    in let leasts = c.self.inside.leasts
    in let few = few_each nodes.items leasts.items (2 ^ 64 - 1) c.self.invariant
    (let s = nodes.small in let o = nodes.ok in omega arith)
    in elim c.if-len-capacity.branch [
      | then-len-capacity+in_ok-reserve_exact w ↦ grind arith
      | else-len-capacity w ↦ grind arith
    ]
