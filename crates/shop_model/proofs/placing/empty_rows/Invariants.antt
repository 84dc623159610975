use Rattle.std.proofs.Common.{◌≡◌, [], map, replicate}
use Rattle.shop_model.proofs.placing.empty_rows.Given as goal

abbrev pub invariant-loop-j : goal.invariant-loop-j
invariant-loop-j l = map (λ r. r.items) l.rows.items ≡ replicate l.j []
