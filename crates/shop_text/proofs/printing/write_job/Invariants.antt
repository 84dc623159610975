use Rattle.std.{proofs.Common.{◌≡◌, ◌∷◌, ◌++◌, take, string_bytes}, specs.{Prelude.flat_map, Fmt.decimal}}
use Rattle.shop_text.proofs.printing.write_job.Given as goal

abbrev pub invariant-loop-start : goal.invariant-loop-start
invariant-loop-start l = string_bytes l.out ≡ string_bytes l.initial.out
    ++ flat_map (λ start. 32 ∷ decimal start) (take l.start-index l.starts)
