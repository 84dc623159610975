use Rattle.std.proofs.Common.{◌≡◌, Some, drop}
use Rattle.shop_text.specs.Names.{shops_of, first_named}
use Rattle.shop_text.proofs.names.pick.Given as goal

abbrev pub invariant-loop-candidate : goal.invariant-loop-candidate
invariant-loop-candidate l =
    first_named (shops_of (drop l.candidate-index l.named)) (Some l.name) ≡ first_named (shops_of l.named) (Some l.name)
