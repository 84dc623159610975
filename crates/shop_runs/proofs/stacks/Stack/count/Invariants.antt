use Rattle.std.proofs.Common.{◌≡◌, ◌+◌, length, drop, flat_map}
use Rattle.shop_runs.specs.inner.Stacks.{words_on}
use Rattle.shop_runs.proofs.stacks.Stack.count.Given as goal

abbrev pub invariant-loop-chunk : goal.invariant-loop-chunk
invariant-loop-chunk l =
    l.count + length (flat_map (λ c. c.items) (drop l.chunk-index l.chunk-items)) ≡ length (words_on l.self)
