use Rattle.std.proofs.{Common.{◌≡◌, ◌∙◌, ap, arith, sym, unwrap_or}, lemmas.List.{length-map, take_all}}
use Rattle.std.proofs.lemmas.{Grind.common_steps, Iterator.Consumers.max_from_yields_List}
use Rattle.std.proofs.lemmas.Iterator.{Adapters.option_map_id, YieldsList-from_slice, Consumers.YieldsList-from_copied}
use Rattle.shop_bound.specs.OneMachine.{greatest_of}
use Rattle.shop_bound.proofs.{Lists.get_or-le-greatest_of, ThresholdLemmas.greatest_of-reduce}
use Rattle.shop_bound.proofs.lower.BoundRoom.of.Goals as goal

pub returns : goal.returns
returns c =
    let counts = c.in_ok-counts.counts.items
    in let most : c.unwrap_or-most.result ≡ greatest_of (λ n. n) counts = c.unwrap_or-most.ensures
    ∙ ap (λ o. unwrap_or o 0) (sym (option_map_id _)
    ∙ max_from_yields_List _ _ c.max.ensures.ran (YieldsList-from_copied (YieldsList-from_slice counts cc)))
    ∙ greatest_of-reduce counts
    in grind (arith, length-map, take_all, get_or-le-greatest_of, most)

pub loop-count-preserved : goal.loop-count-preserved
loop-count-preserved c = grind (arith, common_steps)
