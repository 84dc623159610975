use Rattle.std.proofs.Common.{◌∙◌, ap, arith, unwrap_or, rules, tests}
use Rattle.std.proofs.lemmas.Iterator.{YieldsList-from_map, YieldsList-from_slice}
use Rattle.std.proofs.lemmas.{Iterator.Consumers.reduce_from_yields_List, List.Folds.max_of_map}
use Rattle.shop_bound.proofs.ThresholdLemmas.{greatest_of-fold}
use Rattle.shop_bound.proofs.lower.greatest_head.Goals as goal

pub returns : goal.returns
returns c =
    let ts = c.args.triples.now
    in c.unwrap_or.ensures ∙ ap (λ o. unwrap_or o 0) (reduce_from_yields_List _ c.map.result _ c.max.ensures.ran
    (YieldsList-from_map _ (λ t. t.head) (YieldsList-from_slice ts cc) c.map.ensures.closure
    (λ x b q k. search (rules, tests)))) ∙ max_of_map (λ t. t.head) ts
    ∙ (greatest_of-fold (λ t. t.head) ts 0 ∙ omega arith)
