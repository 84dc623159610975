use Rattle.std.proofs.{Common.{◌≡◌, ℕ, ◌∙◌, ap, length, take, arith, subst}, lemmas.Grind.common_steps}
use Rattle.std.proofs.lemmas.List.{length-take, length-take-le, take-take}
use Rattle.shop_bound.proofs.WordLengths.{word_within}
use Rattle.shop_model.proofs.PlacementLemmas.{IsWord-take}
use Rattle.shop_states.proofs.LongerBeginnings.{gone_on}
use Rattle.shop_states.proofs.beginnings.Beginning.extend.Goals as goal

pub write_front-requires : goal.write_front-requires
write_front-requires g c = grind (arith, word_within, length-take)

pub returns-clause-is : goal.returns-clause-is
returns-clause-is g c =
    let to = c.saturating_sub-to.result
    in let below = c.saturating_sub-to.ensures
    in let most = word_within c.args.laid_out.now.shop c.args.path.now c.requires.word
    in let same : take to c.write_front.new.row ≡ take to c.args.path.now =
    subst (λ (n : ℕ). take n c.write_front.new.row ≡ take to c.args.path.now)
    (length-take-le to c.args.path.now (omega arith)) c.write_front.ensures.front
    in gone_on c.args.laid_out.now.shop c.args.laid_out.now.layout c.args.self.now c.requires.is c.args.path.now
    c.write_front.new.row to (omega arith) (c.write_front.ensures.long ∙ ap length c.as_mut_slice.ensures.value) same
    c.place_from.new.next_legs c.place_from.new.ready c.place_from.new.free c.place_from.ensures

pub place_from-requires-clause-before : goal.place_from-requires-clause-before
place_from-requires-clause-before g c = grind (arith, take-take)

pub place_from-requires-clause-word : goal.place_from-requires-clause-word
place_from-requires-clause-word g c =
    IsWord-take c.args.laid_out.now.shop c.args.path.now c.saturating_sub-to.result c.requires.word

pub returns-clause-begins : goal.returns-clause-begins
returns-clause-begins g c = grind (arith, common_steps)
