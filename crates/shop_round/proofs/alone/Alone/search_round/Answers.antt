use Rattle.std.proofs.{Common.{◌≡◌, ◌∙◌, ◌+◌, length, rules, subst, sym}, lemmas.List.length-map}
use Rattle.shop_runs.specs.Entries.{told}
use Rattle.shop_round.specs.inner.Hits.{IsEntryUpToHit, IsFirstHitBelow}
use Rattle.shop_round.proofs.EntriesUpToHit.{one_entry_more, all_entries}
use Rattle.shop_round.proofs.alone.Alone.search_round.Goals as goal

pub loop-number-preserved : goal.loop-number-preserved
loop-number-preserved c =
    let i = c.loop-number.invariant in
    let number = c.loop-number.number in
    let is = subst (λ round. IsEntryUpToHit (told round) number c.in_ok-entry.entry) i.round c.in_ok-entry.ensures.entry
    in record {
      entries = one_entry_more (told c.args.round.now) c.loop-number.entries.items c.push.new.self.items number
          c.in_ok-entry.entry i.entries c.in_ok-push.ensures.items is.0 is.1;
      hit = subst (λ round. IsFirstHitBelow (told round) (number + 1) c.entry_up_to_hit.new.hit) i.round
          c.in_ok-entry.ensures.hit;
      round = c.entry_up_to_hit.ensures.round ∙ i.round;
    }

pub returns-clause-entries : goal.returns-clause-entries
returns-clause-entries c =
    let round = c.args.round.now in
    let pieces : length round.pieces.items ≡ c.loop-number.number = search rules
    in all_entries (told round) c.loop-number.entries.items c.loop-number.number
    c.loop-number.invariant.entries (sym (length-map round.pieces.items _ ∙ pieces))
