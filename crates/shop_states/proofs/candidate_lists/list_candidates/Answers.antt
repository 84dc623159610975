use Rattle.std.proofs.Common.{◌-◌, ◌∙◌, List, ap, length, subst, sym, arith}
use Rattle.shop_states.specs.{declared.states.Candidate.Candidate, inner.Candidates.AreCandidatesOf}
use Rattle.shop_states.proofs.Listing.{written_back}
use Rattle.shop_states.proofs.candidate_lists.list_candidates.Goals as goal

pub returns-clause-are : goal.returns-clause-are
returns-clause-are g c = λ shop w kept.
    let tally = c.list_in-tally.result
    in subst (λ (cs : List Candidate). AreCandidatesOf shop w c.args.grid.now c.args.limit cs
    (tally.seen - tally.listed))
    (sym (written_back tally.listed c.candidates.inside.list.len c.list_in-tally.new.list
    c.candidates.inside.list.items (c.list_in-tally.ensures.room ∙ ap length c.as_mut_slice.ensures.value)
    (let long = c.as_mut_slice.ensures.len in let value = ap length c.as_mut_slice.ensures.value in omega arith)))
    (c.list_in-tally.ensures.are shop w kept)
