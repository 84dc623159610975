use Rattle.std.proofs.Common.{◌≡◌, ℕ, List, get_or, length, ◌∙◌, ap, sym, subst, arith}
use Rattle.shop_layout.specs.Positions.{LayoutState}
use Rattle.shop_states.{specs.inner.Raises.HasBlocks, proofs.{Candidates.choosable, LaneConflicts.chosen_at}}
use Rattle.shop_states.proofs.LaneConflicts.{chosen_in, chosen_job, is_conflict, none_open}
use Rattle.shop_states.proofs.candidate_lists.first_end.Goals as goal

pub returns-then-position-positions-clause-is : goal.returns-then-position-positions-clause-is
returns-then-position-positions-clause-is g c = λ shop w kept.
    let next = ap (λ (xs : List ℕ). get_or xs c.first_least_end-chosen.result.0 0) c.as_slice-next.ensures.value
    in sym (none_open (choosable kept) c.first_least_end-chosen.result.0 c.first_least_end-chosen.ensures.job
    c.positions.ensures (let past = c.if-position-positions.true in omega arith))

pub returns-clause-is : goal.returns-clause-is
returns-clause-is g c = λ shop w kept.
    let l = c.args.grid.now
    in let nexts = c.args.state.now.next.items
    in let heads = g.L.StateLanes.heads c.args.state.now.lanes
    in let r = c.first_least_end-chosen.result.0
    in let is = c.first_least_end-chosen.ensures.job
    in let can = choosable kept
    in let next = ap (λ (xs : List ℕ). get_or xs r 0) c.as_slice-next.ensures.value
    in let at = chosen_at can r is c.positions.ensures (let below = c.if-position-positions.false in omega arith)
    in let read : c.machine-machine.result ≡ get_or l.machines (get_or nexts r 0) 0 = c.machine-machine.ensures
    ∙ (ap (λ (x : LayoutState). get_or x.machines (get_or c.as_slice-next.result.now r 0) 0) c.routes.ensures
    ∙ ap (λ (x : ℕ). get_or l.machines x 0) next)
    in let end = kept.ends.next r at.operation in let told = c.first_least_end-chosen.ensures.end in let fits = at.fits
    in record {
      known = grind (arith, chosen_job);
      machine_is = read;
      blocks = subst (λ (m : ℕ). HasBlocks l (length heads) m) (sym read) at.blocks;
      fits = omega arith;
      has = chosen_in can r is at.operation;
      set = λ js are. is_conflict can r is at.operation (read ∙ at.machine_is) (omega arith) js are;
    }
