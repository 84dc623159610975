use Rattle.std.proofs.{Common.{ℕ, List, ◌∙◌, ap, get_or, length, refl, arith}, lemmas.List.length-set}
use Rattle.shop_layout.proofs.Written.{written_vec}
use Rattle.shop_states.proofs.RaiseSteps.{put_is}
use Rattle.shop_states.proofs.Strikes.{its_job, its_position, its_row, its_stands, struck_keep, struck_kept}
use Rattle.shop_states.proofs.advances.strike.Goals as goal

pub offset_bounds-next-job : goal.offset_bounds-next-job
offset_bounds-next-job g c = let a = its_job c.requires.kept c.requires.sole in omega arith

pub bounds-next-job : goal.bounds-next-job
bounds-next-job g c = rw c.as_mut_slice-next.ensures.value (its_job c.requires.kept c.requires.sole)

pub set_head-requires : goal.set_head-requires
set_head-requires g c = rw c.as_mut_slice-next.ensures.value
    (record { in_range = its_position c.requires.kept c.requires.sole; fits = omega arith })

pub set_next-requires : goal.set_next-requires
set_next-requires g c =
    let heads = rw c.as_mut_slice-next.ensures.value at c.set_head.ensures.heads
    in let wrote = put_is c.args.grid.now (g.L.StateLanes.heads c.args.state.now.lanes)
    (get_or c.args.state.now.next.items c.args.job 0) 0 heads c.set_head.ensures.ends
    in rw c.as_mut_slice-next.ensures.value (record {
      job = its_job c.requires.kept c.requires.sole;
      position = its_row c.requires.kept c.requires.sole;
      stands = its_stands c.requires.kept c.requires.sole;
      keep = struck_keep c.requires.kept c.requires.sole wrote refl;
    })

pub returns : goal.returns
returns g c = λ shop w kept alone.
    let heads = rw c.as_mut_slice-next.ensures.value at c.set_head.ensures.heads
    in let on = rw c.as_mut_slice-next.ensures.value at c.set_next.ensures
    in let long = ap (λ (ns : List ℕ). length ns) c.set_next.ensures.are_next
    ∙ length-set c.as_mut_slice-next.result.now _ _
    in let whole = written_vec c.args.state.now.next c.as_mut_slice-next.result.now c.set_next.new.next
    c.as_mut_slice-next.ensures.value long
    in rw whole (struck_kept kept alone (put_is c.args.grid.now (g.L.StateLanes.heads c.args.state.now.lanes)
    (get_or c.args.state.now.next.items c.args.job 0) 0 heads c.set_head.ensures.ends) on.are_next on.ends)
