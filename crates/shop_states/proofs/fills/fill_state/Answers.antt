use Rattle.std.proofs.Common.{◌∙◌, arith}
use Rattle.shop_states.proofs.{FilledJobs.{as_many_ends, at_leg, nexts_all, nexts_more}, PlacedNexts.placement_at}
use Rattle.shop_states.proofs.{FilledStates.{as_many, can_fill, filled_kept}, FillTurns.{jobs_all, jobs_more}}
use Rattle.shop_states.proofs.fills.fill_state.Goals as goal

pub fill_job-requires-clause-fill : goal.fill_job-requires-clause-fill
fill_job-requires-clause-fill g c =
    let can = can_fill c.grid.ensures.ready c.requires.room c.clear.ensures.heads
    {es' = g.L.StateLanes.ends c.clear.new.self}
    in record {
      limits = can.limits;
      laid = can.laid;
      fits = can.fits;
      computable = can.computable;
      positions = c.loop-job.invariant.filled.beside.positions ∙ can.positions;
    }

pub fill_job-requires-clause-ends : goal.fill_job-requires-clause-ends
fill_job-requires-clause-ends g c = as_many_ends c.requires.of c.loop-job.invariant.nexts
    (as_many c.grid.ensures.ready c.requires.room c.clear.ensures.heads c.clear.ensures.ends)

pub fill_job-requires-clause-of : goal.fill_job-requires-clause-of
fill_job-requires-clause-of g c = record {
  placement = placement_at c.args.laid_out.now.layout c.args.next.now c.args.ready.now c.args.free.now;
  at = at_leg c.requires.of c.loop-job.invariant.nexts c.loop-job-test.true;
}

pub loop-job-preserved : goal.loop-job-preserved
loop-job-preserved g c =
    let at = at_leg c.requires.of c.loop-job.invariant.nexts c.loop-job-test.true
    in record {
      filled = jobs_more (can_fill c.grid.ensures.ready c.requires.room c.clear.ensures.heads)
          c.loop-job.invariant.filled (c.fill_job.ensures.heads
          (placement_at c.args.laid_out.now.layout c.args.next.now c.args.ready.now c.args.free.now) at);
      nexts = λ p placed. nexts_more (c.loop-job.invariant.nexts p placed) c.loop-job-test.true
          (c.fill_job.ensures.next
          (placement_at c.args.laid_out.now.layout c.args.next.now c.args.ready.now c.args.free.now) at p placed);
    }

pub returns : goal.returns
returns g c = λ w word at.
    let jobs = c.requires.of.placed.next_jobs in let past = c.loop-job-test.false in let most = c.loop-job.auto.job-end
    in filled_kept c.grid.ensures.ready c.requires.room c.clear.ensures.heads c.clear.ensures.ends
    (jobs_all (can_fill c.grid.ensures.ready c.requires.room c.clear.ensures.heads) c.loop-job.invariant.filled
    (omega arith)) (nexts_all c.requires.of c.loop-job.invariant.nexts (omega arith)) w word at
