use Rattle.std.proofs.{Common.{◌∙◌, arith, sym}, lemmas.List.{take_all, take_more}}
use Rattle.shop_model.proofs.shared_words.set_jobs.Goals as goal

pub loop-job-preserved : goal.loop-job-preserved
loop-job-preserved c = record {
  so_far = rw (c.in_ok-push.ensures.items, c.loop-job.invariant.so_far)
      (sym (take_more c.args.jobs.now c.loop-job.job-index 0 c.loop-job-test.true));
  room = omega (arith, c.loop-job.invariant.room, c.in_ok-push.ensures.capacity);
}

pub returns-clause-list : goal.returns-clause-list
returns-clause-list c = c.loop-job.invariant.so_far ∙ take_all _ c.args.jobs.now c.loop-job-test.false
