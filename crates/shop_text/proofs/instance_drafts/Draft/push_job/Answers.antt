use Rattle.std.proofs.Common.{ap, ◌∙◌}
use Rattle.shop_text.proofs.DraftLemmas.{ok_since, all_there}
use Rattle.shop_text.proofs.instance_drafts.Draft.push_job.Goals as goal

pub unwrap-requires : goal.unwrap-requires
unwrap-requires c =
    let draft = c.args.self.now
    in ok_since c.of_jobs.result c.of_jobs.ensures.refused
    (all_there draft.jobs_wanted draft.machines draft.times.items draft.jobs.items c.replace-jobs.result.items
    c.args.job
    draft.within c.requires.some c.requires.within (ap (λ v. v.items) c.replace-jobs.ensures.value
    ∙ c.in_ok-push.ensures.items))
