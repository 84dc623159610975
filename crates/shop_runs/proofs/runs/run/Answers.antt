use Rattle.std.proofs.Common.{◌≡◌, ◌+◌, length, refl, sym, ◌∙◌, subst, arith}
use Rattle.shop_model.specs.Word.{IsFull}
use Rattle.shop_runs.specs.{Answers.answer, Plans.planned, inner.{Searches.in_full, Stores.open_list}}
use Rattle.shop_runs.proofs.{Answering.{word_same, trust_says}, Trusting.{trustworthy, answer_covers}, Ways.says_run}
use Rattle.shop_runs.proofs.OpenCounts.{few_at_end}
use Rattle.shop_runs.proofs.runs.run.Goals as goal

pub place-requires : goal.place-requires
place-requires g c =
    let shop = c.args.instance.now
    in let plan = planned c.args.plan.now
    in let t = c.in_ok-end.end
    in let run = c.in_ok-end.ensures
    in subst (IsFull shop) (sym (word_same shop plan.order (answer shop plan) (in_full t run.distant) run.at))
    (trustworthy shop plan).full

pub returns-clause-says : goal.returns-clause-says
returns-clause-says g c =
    let shop = c.args.instance.now
    in let plan = planned c.args.plan.now
    in let t = c.in_ok-end.end
    in let run = c.in_ok-end.ensures
    in let open_nodes : c.in_ok-stored.stored + c.count-2.result ≡ length (open_list t.open) + length run.distant =
    (let d = c.count-2.ensures run.distant run.are_distant.counted in let n = c.in_ok-stored.ensures.count
    in grind arith)
    in says_run shop plan (answer shop plan) t run (answer_covers shop plan).0 _ refl c.in_ok-table.ensures.table refl
    c.least_bound-bound.ensures open_nodes refl refl

pub returns-clause-trust : goal.returns-clause-trust
returns-clause-trust g c =
    let shop = c.args.instance.now
    in let trust = trust_says shop (planned c.args.plan.now) _ (returns-clause-says g c)
    in let law = c.in_ok-table.ensures.law
    in record { answer_is = trust; shape = law.shape; feasible = law.feasible; ends = law.ends ∙ trust.ends }

pub invariant_of-end-in_err-table : goal.invariant_of-end-in_err-table
invariant_of-end-in_err-table g c = grind arith

-- fewer than 2^64 nodes are open, those that are only counted among them
pub count-requires-2 : goal.count-requires-2
count-requires-2 g c =
    let shop = c.args.instance.now
    in let plan = planned c.args.plan.now
    in let t = c.in_ok-end.end
    in let run = c.in_ok-end.ensures
    in let few = few_at_end shop plan t run c.keeps_limits.ensures
    in (run.distant, run.are_distant.counted, (omega arith))

pub overflow_add-open_nodes : goal.overflow_add-open_nodes
overflow_add-open_nodes g c =
    let run = c.in_ok-end.ensures
    in let few = few_at_end c.args.instance.now (planned c.args.plan.now) c.in_ok-end.end run c.keeps_limits.ensures
    in let d = c.count-2.ensures run.distant run.are_distant.counted
    in let n = c.in_ok-stored.ensures.count
    in omega arith
