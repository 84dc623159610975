use Rattle.std.proofs.{Common.{◌≡◌, ◌++◌, [], Some, sym, ◌∙◌, ap, subst}, lemmas.Result.on_ok_weaker}
use Rattle.shop_nodes.specs.inner.HeldNodes.{nodes_below, halted_nodes}
use Rattle.shop_runs.specs.inner.{Distant.{FitBelow, ArePutOrCounted}, Outcomes.open_of}
use Rattle.shop_runs.proofs.PutLemmas.{all_left, part_put, all_put, own_put, part_fits, own_fits}
use Rattle.shop_runs.proofs.open_nodes.OpenNodes.put_open.Goals as goal

pub returns-in-Some : goal.returns-in-Some
returns-in-Some c =
    let store = c.args.self.now
    in let distant = c.args.distant.now
    in let own = c.parts-own.result.0
    in let untaken = c.parts-own.result.2.now
    in let limit = c.min-limit.result
    in let pending = halted_nodes (Some c.in-Some.halt)
    in let then = c.put_nodes.new
    in let last = c.put_pending.new
    in let all : open_of c.args.left.now ≡ nodes_below own (pending ++ untaken) =
    c.parts-own.ensures.open ∙ ap (λ h. nodes_below own (halted_nodes h ++ untaken)) c.in-Some.is
    in let left = part_put limit (pending ++ untaken) store distant pending untaken store then.self distant then.distant
    (all_left limit (pending ++ untaken) store distant) c.in_ok-put_nodes.ensures
    in on_ok_weaker c.put_pending.result (λ put.
    subst (λ ns. ArePutOrCounted c.args.makespan ns store distant last.self last.distant) (sym all)
    (own_put c.args.makespan own (pending ++ untaken) store last.self distant last.distant
    (subst (λ m. ArePutOrCounted m (pending ++ untaken) store distant last.self last.distant) c.min-limit.ensures
    (all_put limit (pending ++ untaken) store distant last.self last.distant
    (part_put limit (pending ++ untaken) store distant [] pending then.self last.self then.distant last.distant left
    put))))) c.put_pending.ensures

pub returns-in-None : goal.returns-in-None
returns-in-None c =
    let own = c.parts-own.result.0
    in let untaken = c.parts-own.result.2.now
    in let last = c.put_nodes.new
    in let all : open_of c.args.left.now ≡ nodes_below own untaken =
    c.parts-own.ensures.open ∙ ap (λ h. nodes_below own (halted_nodes h ++ untaken)) c.in-None.is
    in subst (λ ns. ArePutOrCounted c.args.makespan ns c.args.self.now c.args.distant.now last.self last.distant)
    (sym all)
    (own_put c.args.makespan own untaken c.args.self.now last.self c.args.distant.now last.distant
    (subst (λ m. ArePutOrCounted m untaken c.args.self.now c.args.distant.now last.self last.distant)
    c.min-limit.ensures c.in_ok-put_nodes.ensures))

pub put_nodes-requires-clause-fits : goal.put_nodes-requires-clause-fits
put_nodes-requires-clause-fits c =
    let pending = halted_nodes c.parts-own.result.1.now
    in let untaken = c.parts-own.result.2.now
    in let own = c.parts-own.result.0
    in let nodes = pending ++ untaken
    in let whole = subst (λ m. FitBelow m nodes c.args.distant.now) (sym c.min-limit.ensures)
    (own_fits c.args.makespan own nodes c.args.distant.now
    (subst (λ ns. FitBelow c.args.makespan ns c.args.distant.now) c.parts-own.ensures.open c.requires))
    in part_fits c.min-limit.result nodes c.args.self.now c.args.distant.now pending untaken c.args.self.now
    c.args.distant.now whole (all_left c.min-limit.result nodes c.args.self.now c.args.distant.now)

pub put_pending-requires-clause-fits : goal.put_pending-requires-clause-fits
put_pending-requires-clause-fits c =
    let pending = halted_nodes (Some c.in-Some.halt)
    in let untaken = c.parts-own.result.2.now
    in let own = c.parts-own.result.0
    in let nodes = pending ++ untaken
    in let store = c.args.self.now
    in let distant = c.args.distant.now
    in let limit = c.min-limit.result
    in let then = c.put_nodes.new
    in let words = c.parts-own.ensures.open ∙ ap (λ h. nodes_below own (halted_nodes h ++ untaken)) c.in-Some.is
    in let whole = subst (λ m. FitBelow m nodes distant) (sym c.min-limit.ensures)
    (own_fits c.args.makespan own nodes distant
    (subst (λ ns. FitBelow c.args.makespan ns distant) words c.requires))
    in part_fits limit nodes store distant [] pending then.self then.distant whole
    (part_put limit nodes store distant pending untaken store then.self distant then.distant
    (all_left limit nodes store distant) c.in_ok-put_nodes.ensures)
