use Rattle.std.proofs.Common.{◌≡◌, ℕ, ◌+◌, ◌-◌, ◌*◌, ◌≤◌, ◌<◌, take, refl, sym, ◌∙◌, ap, subst, arith}
use Rattle.shop_runs.specs.{Plans.planned, inner.{Distant.IsRetired, Searches.most_left, Stores.open_list}}
use Rattle.shop_runs.specs.{Limits.IsCountWithin, inner.NodeLists.AreBelow}
use Rattle.shop_runs.specs.declared.plans.TheConstants.{MAX_BUDGET, MAX_PIECES, MAX_ROUNDS}
use Rattle.shop_runs.{specs.Entries.told, proofs.{DistantRuns.near_search, DistantRounds.run_next}}
use Rattle.shop_runs.proofs.OpenCounts.{put_fits, retire_fits}
use Rattle.shop_runs.proofs.runs.OpenRun.next.Goals as goal

one_more : (r n m : ℕ) → IsCountWithin r n → r < MAX_ROUNDS → m ≤ n + MAX_PIECES * MAX_BUDGET → IsCountWithin (r + 1) m
one_more r n m a b d = let e = a.1 in (omega arith, omega arith)

same_count : (r n s m : ℕ) → r ≡ s → n ≡ m → IsCountWithin s m → IsCountWithin r n
same_count r n s m a b d = let e = d.0 in let f = d.1 in (omega arith, omega arith)

pub cut-requires-clause-search : goal.cut-requires-clause-search
cut-requires-clause-search g c =
    let run = c.requires.search
    in let of = near_search c.args.instance.now (planned c.args.plan.now) run.0 c.args.self.now run.1 run.2
    in record {
      standing = of.standing;
      makespan = of.makespan;
      bounds = of.bounds;
      kept = of.kept;
      ordered = of.ordered;
    }

pub returns-clause-next : goal.returns-clause-next
returns-clause-next g c = λ s run standing.
    let plan = planned c.args.plan.now
    in let t = c.args.self.now
    in let cut = c.in_ok-round.ensures.front
    in let same = c.in_ok-round.ensures.distant
    in let others = c.cut.new.self.open
    in let o = c.in_ok-found.field-0
    in let kept = c.keep_below.new.self
    in let less = c.keep_below-2.new.self
    in let more = c.put_left.new.distant
    in let joined = c.put_left.new.self
    in let within = c.args.plan.now.within
    in let before = c.requires.rounds
    in let some : 0 < plan.piece = omega arith
    in let most : (plan.rounds - t.rounds - 1) * (256 * plan.piece) + 1 ≡ most_left plan (t.rounds + 1) =
    ap (λ k. k * (256 * plan.piece) + 1)
    (let e : plan.rounds - t.rounds - 1 ≡ plan.rounds - (t.rounds + 1) = omega arith
    in e)
    in run_next c.args.instance.now plan s t run standing some before c.in_ok-round.round others o kept joined less
    more _
    cut.round c.in_ok-found.ensures (record {
      others_left = cut.left;
      others_order = cut.kept;
      kept_below = c.in_ok-keep_below.ensures;
      less_horizon = c.keep_below-2.ensures.horizon ∙ ap (λ d. d.horizon) same;
      less_counts = c.keep_below-2.ensures.counts ∙ ap (λ d. take o.makespan d.counts.items) same;
      put = c.in_ok-put_left.ensures;
      order = c.in_ok-retire.ensures.order;
      retired = subst (λ k. IsRetired k (open_list joined) more (open_list c.retire.new.self) c.retire.new.distant) most
          c.in_ok-retire.ensures.retired;
      stays = c.in_ok-retire.ensures.kept;
      word = c.unwrap_or.ensures;
      makespan = refl;
      rounds = refl;
      nodes = refl;
    })

pub invariant_of-self-2 : goal.invariant_of-self-2
invariant_of-self-2 g c = record {
  within = one_more c.in_ok-round.round.rounds c.in_ok-round.round.nodes c.in_ok-found.field-0.nodes
      c.in_ok-round.round.counted c.in_ok-round.round.rounds_left c.in_ok-found.ensures.counted;
}

pub keep_below-requires : goal.keep_below-requires
keep_below-requires g c = subst (λ m. AreBelow m (open_list c.cut.new.self.open)) (sym c.cut.ensures.makespan)
    c.in_ok-round.ensures.front.below

pub returns-clause-layout : goal.returns-clause-layout
returns-clause-layout g c = c.in_ok-round.round.layout_of ∙ ap (λ r. r.shop) c.in_ok-round.ensures.front.round

pub invariant_of-self : goal.invariant_of-self
invariant_of-self g c = record {
  within = same_count c.cut.new.self.rounds c.cut.new.self.nodes c.args.self.now.rounds c.args.self.now.nodes
      c.cut.ensures.counts.0 c.cut.ensures.counts.1 c.args.self.now.within;
}

pub put_left-requires : goal.put_left-requires
put_left-requires g c =
    let run = c.requires.search
    in let o = c.in_ok-found.field-0
    in put_fits c.args.instance.now (planned c.args.plan.now) run.0 c.args.self.now run.1 run.2 run.3
    c.keeps_limits.ensures (told c.in_ok-round.round) o c.in_ok-round.ensures.front.round c.in_ok-found.ensures
    c.keep_below-2.new.self
    (c.keep_below-2.ensures.counts ∙ ap (λ d. take o.makespan d.counts.items) c.in_ok-round.ensures.distant)

pub retire-requires : goal.retire-requires
retire-requires g c =
    let run = c.requires.search
    in let o = c.in_ok-found.field-0
    in let cut = c.in_ok-round.ensures.front
    in retire_fits c.args.instance.now (planned c.args.plan.now) run.0 c.args.self.now run.1 run.2 run.3
    c.keeps_limits.ensures (told c.in_ok-round.round) o cut.round c.in_ok-found.ensures c.keep_below-2.new.self
    (c.keep_below-2.ensures.counts ∙ ap (λ d. take o.makespan d.counts.items) c.in_ok-round.ensures.distant)
    c.cut.new.self.open c.keep_below.new.self c.put_left.new.self c.put_left.new.distant (256 * c.args.plan.now.piece)
    cut.left c.in_ok-keep_below.ensures.1 c.in_ok-put_left.ensures
