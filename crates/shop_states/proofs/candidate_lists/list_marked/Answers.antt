use Rattle.std.proofs.Common.{ℕ, ◌≡◌, ◌<◌, ◌+◌, ◌-◌, List, ◌++◌, ◌∷◌, [], inl, inr, ltb, length, map, set, take, arith}
use Rattle.std.proofs.Common.{refl, sym, ◌∙◌, ap, subst, append_assoc}
use Rattle.std.proofs.lemmas.List.{append-nil, get_or-map, length-append, length-set}
use Rattle.shop_states.specs.declared.{candidate_lists.Tally.Tally, states.Candidate.Candidate}
use Rattle.shop_states.specs.inner.{Candidates.{ListsOwn, told_at}, RisingLists.IsIn}
use Rattle.shop_states.proofs.Listing.{at_most_one, ended, one_more}
use Rattle.shop_states.proofs.candidate_lists.list_marked.Goals as goal

pub loop-job-init : goal.loop-job-init
loop-job-init g c =
    let own : ℕ → ℕ = told_at c.args.next.now c.args.first (map g.L.StateLanes.value c.args.owns.now)
    in let before = c.args.before
    in (
      [],
      record {
        all = refl;
        told = c.requires.told;
        listed = λ js h. subst (λ (ks : List ℕ). ListsOwn c.args.limit own ks
            (take before.listed c.args.list.now) (before.seen - before.listed)) (sym (append-nil js)) h;
        tally = c.requires.tally;
        seen = omega arith;
        room = refl;
      },
    )

pub bounds-next-job : goal.bounds-next-job
bounds-next-job g c = (c.loop-job.invariant.1.told c.in-Some.job
    (subst (λ (js : List ℕ). IsIn js c.in-Some.job) (sym c.in-Some.ensures) (inl refl))).job

pub offset_bounds-next-job : goal.offset_bounds-next-job
offset_bounds-next-job g c =
    let known = (c.loop-job.invariant.1.told c.in-Some.job
    (subst (λ (js : List ℕ). IsIn js c.in-Some.job) (sym c.in-Some.ensures) (inl refl))).job
    in let small = c.requires.small in omega arith

pub loop-job-preserved : goal.loop-job-preserved
loop-job-preserved g c =
    let own : ℕ → ℕ = told_at c.args.next.now c.args.first (map g.L.StateLanes.value c.args.owns.now)
    in let now = c.loop-job.invariant.1
    in let done = c.loop-job.invariant.0
    in let job = c.in-Some.job
    in let candidate : Candidate = record { job = job; own = c.own_time-own.result }
    in let own_is : c.own_time-own.result ≡ own job = grind (arith, get_or-map)
    in let tally : Tally = c.loop-job.tally
    in let list = c.loop-job.list
    in let room : tally.listed < length list =
    (let all = ap length now.all in let parts = length-append done c.loop-job.left
    in let left = ap length c.in-Some.ensures in let room = c.requires.room in let seen = now.seen
    in let before = now.tally in let long = now.room in omega arith)
    in (
      done ++ job ∷ [],
      record {
        all = grind (arith, append_assoc);
        told = λ j h. now.told j (subst (λ (js : List ℕ). IsIn js j) (sym c.in-Some.ensures) (inr h));
        listed = λ js h. subst (λ (ks : List ℕ). ListsOwn c.args.limit own ks
            (take (tally.listed + c.from.result) (set list tally.listed candidate))
            (tally.seen + 1 - (tally.listed + c.from.result))) (append_assoc js done (job ∷ []))
            (one_more c.args.limit own (js ++ done) list tally.seen tally.listed c.from.result candidate now.tally room
            c.from.ensures own_is (now.listed js h));
        tally = (let one = at_most_one (ltb c.own_time-own.result c.args.limit) in let more = c.from.ensures
            in let before = now.tally in omega arith);
        seen = (let longer = length-append done (job ∷ []) in let before = now.seen in omega arith);
        room = length-set list tally.listed candidate ∙ now.room;
      },
    )

pub returns-clause-listed : goal.returns-clause-listed
returns-clause-listed g c = grind (arith, ended)
