use Rattle.std.proofs.Common.{◌≡◌, ℕ, ◌+◌, ◌<◌, ◌++◌, ◌∷◌, ◌∙◌, [], length, refl, sym, ap, subst, arith}
use Rattle.shop_model.specs.{Limits.IsWithinLimits, Shop.{Shop, operation_count}, Word.IsWord}
use Rattle.shop_model.proofs.WordLengths.{word_length}
use Rattle.shop_bound.specs.{Bound.lb, Conflicts.SoleCandidateKeepsBound}
use Rattle.shop_nodes.specs.{Branching.conflict, declared.halts.Open.Open}
use Rattle.shop_tree.specs.inner.{Held.pending_in, Opens.AreChildren, StateWalkers.{stage_of, AreHeld}, Walkers.Stage}
use Rattle.shop_tree.{specs.inner.Walkers.gone_on, proofs.ExpandLemmas.{HasGone, follows_kept, follows_one}}
use Rattle.shop_tree.proofs.{HeldLemmas.{rest_on_top, states_rest}, ListedLemmas.{alone_closed, alone_fits, alone_kept}}
use Rattle.shop_tree.proofs.{ListedLemmas.{alone_own, few_closed, sole_listed}, StateLemmas.held_on}
use Rattle.shop_tree.proofs.{StateSteps.reached, TrialLemmas.{told_high, told_low, told_state}}
use Rattle.shop_states.specs.inner.WordStates.{IsStateOf}
use Rattle.shop_states.proofs.AskedStates.{limits_of, word_of, sole_of}
use Rattle.shop_tree.proofs.walkers.Walker.go_on.Goals as goal

pub strike-requires : goal.strike-requires
strike-requires g c = record {
  sole = record {
    word = c.args.self.now.path.items;
    is = c.requires.listed.at.state;
    sole = sole_listed c.sole-candidate.ensures c.if-closed-eq0.true c.requires.listed.candidates;
  };
}

pub take_job-requires-clause-held : goal.take_job-requires-clause-held
take_job-requires-clause-held g c =
    let self = c.args.self.now in let e = c.strike.new.self.dispatcher.laid_out
    in held_on (IsStateOf g.L.StateLanes e) self.instance.now self.incumbent self.path.items
    c.sole-candidate.result.job self.stack.items c.requires.listed.at.in_order
    (subst (λ x. AreHeld (IsStateOf g.L.StateLanes x) self.path.items self.stack.items)
    (sym c.strike.ensures.laid_out) c.requires.listed.at.states)

pub take_job-requires-clause-state : goal.take_job-requires-clause-state
take_job-requires-clause-state g c = c.strike.ensures.state c.args.self.now.path.items c.requires.listed.at.state
    (sole_listed c.sole-candidate.ensures c.if-closed-eq0.true c.requires.listed.candidates)

pub returns-then-closed-eq0 : goal.returns-then-closed-eq0
returns-then-closed-eq0 g c =
    let self = c.args.self.now in let d = self.states.dispatcher.laid_out in let shop = self.instance.now
    in let word = self.path.items in let job = c.sole-candidate.result.job in let at = c.requires.listed.at
    in let alone = sole_listed c.sole-candidate.ensures c.if-closed-eq0.true c.requires.listed.candidates
    in let short : length word < operation_count shop =
    (let a = c.requires.listed.short in let b = self.counted in omega arith)
    in let keeps : SoleCandidateKeepsBound shop word = subst (λ (x : Shop). SoleCandidateKeepsBound x word)
    self.same_shop (sole_of at.state)
    in let gone = follows_one (stage_of self) job short
    (ap (λ (x : Shop). conflict x word) (sym self.same_shop) ∙ alone) keeps c.requires.some (let a = at.bound in let b =
    at.below in omega arith) at.in_order
    in reached self c.take_job.new.self c.args.bound
    (subst (λ (t : Stage). HasGone (stage_of self) t c.args.bound) (sym c.take_job.ensures.stage)
    (subst (λ (b : ℕ). HasGone (stage_of self) (gone_on (stage_of self) job) b) (sym at.bound) gone))
    c.take_job.ensures.states c.take_job.ensures.state

pub dispatch_below-requires : goal.dispatch_below-requires
dispatch_below-requires g c =
    let self = c.args.self.now in let d = self.states.dispatcher.laid_out in let word = self.path.items
    in let cand = c.sole-candidate.result
    in let one = c.sole-candidate.ensures
    in let at = c.requires.listed.at
    in record {
      can = record {
        word = word;
        is = (at.state, alone_own one c.requires.listed.candidates);
        fits = alone_fits one c.requires.listed.candidates (word_of at.state);
        bound_is = at.bound ∙ ap (λ (x : Shop). lb x word) (sym self.same_shop);
      };
    }

pub overflow_add-closed : goal.overflow_add-closed
overflow_add-closed g c =
    let self = c.args.self.now in let few = few_closed c.requires.listed.candidates
    in let limits = (limits_of c.requires.listed.at.state).jobs
    in omega arith

pub close-requires-clause-word : goal.close-requires-clause-word
close-requires-clause-word g c = let self = c.args.self.now in subst (λ x. IsWord x self.path.items) self.same_shop
    (word_of c.requires.listed.at.state)

pub close-requires-clause-limits : goal.close-requires-clause-limits
close-requires-clause-limits g c = let self = c.args.self.now in subst IsWithinLimits self.same_shop
    (limits_of c.requires.listed.at.state)

pub close-requires-clause-closed : goal.close-requires-clause-closed
close-requires-clause-closed g c =
    let self = c.args.self.now in let shop = self.states.dispatcher.laid_out.asked
    in let word = self.path.items in let cand = c.sole-candidate.result in let at = c.requires.listed.at
    in let one = c.sole-candidate.ensures
    in let bound = at.bound ∙ ap (λ (x : Shop). lb x word) (sym self.same_shop)
    in let high = told_high self.incumbent (lb shop (word ++ cand.job ∷ [])) c.dispatch_below.result c.in_default.is
    (c.dispatch_below.ensures.taken.bounded word (at.state, alone_own one c.requires.listed.candidates) bound)
    in subst (λ (x : Shop). AreChildren x self.incumbent word [] (c.args.closed + 1)) self.same_shop
    (alone_closed one c.requires.listed.candidates high)

pub close-requires-clause-states : goal.close-requires-clause-states
close-requires-clause-states g c = let self = c.args.self.now
    in let held = subst (λ x. AreHeld (IsStateOf g.L.StateLanes x) self.path.items self.stack.items)
    (sym c.dispatch_below.ensures.laid_out) c.requires.listed.at.states
    in held

pub put_rest-requires : goal.put_rest-requires
put_rest-requires g c =
    let self = c.args.self.now in let d = self.states.dispatcher.laid_out in let word = self.path.items
    in let state = c.requires.listed.at.state
    in let limits = limits_of state
    in let most = word_length (d.asked) word limits
    (word_of state)
    in let few = few_closed c.requires.listed.candidates
    in let jobs = limits.jobs in let b = c.len.ensures in let e = self.path.ok.0
    in record { depth = omega arith; count = omega arith }

pub take_job-requires-2-clause-held : goal.take_job-requires-2-clause-held
take_job-requires-2-clause-held g c =
    let self = c.args.self.now in let is = IsStateOf g.L.StateLanes self.states.dispatcher.laid_out
    in let next = self.path.items ++ c.sole-candidate.result.job ∷ [] in let at = c.requires.listed.at
    in let longer = held_on is self.instance.now self.incumbent self.path.items c.sole-candidate.result.job
    self.stack.items at.in_order at.states
    in subst (λ x. AreHeld (IsStateOf g.L.StateLanes x) next c.put_rest.new.stack.items)
    (sym c.dispatch_below.ensures.laid_out) (subst (λ hs. AreHeld is next hs) (sym c.in_ok-put_rest.ensures)
    (states_rest self.stack.items is next c.len.result c.args.closed longer))

pub take_job-requires-2-clause-state : goal.take_job-requires-2-clause-state
take_job-requires-2-clause-state g c =
    let self = c.args.self.now in let word = self.path.items in let cand = c.sole-candidate.result
    in let one = c.sole-candidate.ensures
    in let is = IsStateOf g.L.StateLanes in let after = c.dispatch_below.new.self.current.value
    in subst (λ x. is x (word ++ cand.job ∷ []) after) (sym c.dispatch_below.ensures.laid_out)
    (told_state (is self.states.dispatcher.laid_out (word ++ cand.job ∷ []) after) c.in-Some.bound
    c.dispatch_below.result c.in-Some.is (c.dispatch_below.ensures.taken.state word
    (c.requires.listed.at.state, alone_own one c.requires.listed.candidates)))

pub returns : goal.returns
returns g c =
    let self = c.args.self.now in let d = self.states.dispatcher.laid_out in let shop = d.asked
    in let word = self.path.items in let cand = c.sole-candidate.result
    in let one = c.sole-candidate.ensures
    in let at = c.requires.listed.at
    in let bound = at.bound ∙ ap (λ (x : Shop). lb x word) (sym self.same_shop)
    in let own = alone_own one c.requires.listed.candidates
    in let is_word = (word_of at.state)
    in let low = told_low self.incumbent (lb shop (word ++ cand.job ∷ [])) c.in-Some.bound c.dispatch_below.result
    c.in-Some.is (c.dispatch_below.ensures.taken.bounded word (at.state, own) bound)
    in let o : Open = record { depth = length word; job = cand.job; bound = c.in-Some.bound }
    in let kids : AreChildren self.instance.now self.incumbent word (o ∷ []) c.args.closed =
    subst (λ (x : Shop). AreChildren x self.incumbent word (o ∷ []) c.args.closed) self.same_shop
    (alone_kept one c.requires.listed.candidates o is_word refl refl low.0 low.1)
    in let short : length word < operation_count self.instance.now = (let a = c.requires.listed.short
    in let b = self.counted in omega arith)
    in let new = c.put_rest.new.stack.items
    in let depth : c.len.result ≡ length word = (let a = c.len.ensures in let b = self.path.ok.0 in omega arith)
    in let gone = follows_kept (stage_of self) o c.args.closed (pending_in new)
    (subst (λ (x : Shop). IsWord x word) self.same_shop is_word) short kids refl
    (low.0 ∙ ap (λ (x : Shop). lb x (word ++ cand.job ∷ [])) self.same_shop) low.1 c.requires.some at.in_order
    (rest_on_top self.stack.items word c.args.closed depth c.in_ok-put_rest.ensures)
    in reached self c.take_job-2.new.self c.in-Some.bound
    (subst (λ (t : Stage). HasGone (stage_of self) t c.in-Some.bound) (sym c.take_job-2.ensures.stage) gone)
    c.take_job-2.ensures.states c.take_job-2.ensures.state
