use Rattle.std.proofs.Common.{◌≡◌, ◌<◌, ◌≤◌, ◌-◌, [], ◌∷◌, ◌++◌, None, ap, get_or, sym, ◌∙◌, subst, append-nil, arith}
use Rattle.std.{proofs.Common.{length, refl}, specs.List.insert}
use Rattle.shop_model.proofs.WordLengths.{word_length}
use Rattle.shop_bound.specs.Bound.{lb}
use Rattle.shop_states.specs.declared.states.Candidate.{Candidate}
use Rattle.shop_tree.{specs.inner.Tried.{AreRoomsFrom, HasPutChildren}, proofs.AddLemmas.conflict_few}
use Rattle.shop_tree.proofs.{StripLemmas.{are_rooms, many, tried_kept}, SiblingLemmas.{bounded_stays, branching_stays}}
use Rattle.shop_tree.proofs.{SiblingLemmas.{put_given, settled_bound, settled_child}, TrialLemmas.IsTrying}
use Rattle.shop_tree.proofs.TrialLemmas.{trying_begins, next_own, next_fits, turn_counted, turn_kept, told_high}
use Rattle.shop_tree.proofs.TrialLemmas.{all_tried}
use Rattle.shop_states.specs.inner.WordStates.{IsCandidate, IsRoom, IsStateOf}
use Rattle.shop_states.proofs.KeptRoom.{room_of}
use Rattle.shop_states.proofs.AskedStates.{limits_of, word_of}
use Rattle.shop_tree.proofs.walk_states.WalkStates.settle_candidates.Goals as goal

pub overflow_cast-depth : goal.overflow_cast-depth
overflow_cast-depth g c = grind (arith, word_length)

pub loop-index-init : goal.loop-index-init
loop-index-init g c = record {
  kids = [];
  stack = sym (append-nil _);
  trying = trying_begins c.requires.branching.listed c.requires.branching.state;
  branching = c.requires.branching;
  bounded = c.requires.bounded;
  more = omega arith;
  same = refl;
}

pub overflow_add-closed : goal.overflow_add-closed
overflow_add-closed g c =
    let d = c.loop-index.self.dispatcher.laid_out in let now = c.loop-index.invariant in let a = now.trying.few
    in let limits = limits_of now.branching.state
    in let b = conflict_few (d.asked) c.args.branching.now.word.now in let e = limits.jobs
    in let some = c.loop-index-test.true in omega arith

pub overflow_add-closed-in_default : goal.overflow_add-closed-in_default
overflow_add-closed-in_default g c =
    let d = c.loop-index.self.dispatcher.laid_out in let now = c.loop-index.invariant in let a = now.trying.few
    in let limits = limits_of now.branching.state
    in let b = conflict_few (d.asked) c.args.branching.now.word.now in let e = limits.jobs
    in let some = c.loop-index-test.true in omega arith

pub loop-index-preserved-in_ok-put : goal.loop-index-preserved-in_ok-put
loop-index-preserved-in_ok-put g c =
    let now = c.loop-index.invariant in let d = c.loop-index.self.dispatcher.laid_out
    in let is = IsStateOf g.L.StateLanes d in let shop = d.asked
    in let at = c.args.branching.now in let word = at.word.now in let cs = at.candidates.now
    in let i = c.loop-index.index
    in let some : 0 < i = (let a = c.loop-index-test.true in omega arith)
    in let none : Candidate = record { job = 0; own = 0 }
    in let job = (get_or cs (i - 1) none).job
    in let b = c.max-least.result
    in let within : i - 1 < length cs = (let a = now.trying.within in omega arith)
    in let told = settled_bound shop word at.bound c.args.top cs now.bounded.settled (i - 1) none within b
    c.max-least.ensures c.if-top-least.true
    in let child = settled_child is shop word at.limit job b told c.if-least-limit.true
    in let e : c.len-from.result ≡ length c.args.stack.now.items =
    (let a = c.len-from.ensures in let k = c.args.stack.now.ok.0 in omega arith)
    in let put = c.in_ok-put.ensures c.args.stack.now.items now.kids e now.stack
    in record {
      kids = insert now.kids put.at
          (record { «open» = record { depth = length word; job = job; bound = b }; state = None });
      stack = put.put;
      trying = turn_kept some now.trying c.loop-index.self.current.value
          (word_of now.branching.state) child put (λ more. now.branching.state);
      branching = now.branching;
      bounded = now.bounded;
      more = now.more;
      same = now.same;
    }

pub loop-index-preserved-else-least-limit : goal.loop-index-preserved-else-least-limit
loop-index-preserved-else-least-limit g c =
    let now = c.loop-index.invariant in let d = c.loop-index.self.dispatcher.laid_out
    in let shop = d.asked in let at = c.args.branching.now in let word = at.word.now
    in let cs = at.candidates.now in let i = c.loop-index.index
    in let some : 0 < i = (let a = c.loop-index-test.true in omega arith)
    in let none : Candidate = record { job = 0; own = 0 }
    in let job = (get_or cs (i - 1) none).job
    in let b = c.max-least.result
    in let within : i - 1 < length cs = (let a = now.trying.within in omega arith)
    in let told = settled_bound shop word at.bound c.args.top cs now.bounded.settled (i - 1) none within b
    c.max-least.ensures c.if-top-least.true
    in let high : at.limit ≤ lb shop (word ++ job ∷ []) = (let a = c.if-least-limit.false in omega arith)
    in record {
      kids = now.kids;
      stack = now.stack;
      trying = turn_counted some now.trying c.loop-index.self.current.value high (λ more. now.branching.state);
      branching = now.branching;
      bounded = now.bounded;
      more = (let a = now.more in omega arith);
      same = now.same;
    }

pub try_child-requires : goal.try_child-requires
try_child-requires g c =
    let now = c.loop-index.invariant in let word = c.args.branching.now.word.now in let i = c.loop-index.index
    in let some : 0 < i = (let a = c.loop-index-test.true in omega arith)
    in let none : Candidate = record { job = 0; own = 0 }
    in let within : i - 1 < length c.args.branching.now.candidates.now = (let a = now.trying.within in omega arith)
    in record {
      can = record {
        word = word;
        is = ((now.branching.state, next_own some now.trying), now.bounded.known (i - 1) none within);
        fits = next_fits some now.trying
            (word_of now.branching.state);
        bound_is = now.branching.bound;
      };
    }

pub loop-index-preserved-in_default : goal.loop-index-preserved-in_default
loop-index-preserved-in_default g c =
    let now = c.loop-index.invariant in let d = c.loop-index.self.dispatcher.laid_out
    in let at = c.args.branching.now in let word = at.word.now in let cs = at.candidates.now
    in let i = c.loop-index.index
    in let some : 0 < i = (let a = c.loop-index-test.true in omega arith)
    in let job = (get_or cs (i - 1) (record { job = 0; own = 0 })).job
    in let high = told_high at.limit (lb (d.asked) (word ++ job ∷ [])) c.try_child.result
    c.in_default.is (c.try_child.ensures.taken.bounded word (now.branching.state, next_own some now.trying)
    now.branching.bound)
    in let left = c.try_child.new.self.current.value in let same = ap (λ x. x.laid_out) c.try_child.ensures.dispatcher
    in let state = subst (λ s. IsStateOf g.L.StateLanes d word s) (sym c.try_child.ensures.current) now.branching.state
    in record {
      kids = now.kids;
      stack = now.stack;
      trying = rw same (turn_counted some now.trying left high (λ more. state));
      branching = branching_stays same c.try_child.ensures.current now.branching;
      bounded = bounded_stays same (ap (λ x. x.ceilings) c.try_child.ensures.dispatcher) now.bounded;
      more = (let a = now.more in omega arith);
      same = same ∙ now.same;
    }

pub put_tried-requires-clause-rooms : goal.put_tried-requires-clause-rooms
put_tried-requires-clause-rooms g c =
    let now = c.loop-index.invariant in let d = c.loop-index.self.dispatcher.laid_out
    in let room = IsRoom g.L.StateLanes
    in let a = c.len-from.ensures in let b = c.args.stack.now.ok.0
    in subst (λ x. AreRoomsFrom (room x) c.len-from.result c.loop-index.stack.items)
    (sym (ap (λ x. x.laid_out) c.try_child.ensures.dispatcher))
    (are_rooms c.args.stack.now.items now.kids c.len-from.result (omega arith) c.loop-index.stack.items now.stack
    (IsStateOf g.L.StateLanes d) _ now.trying.states (room d) (λ w s. room_of))

pub put_tried-requires-clause-from : goal.put_tried-requires-clause-from
put_tried-requires-clause-from g c =
    let now = c.loop-index.invariant in let a = c.len-from.ensures in let b = c.args.stack.now.ok.0
    in let long = many c.args.stack.now.items now.kids c.len-from.result (omega arith)
    c.loop-index.stack.items now.stack in omega arith

pub loop-index-preserved : goal.loop-index-preserved
loop-index-preserved g c =
    let now = c.loop-index.invariant in let d = c.loop-index.self.dispatcher.laid_out
    in let at = c.args.branching.now in let word = at.word.now in let cs = at.candidates.now
    in let i = c.loop-index.index
    in let some : 0 < i = (let a = c.loop-index-test.true in omega arith)
    in let e : c.len-from.result ≡ length c.args.stack.now.items =
    (let a = c.len-from.ensures in let b = c.args.stack.now.ok.0 in omega arith)
    in let left = c.put_tried.new.self.current.value
    in let same = c.put_tried.ensures.laid_out ∙ ap (λ x. x.laid_out) c.try_child.ensures.dispatcher
    in let current = c.in_ok-put_tried.ensures.current ∙ c.try_child.ensures.current
    in let state = subst (IsStateOf g.L.StateLanes d word) (sym current) now.branching.state
    in let kept = tried_kept some now.trying e now.stack c.in_ok-put_tried.ensures.put c.in-Some.is
    (c.try_child.ensures.taken.bounded word (now.branching.state, next_own some now.trying) now.branching.bound)
    (c.try_child.ensures.taken.state word (now.branching.state, next_own some now.trying))
    (word_of now.branching.state) left (λ more. state)
    in record {
      kids = kept.kids;
      stack = kept.stack;
      trying = subst (λ x. IsTrying (IsStateOf g.L.StateLanes x) (IsCandidate x word)
          (x.asked) at.limit word cs (i - 1) kept.kids c.loop-index.closed left)
          (sym same) kept.trying;
      branching = branching_stays same current now.branching;
      bounded = bounded_stays same (ap (λ x. x.ceilings)
          (c.in_ok-put_tried.ensures.dispatcher ∙ c.try_child.ensures.dispatcher)) now.bounded;
      more = now.more;
      same = same ∙ now.same;
    }

pub returns-clause-children : goal.returns-clause-children
returns-clause-children g c =
    let at = c.args.branching.now in let word = at.word.now in let old = c.args.stack.now.items
    in let mid = c.loop-index.stack.items in let new = c.give_current.new.stack.items
    in let now = c.loop-index.invariant in let d = c.loop-index.self.dispatcher.laid_out
    in let is = IsStateOf g.L.StateLanes d
    in let e : c.len-from.result ≡ length old =
    (let a = c.len-from.ensures in let b = c.args.stack.now.ok.0 in omega arith)
    in let put = all_tried c.loop-index.index now.kids c.loop-index.closed c.loop-index.self.current.value old mid
    (let a = c.loop-index-test.false in omega arith) now.stack now.trying
    in record {
      put = subst (λ x. HasPutChildren (IsStateOf g.L.StateLanes x) (x.asked) at.limit word old new
          c.loop-index.closed) now.same (put_given is (d.asked) at.limit word old mid new
          c.loop-index.closed c.len-from.result e put c.in_ok-give_current.ensures.given);
      more = now.more;
    }

pub put-requires : goal.put-requires
put-requires g c = let now = c.loop-index.invariant in let a = c.len-from.ensures in let b = c.args.stack.now.ok.0
    in let long = many c.args.stack.now.items now.kids c.len-from.result (omega arith)
    c.loop-index.stack.items now.stack in omega arith

pub returns-in_err-put_tried-clause-laid_out : goal.returns-in_err-put_tried-clause-laid_out
returns-in_err-put_tried-clause-laid_out g c = c.put_tried.ensures.laid_out
    ∙ (ap (λ x. x.laid_out) c.try_child.ensures.dispatcher ∙ c.loop-index.invariant.same)

pub returns-in_err-give_current-clause-laid_out : goal.returns-in_err-give_current-clause-laid_out
returns-in_err-give_current-clause-laid_out g c = c.give_current.ensures.laid_out ∙ c.loop-index.invariant.same

pub returns-clause-laid_out : goal.returns-clause-laid_out
returns-clause-laid_out g c = c.give_current.ensures.laid_out ∙ c.loop-index.invariant.same

pub returns-in_err-put-clause-laid_out : goal.returns-in_err-put-clause-laid_out
returns-in_err-put-clause-laid_out g c = c.loop-index.invariant.same
