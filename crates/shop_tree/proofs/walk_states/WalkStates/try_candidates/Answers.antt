use Rattle.std.proofs.Common.{◌≡◌, ◌<◌, ◌-◌, [], ◌∷◌, ◌++◌, get_or, sym, ◌∙◌, ap, subst, append-nil, arith, length}
use Rattle.shop_model.proofs.WordLengths.{word_length}
use Rattle.shop_bound.specs.Bound.{lb}
use Rattle.shop_tree.{specs.inner.Tried.{AreRoomsFrom, HasPutChildren}, proofs.StripLemmas.{are_rooms, many}}
use Rattle.shop_tree.proofs.{StripLemmas.tried_kept, AddLemmas.conflict_few}
use Rattle.shop_tree.proofs.TrialLemmas.{IsTrying, next_own, next_fits, turn_counted, told_high, still_wanted}
use Rattle.shop_tree.proofs.TrialLemmas.{all_tried, trying_begins}
use Rattle.shop_states.specs.inner.WordStates.{IsCandidate, IsRoom, IsStateOf}
use Rattle.shop_states.proofs.KeptRoom.{room_of}
use Rattle.shop_states.proofs.AskedStates.{limits_of, word_of}
use Rattle.shop_tree.proofs.walk_states.WalkStates.try_candidates.Goals as goal

pub overflow_cast-depth : goal.overflow_cast-depth
overflow_cast-depth g c = grind (arith, word_length)

pub settle_candidates-requires-clause-bounded : goal.settle_candidates-requires-clause-bounded
settle_candidates-requires-clause-bounded g c = grind arith

pub loop-index-init : goal.loop-index-init
loop-index-init g c =
    let branching = c.bound_children.ensures.branching
    in record {
      kids = [];
      stack = sym (append-nil _);
      trying = trying_begins branching.listed branching.state;
      bound = branching.bound;
      more = omega arith;
      same = c.bound_children.ensures.laid_out;
    }

pub overflow_add-closed : goal.overflow_add-closed
overflow_add-closed g c =
    let d = c.loop-index.self.dispatcher.laid_out in let now = c.loop-index.invariant in let a = now.trying.few
    in let some : 0 < c.loop-index.index = (let a = c.loop-index-test.true in omega arith)
    in let word = c.args.branching.now.word.now
    in let limits = limits_of (now.trying.wanted some)
    in let b = conflict_few (d.asked) word in let e = limits.jobs in omega arith

pub try_candidate-requires : goal.try_candidate-requires
try_candidate-requires g c =
    let now = c.loop-index.invariant in let word = c.args.branching.now.word.now
    in let some : 0 < c.loop-index.index = (let a = c.loop-index-test.true in omega arith)
    in let state = now.trying.wanted some
    in record {
      can = record {
        word = word;
        is = (state, next_own some now.trying);
        fits = next_fits some now.trying (word_of state);
        bound_is = now.bound;
      };
    }

pub loop-index-preserved-in_default-try_candidate : goal.loop-index-preserved-in_default-try_candidate
loop-index-preserved-in_default-try_candidate g c =
    let now = c.loop-index.invariant in let d = c.loop-index.self.dispatcher.laid_out
    in let at = c.args.branching.now in let word = at.word.now in let cs = at.candidates.now
    in let i = c.loop-index.index
    in let some : 0 < i = (let a = c.loop-index-test.true in omega arith)
    in let job = (get_or cs (i - 1) (record { job = 0; own = 0 })).job
    in let state = now.trying.wanted some
    in let high = told_high at.limit (lb (d.asked) (word ++ job ∷ [])) c.try_candidate.result
    c.in_default-try_candidate.is
    (c.try_candidate.ensures.taken.bounded word (state, next_own some now.trying) now.bound)
    in let left = c.try_candidate.new.self.current.value in let same = c.try_candidate.ensures.laid_out
    in record {
      kids = now.kids;
      stack = now.stack;
      trying = rw same (turn_counted some now.trying left high
          (still_wanted (IsStateOf g.L.StateLanes d word) i c.try_candidate.ensures.current state));
      bound = now.bound ∙ ap (λ x. lb (x.asked) word) (sym same);
      more = (let a = now.more in omega arith);
      same = same ∙ now.same;
    }

pub put_tried-requires-clause-rooms : goal.put_tried-requires-clause-rooms
put_tried-requires-clause-rooms g c =
    let now = c.loop-index.invariant in let d = c.loop-index.self.dispatcher.laid_out
    in let room = IsRoom g.L.StateLanes
    in let a = c.len-from.ensures in let b = c.args.stack.now.ok.0
    in subst (λ x. AreRoomsFrom (room x) c.len-from.result c.loop-index.stack.items)
    (sym c.try_candidate.ensures.laid_out)
    (are_rooms c.args.stack.now.items now.kids c.len-from.result (omega arith) c.loop-index.stack.items now.stack
    (IsStateOf g.L.StateLanes d) _ now.trying.states (room d) (λ w s. room_of))

pub put_tried-requires-clause-from : goal.put_tried-requires-clause-from
put_tried-requires-clause-from g c =
    let now = c.loop-index.invariant in let a = c.len-from.ensures in let b = c.args.stack.now.ok.0
    in let long = many c.args.stack.now.items now.kids c.len-from.result (omega arith)
    c.loop-index.stack.items now.stack in omega arith

pub loop-index-preserved : goal.loop-index-preserved
loop-index-preserved g c =
    let now = c.loop-index.invariant in let d = c.loop-index.self.dispatcher.laid_out
    in let is = IsStateOf g.L.StateLanes d in let at = c.args.branching.now in let word = at.word.now
    in let i = c.loop-index.index
    in let some : 0 < i = (let a = c.loop-index-test.true in omega arith)
    in let state = now.trying.wanted some
    in let e : c.len-from.result ≡ length c.args.stack.now.items =
    (let a = c.len-from.ensures in let b = c.args.stack.now.ok.0 in omega arith)
    in let left = c.put_tried.new.self.current.value
    in let kept = tried_kept some now.trying e now.stack c.in_ok-put_tried.ensures.put c.in-Some-try_candidate.is
    (c.try_candidate.ensures.taken.bounded word (state, next_own some now.trying) now.bound)
    (c.try_candidate.ensures.taken.state word (state, next_own some now.trying))
    (word_of state) left
    (still_wanted (is word) i (λ f. c.in_ok-put_tried.ensures.current ∙ c.try_candidate.ensures.current f) state)
    in let same = c.put_tried.ensures.laid_out ∙ c.try_candidate.ensures.laid_out
    in record {
      kids = kept.kids;
      stack = kept.stack;
      trying = subst (λ x. IsTrying (IsStateOf g.L.StateLanes x) (IsCandidate x word)
          (x.asked) at.limit word at.candidates.now (i - 1) kept.kids
          c.loop-index.closed left) (sym same) kept.trying;
      bound = now.bound ∙ ap (λ x. lb (x.asked) word) (sym same);
      more = now.more;
      same = same ∙ now.same;
    }

pub returns-clause-children : goal.returns-clause-children
returns-clause-children g c =
    let at = c.args.branching.now in let word = at.word.now in let old = c.args.stack.now.items
    in let new = c.loop-index.stack.items in let now = c.loop-index.invariant
    in record {
      put = subst (λ x. HasPutChildren (IsStateOf g.L.StateLanes x) (x.asked) at.limit word old new
          c.loop-index.closed) now.same (all_tried c.loop-index.index now.kids c.loop-index.closed
          c.loop-index.self.current.value old new (let a = c.loop-index-test.false in omega arith) now.stack
          now.trying);
      more = now.more;
    }

pub returns-in_err-put_tried-clause-laid_out : goal.returns-in_err-put_tried-clause-laid_out
returns-in_err-put_tried-clause-laid_out g c =
    c.put_tried.ensures.laid_out ∙ (c.try_candidate.ensures.laid_out ∙ c.loop-index.invariant.same)
