use Rattle.std.specs.{List.All, Prelude.{Option, Some, None, IfSome}}
use Rattle.std.proofs.Common.{◌≡◌, ℕ, ◌<◌, ◌%◌, ◌++◌, ◌∷◌, [], List, ap, arith, get_or, length, sym, subst, ◌∙◌}
use Rattle.shop_model.specs.{Shop.Shop, Word.IsWord}
use Rattle.shop_bound.specs.Conflicts.{conflict}
use Rattle.shop_states.specs.{States.ListsBelow, declared.states.Candidate.Candidate, inner.WordStates.KnowsChild}
use Rattle.shop_states.proofs.{AskedStates.word_of, Candidates.candidate_fits, KeptRoom.room_of}
use Rattle.shop_states.proofs.ListedCandidates.{listed_at}
use Rattle.search_tests.proofs.copies.assert_walk.Goals as goal

picked : {shop : Shop} {w : List ℕ} {limit : ℕ} {is : Candidate → Type 0} {cs : List Candidate} {n : ℕ}
    → IsWord shop w → ListsBelow shop w limit is (conflict shop w) cs n → (i : ℕ) (c : Candidate) → i < length cs
    → c ≡ get_or cs i c → IsWord shop (w ++ c.job ∷ []) × is c
picked {shop} {w} {limit} {is} word lists i c here e =
    let at = listed_at lists i c here
    in (
      subst (λ (x : Candidate). IsWord shop (w ++ x.job ∷ [])) (sym e) (candidate_fits shop w word _ at.0),
      subst is (sym e) at.1,
    )

known_at : (P : Candidate → Type 0) (xs : List Candidate) (o : Option ℕ) (i : ℕ) (c : Candidate) → i < length xs
    → c ≡ get_or xs i c → IfSome o (λ top. All P xs) → IfSome o (λ top. P c)
known_at P xs (Some top) i c here is all = subst P (sym is) (all i c here)
known_at P xs None i c here is all = tt

pub bound_together-together-requires-clause-listed : goal.bound_together-together-requires-clause-listed
bound_together-together-requires-clause-listed g c = (
  c.list_candidates.result,
  rw (ap (λ d. d.laid_out) c.list_candidates.ensures.same, c.as_slice.ensures.value, c.as_slice-listed.ensures)
      (c.list_candidates.ensures.listed c.loop.path.items c.loop.invariant.state),
)

pub dispatch_twice-told-requires-clause-state : goal.dispatch_twice-told-requires-clause-state
dispatch_twice-told-requires-clause-state g c =
    let same = c.bound_together-together.ensures.laid_out ∙ ap (λ d. d.laid_out) c.list_candidates.ensures.same
    in let state = c.loop.invariant.state in let w = c.loop.path.items
    in let some = c.if-count-eq0.false in let count = c.len-count.ensures
    in let its = picked (word_of state) (c.list_candidates.ensures.listed w state) (c.up_to.result % c.len-count.result)
    c.candidate_at-candidate.result (omega arith)
    (rw c.as_slice-listed.ensures at c.candidate_at-candidate.ensures)
    in (
      rw (same, c.as_slice-in-loop.ensures.value, c.bound_together-together.ensures.state) state,
      rw (same, c.as_slice-in-loop.ensures.value) its.1,
    )

pub dispatch_twice-told-requires-clause-known : goal.dispatch_twice-told-requires-clause-known
dispatch_twice-told-requires-clause-known g c =
    let some = c.if-count-eq0.false in let count = c.len-count.ensures
    in rw (c.bound_together-together.ensures.laid_out, c.as_slice-in-loop.ensures.value)
    (known_at (λ x. KnowsChild c.list_candidates.new.self.laid_out c.bound_together-together.new.dispatcher.ceilings
    c.loop.path.items x.job) c.list_candidates.new.candidates.items c.bound_together-together.result
    (c.up_to.result % c.len-count.result) c.candidate_at-candidate.result (omega arith)
    (rw c.as_slice-listed.ensures at c.candidate_at-candidate.ensures)
    (rw (c.as_slice.ensures.value, c.as_slice-listed.ensures) at c.bound_together-together.ensures.known))

pub dispatch_twice-told-requires-clause-fits : goal.dispatch_twice-told-requires-clause-fits
dispatch_twice-told-requires-clause-fits g c =
    let same = c.bound_together-together.ensures.laid_out ∙ ap (λ d. d.laid_out) c.list_candidates.ensures.same
    in let state = c.loop.invariant.state in let w = c.loop.path.items
    in let some = c.if-count-eq0.false in let count = c.len-count.ensures
    in let its = picked (word_of state) (c.list_candidates.ensures.listed w state) (c.up_to.result % c.len-count.result)
    c.candidate_at-candidate.result (omega arith)
    (rw c.as_slice-listed.ensures at c.candidate_at-candidate.ensures)
    in rw (same, c.as_slice-in-loop.ensures.value) its.0

pub dispatch_twice-told-requires-clause-placed : goal.dispatch_twice-told-requires-clause-placed
dispatch_twice-told-requires-clause-placed g c =
    let same = c.bound_together-together.ensures.laid_out ∙ ap (λ d. d.laid_out) c.list_candidates.ensures.same
    in rw (same, c.as_slice-in-loop.ensures.value, c.bound_together-together.ensures.placed) c.loop.invariant.placed

pub dispatch_twice-told-requires-clause-settled : goal.dispatch_twice-told-requires-clause-settled
dispatch_twice-told-requires-clause-settled g c =
    let same = c.bound_together-together.ensures.laid_out ∙ ap (λ d. d.laid_out) c.list_candidates.ensures.same
    in rw (same, c.as_slice-in-loop.ensures.value, c.bound_together-together.ensures.settled) c.loop.invariant.settled

pub loop-preserved-in_default : goal.loop-preserved-in_default
loop-preserved-in_default g c =
    let listed = ap (λ d. d.laid_out) c.list_candidates.ensures.same
    in let together = c.bound_together-together.ensures.laid_out ∙ listed
    in let twice = ap (λ d. d.laid_out) c.dispatch_twice-told.ensures.dispatcher
    in let first = ap (λ d. d.laid_out) c.fill-in_default.ensures.same
    in let second = ap (λ d. d.laid_out) c.fill-in_default-2.ensures.same
    in let fills = second ∙ first in let before = fills ∙ twice in let all = before ∙ together
    in let was = c.loop.invariant
    in record {
      state = rw (all, c.dispatch_twice-told.ensures.first ∙ c.bound_together-together.ensures.state) was.state;
      bound = rw all was.bound;
      direct = rw before c.dispatch_twice-told.ensures.direct;
      placed = rw fills (rw c.as_slice-in_default.ensures.value at c.fill-in_default.ensures.state);
      settled = rw second (rw c.as_slice-in_default-2.ensures.value at c.fill-in_default-2.ensures.state);
      room = rw all (let a = was.room in let b = c.list_candidates.ensures.room in omega arith);
      others = rw all was.others;
    }

pub fill-requires-in_default-2-clause-room : goal.fill-requires-in_default-2-clause-room
fill-requires-in_default-2-clause-room g c =
    rw (ap (λ d. d.laid_out) c.fill-in_default.ensures.same ∙ ap (λ d. d.laid_out)
    c.dispatch_twice-told.ensures.dispatcher) (room_of c.dispatch_twice-told.ensures.alike)

pub loop-preserved : goal.loop-preserved
loop-preserved g c =
    let listed = ap (λ d. d.laid_out) c.list_candidates.ensures.same
    in let together = c.bound_together-together.ensures.laid_out ∙ listed
    in let twice = ap (λ d. d.laid_out) c.dispatch_twice-told.ensures.dispatcher
    in let first = ap (λ d. d.laid_out) c.list_candidates-in-loop.ensures.same
    in let second = ap (λ d. d.laid_out) c.list_candidates-in-loop-2.ensures.same
    in let third = ap (λ d. d.laid_out) c.list_candidates-in-loop-3.ensures.same
    in let filled = ap (λ d. d.laid_out) c.fill-in-loop.ensures.same
    in let last = ap (λ d. d.laid_out) c.list_candidates-in-loop-4.ensures.same
    in let lists = last ∙ (filled ∙ (third ∙ (second ∙ first))) in let before = lists ∙ twice
    in let all = before ∙ together
    in let was = c.loop.invariant
    in let pushed : c.push.new.self.items ≡ c.loop.path.items ++ c.candidate_at-candidate.result.job ∷ [] = grind arith
    in record {
      state = rw (before, pushed, c.swap.ensures.x_after)
          (rw c.as_slice-in-loop.ensures.value at c.in-Some.ensures.same);
      bound = rw (before, pushed) (rw c.as_slice-in-loop.ensures.value at c.in-Some.ensures.told.0);
      direct = rw (last ∙ filled, c.swap.ensures.y_after) (room_of c.fill-in-loop.ensures.state);
      placed = rw (before, pushed) (rw c.as_slice-in-loop.ensures.value at c.in-Some.ensures.placed);
      settled = rw (before, pushed) (rw c.as_slice-in-loop.ensures.value at c.dispatch_twice-told.ensures.alike);
      room = rw all (let a = was.room in let b = c.list_candidates.ensures.room
          in let e = c.list_candidates-in-loop.ensures.room in omega arith);
      others = rw all (let a = was.others in let b = c.list_candidates-in-loop-2.ensures.room
          in let e = c.list_candidates-in-loop-3.ensures.room in let f = c.list_candidates-in-loop-4.ensures.room
          in omega arith);
    }

pub fill-requires-in-loop-clause-room : goal.fill-requires-in-loop-clause-room
fill-requires-in-loop-clause-room g c =
    let listed = ap (λ d. d.laid_out) c.list_candidates.ensures.same
    in let together = c.bound_together-together.ensures.laid_out ∙ listed
    in let twice = ap (λ d. d.laid_out) c.dispatch_twice-told.ensures.dispatcher
    in let first = ap (λ d. d.laid_out) c.list_candidates-in-loop.ensures.same
    in let second = ap (λ d. d.laid_out) c.list_candidates-in-loop-2.ensures.same
    in let third = ap (λ d. d.laid_out) c.list_candidates-in-loop-3.ensures.same
    in rw (
      (third ∙ (second ∙ first)) ∙ (twice ∙ together),
      c.dispatch_twice-told.ensures.first
          ∙ c.bound_together-together.ensures.state,
    ) (room_of c.loop.invariant.state)

pub fill-requires-in_default-clause-word : goal.fill-requires-in_default-clause-word
fill-requires-in_default-clause-word g c =
    let together = c.bound_together-together.ensures.laid_out ∙ ap (λ d. d.laid_out) c.list_candidates.ensures.same
    in let twice = ap (λ d. d.laid_out) c.dispatch_twice-told.ensures.dispatcher
    in rw (twice ∙ together, c.as_slice-in_default.ensures.value) (word_of c.loop.invariant.state)

pub fill-requires-in_default-2-clause-word : goal.fill-requires-in_default-2-clause-word
fill-requires-in_default-2-clause-word g c =
    let together = c.bound_together-together.ensures.laid_out ∙ ap (λ d. d.laid_out) c.list_candidates.ensures.same
    in let twice = ap (λ d. d.laid_out) c.dispatch_twice-told.ensures.dispatcher
    in let first = ap (λ d. d.laid_out) c.fill-in_default.ensures.same
    in rw (first ∙ (twice ∙ together), c.as_slice-in_default-2.ensures.value) (word_of c.loop.invariant.state)
