use Rattle.std.proofs.Common.{◌≡◌, ◌<◌, ◌∙◌, ℕ, ◌++◌, ◌∷◌, [], List, ap, get_or, length, max, refl, sym, subst, arith}
use Rattle.std.proofs.lemmas.List.{get_or_default}
use Rattle.shop_bound.specs.Bound.{lb}
use Rattle.shop_layout.{specs.{Lanes.rows_of, Positions.LayoutState}, proofs.Written.written_vec}
use Rattle.shop_states.specs.{declared.states.Candidate.Candidate, inner.Advances.IsAdvancing}
use Rattle.shop_states.{specs.inner.Ceilings.AreChildCeilings, proofs.KeptRoom.{buffers_kept, long_kept, room_of}}
use Rattle.shop_states.proofs.{AskedStates.{bound_behind, bound_there, listed_here}, OwnSpans.candidate_advancing}
use Rattle.shop_states.proofs.{ListedCandidates.{are_siblings, listed_at}, ReadStates.{candidate_read, kept_copied}}
use Rattle.shop_states.proofs.AskedStates.{kept_of}
use Rattle.shop_states.proofs.dispatchers.Dispatcher.bound_children.Goals as goal

pub bound_children-requires-clause-can : goal.bound_children-requires-clause-can
bound_children-requires-clause-can g c =
    let can = rw (← c.self.view_is) at c.requires.can
    in record {
      shop = c.self.inside.laid_out.shop;
      word = can.word;
      kept = kept_copied c.grid-grid.ensures.grid c.copy_from.ensures.heads c.copy_from.ensures.ends
          c.as_slice-next.ensures.value (kept_of can.is_word).kept;
      siblings = are_siblings (kept_of can.is_word).kept.kept.word (listed_here (kept_of can.is_word) can.listed);
      bound_is = bound_there (kept_of can.is_word) can.bound_is;
      machines_are = c.self.invariant.machines;
    }

pub returns-clause-bounded : goal.returns-clause-bounded
returns-clause-bounded g c = rw (← c.self.view_is) (λ w limit others of bound_is lists.
    let d = c.self.inside.laid_out in let shop = d.shop
    in let cs = c.args.candidates.now
    in let none : Candidate = record { job = 0; own = 0 }
    in let same : (k : ℕ) (d : Candidate) → k < length cs → (get_or cs k none).job ≡ (get_or cs k d).job =
    λ k d here. ap (λ (x : Candidate). x.job) (get_or_default cs k none d here)
    in let copied = kept_copied c.grid-grid.ensures.grid c.copy_from.ensures.heads c.copy_from.ensures.ends
    c.as_slice-next.ensures.value (kept_of of).kept
    in let siblings = are_siblings (kept_of of).kept.kept.word (listed_here (kept_of of) lists)
    in let bound_there_is = bound_there (kept_of of) bound_is
    in let whole = written_vec c.self.inside.ceilings c.as_mut_slice-ceilings.result.now
    c.bound_children.new.ceilings c.as_mut_slice-ceilings.ensures.value c.bound_children.ensures.long
    in (
      λ k d here enough.
          let own = get_or cs k d
          in let candidate = (listed_at lists k d here).1
          in let advancing = candidate_advancing copied own.job candidate.fits own.own
          (candidate_read c.grid-grid.ensures.grid candidate) c.as_slice-next.result.now refl c.args.bound
          bound_there_is (max c.args.bound own.own) refl
          in let its = subst (λ (j : ℕ). IsAdvancing g.L.StateLanes.GREATEST shop w c.grid-grid.result.now
          (rows_of c.grid-grid.result.now (g.L.StateLanes.heads c.copy_from.new.self) (g.L.StateLanes.ends
          c.copy_from.new.self)) c.as_slice-next.result.now j (max c.args.bound own.own)) (sym (same k d here))
          advancing
          in sym (bound_behind (kept_of of) own.job candidate.fits)
          ∙ subst (λ (j : ℕ). lb shop (w ++ j ∷ []) ≡ max c.args.bound own.own) (same k d here)
          (c.bound_children.ensures.settled shop w copied siblings bound_there_is k (max c.args.bound own.own) here its
          enough),
      λ k e here. record {
        known = subst (λ (xs : List ℕ). AreChildCeilings shop w d.layout (get_or cs k e).job xs)
            (sym whole)
            (subst (λ (l : LayoutState). AreChildCeilings shop w l (get_or cs k e).job c.bound_children.new.ceilings)
            c.grid-grid.ensures.grid
            (subst (λ (j : ℕ). AreChildCeilings shop w c.grid-grid.result.now j c.bound_children.new.ceilings)
            (same k e here) (c.bound_children.ensures.known shop w copied siblings bound_there_is k here)));
      },
    ))

pub invariant_of-self : goal.invariant_of-self
invariant_of-self g c = grind (arith, buffers_kept, long_kept)

pub bound_children-requires-clause-room : goal.bound_children-requires-clause-room
bound_children-requires-clause-room g c = ap length c.as_mut_slice-ceilings.ensures.value
    ∙ (c.self.invariant.ceilings ∙ sym c.self.invariant.machines)

pub copy_from-requires-clause-positions : goal.copy_from-requires-clause-positions
copy_from-requires-clause-positions g c =
    c.requires.room.room.positions ∙ sym (room_of c.requires.can.is_word).room.positions

pub copy_from-requires-clause-jobs : goal.copy_from-requires-clause-jobs
copy_from-requires-clause-jobs g c =
    c.requires.room.room.jobs_with_ends ∙ sym (room_of c.requires.can.is_word).room.jobs_with_ends

pub returns-clause-room : goal.returns-clause-room
returns-clause-room g c = grind arith
