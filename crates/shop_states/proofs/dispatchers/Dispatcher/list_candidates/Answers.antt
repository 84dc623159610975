use Rattle.std.proofs.Common.{arith, ◌≡◌, ℕ, List, refl, subst}
use Rattle.shop_model.specs.Shop.{Shop}
use Rattle.shop_layout.specs.{Lanes.rows_of, Positions.LayoutState}
use Rattle.shop_states.specs.{declared.states.Candidate.Candidate, inner.Candidates.AreCandidatesOf}
use Rattle.shop_states.{specs.inner.LaneStates.IsKeptInLanes, proofs.AskedStates.{kept_of, listed_there}}
use Rattle.shop_states.proofs.{KeptRoom.{long_kept, room_of}, ReadStates.kept_read}
use Rattle.shop_states.proofs.dispatchers.Dispatcher.list_candidates.Goals as goal

gathered : (greatest : ℕ) (shop : Shop) (l read : LayoutState) → read ≡ l → (heads ends nexts : List ℕ)
    → (limit : ℕ) (cs : List Candidate) (others : ℕ)
    → ((s : Shop) (w : List ℕ) → IsKeptInLanes greatest s w read (rows_of read heads ends) nexts
    → AreCandidatesOf s w read limit cs others)
    → (w : List ℕ) → IsKeptInLanes greatest shop w l (rows_of l heads ends) nexts
    → AreCandidatesOf shop w l limit cs others
gathered greatest shop l read is heads ends nexts limit cs others are w kept =
    subst (λ (x : LayoutState). AreCandidatesOf shop w x limit cs others) is (are shop w (kept_read is refl kept))

pub list_candidates-requires-clause-can : goal.list_candidates-requires-clause-can
list_candidates-requires-clause-can g c =
    let state = rw (← c.self.view_is) at c.requires.state
    in record {
      shop = c.self.inside.laid_out.shop;
      word = state.word;
      kept = kept_read c.grid.ensures.grid refl (kept_of state.is).kept;
    }

pub returns-clause-listed : goal.returns-clause-listed
returns-clause-listed g c = rw (← c.self.view_is) (λ w of. listed_there (kept_of of)
    (gathered g.L.StateLanes.GREATEST c.self.inside.laid_out.shop
    c.self.inside.laid_out.layout c.grid.result.now c.grid.ensures.grid (g.L.StateLanes.heads c.args.state.now.lanes)
    (g.L.StateLanes.ends c.args.state.now.lanes) c.args.state.now.next.items c.args.limit
    c.list_candidates.new.candidates.items c.list_candidates.result c.list_candidates.ensures.are w (kept_of of).kept))

pub invariant_of-self : goal.invariant_of-self
invariant_of-self g c = grind (arith, long_kept)

pub list_candidates-requires-clause-room : goal.list_candidates-requires-clause-room
list_candidates-requires-clause-room g c =
    let has = rw (← c.self.view_is) at c.requires.state in let room = rw (← c.self.view_is) at c.requires.room
    in let long = (room_of has.is).room.jobs_with_nexts in let jobs = c.grid.ensures.renumbered.jobs in omega arith
