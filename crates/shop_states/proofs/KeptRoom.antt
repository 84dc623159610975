-- A state after a dispatch has as much room as before, and so have buffers.
use Rattle.std.proofs.{Common.{◌≡◌, ◌∙◌, ℕ, List, ap, length, sym, take, drop, ◌++◌}, lemmas.List.length-set}
use Rattle.std.specs.{Prelude.Vec, declared.alloc.Global.Global}
use Rattle.shop_lanes.specs.{Rows.Rows, declared.state_lanes.StateLanes.Ghosts}
use Rattle.shop_model.specs.Shop.{Shop}
use Rattle.shop_layout.{proofs.Written.written_vec, specs.{LaidOuts.LaidOutState, Positions.LayoutState}}
use Rattle.shop_states.specs.{declared.beginnings.Beginning.Beginning, inner.{AskedStates.IsKeptFor, LaneRaises.Raise}}
use Rattle.shop_states.specs.inner.{Buffers.AreBuffersOf, LaneStates.{GoesOn, HasRoom}, MachineRaises.AreEmpty}
use Rattle.shop_states.specs.{declared.states.State.State, inner.WordStates.{IsRoom, IsStateOf}}
use Rattle.shop_states.proofs.AskedStates.{kept_of}

-- so does a vector whose slice was written
pub long_kept : {A : Type 0} (v : Vec A Global) {given : List A} (after : List A) {n : ℕ} → given ≡ v.items
    → length v.items ≡ n → length after ≡ n → length (take v.len (after ++ drop (length after) v.items)) ≡ n
long_kept v {given} after read was long =
    ap length (written_vec v given after read (long ∙ sym (ap length read ∙ was))) ∙ long

module _ {greatest : ℕ} {d : LaidOutState} {w : List ℕ} {rows : Rows} {nexts : List ℕ}
    (of : IsKeptFor greatest d w rows nexts) where
  pub room_kept : (heads ends after : List ℕ) → length heads ≡ length rows.heads → length ends ≡ length rows.ends
      → length after ≡ length nexts → HasRoom d.shop d.layout heads ends after
  room_kept heads ends after positions jobs long = record {
    positions = positions ∙ of.kept.kept.heads.positions;
    jobs_with_ends = jobs ∙ of.kept.ends.jobs;
    jobs_with_nexts = long ∙ of.kept.are_next.jobs;
  }

  -- an operation goes on, and its next one is written into the vector
  pub room_behind : {l : LayoutState} {position job : ℕ} {mid now : Rows} (v : Vec ℕ Global) {given after : List ℕ}
      → v.items ≡ nexts → given ≡ v.items → length mid.heads ≡ length rows.heads → length mid.ends ≡ length rows.ends
      → GoesOn greatest l position job mid now given after
      → HasRoom d.shop d.layout now.heads now.ends (take v.len (after ++ drop (length after) v.items))
  room_behind {l} {position} {job} {mid} {now} v {given} {after} is read positions jobs on =
      let long = ap length on.are_next ∙ length-set given job _
      in room_kept now.heads now.ends (take v.len (after ++ drop (length after) v.items))
      (ap (λ (r : Rows). length r.heads) on.ends ∙ positions)
      (ap (λ (r : Rows). length r.ends) on.ends ∙ (length-set mid.ends job _ ∙ jobs))
      (ap length (written_vec v given after read long) ∙ (long ∙ ap length read ∙ ap length is))

pub buffers_kept : {shop : Shop} {l : LayoutState} {ready free owns numbers now : ℕ} {beginning : Beginning}
    {raises after : List Raise} → AreBuffersOf shop l ready free beginning raises owns numbers
    → length after ≡ length raises → AreEmpty after → now ≡ numbers
    → AreBuffersOf shop l ready free beginning after owns now
buffers_kept of long empty same = record {
  jobs_ready = of.jobs_ready;
  machines_free = of.machines_free;
  begun = of.begun;
  machines = long ∙ of.machines;
  at_rest = empty;
  holds = of.holds;
  ceilings = same ∙ of.ceilings;
}

-- the state of a word is room for one
pub room_of : {L N : Type 0} {g : Ghosts L N} {d : LaidOutState} {w : List ℕ} {s : State L N} → IsStateOf g d w s
    → IsRoom g d s
room_of is =
    let of = kept_of is
    in record {
      room = record {
        positions = of.kept.kept.heads.positions;
        jobs_with_ends = of.kept.ends.jobs;
        jobs_with_nexts = of.kept.are_next.jobs;
      };
    }
