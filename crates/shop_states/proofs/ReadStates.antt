-- What is kept of a word, read from a layout and a list that are those of the state.
use Rattle.std.proofs.Common.{◌≡◌, ℕ, List}
use Rattle.shop_model.specs.Shop.{Shop}
use Rattle.shop_layout.specs.{Lanes.rows_of, Positions.LayoutState}
use Rattle.shop_states.specs.inner.{Candidates.IsCandidateOf, LaneStates.IsKeptInLanes}

pub kept_read : {greatest : ℕ} {shop : Shop} {w : List ℕ} {l read : LayoutState} {heads ends nexts given : List ℕ}
    → read ≡ l → given ≡ nexts → IsKeptInLanes greatest shop w l (rows_of l heads ends) nexts
    → IsKeptInLanes greatest shop w read (rows_of read heads ends) given
kept_read is are kept = rw (is, are) kept

pub candidate_read : {shop : Shop} {w : List ℕ} {l read : LayoutState} {job own : ℕ} → read ≡ l
    → IsCandidateOf shop w l job own → IsCandidateOf shop w read job own
candidate_read is candidate = rw is candidate

-- or copied
pub kept_copied : {greatest : ℕ} {shop : Shop} {w : List ℕ} {l read : LayoutState}
    {heads ends nexts copied finished given : List ℕ} → read ≡ l → copied ≡ heads → finished ≡ ends → given ≡ nexts
    → IsKeptInLanes greatest shop w l (rows_of l heads ends) nexts
    → IsKeptInLanes greatest shop w read (rows_of read copied finished) given
kept_copied is same_heads same_ends are kept = rw (is, same_heads, same_ends, are) kept
