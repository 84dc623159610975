-- A candidate of a word is dispatched: what that asks for, what is told of its bound, and what is kept.
use Rattle.std.{proofs.Common.{◌≡◌, ℕ, List, [], ◌∷◌, ◌++◌, max, min, refl, subst}, specs.Prelude.{◌^◌, Option, OnSome}}
use Rattle.std.{proofs.Common.{ap, arith, length, sym}, specs.Prelude.{Bool, true, false, IsTrue}}
use Rattle.shop_model.specs.{Limits.IsWithinLimits, Shop.Shop, Word.IsWord}
use Rattle.shop_bound.specs.Bound.{lb}
use Rattle.shop_layout.specs.{LaidOuts.LaidOutState, Lanes.rows_of, Positions.LayoutState}
use Rattle.shop_states.specs.{States.TellsBoundBelow, inner.Advances.{CanAdvance, IsAdvancing}}
use Rattle.shop_states.specs.inner.{Candidates.IsCandidateOf, Ceilings.AreChildCeilings, LaneStates.IsKeptInLanes}
use Rattle.shop_states.specs.inner.WordStates.{KnowsChild}
use Rattle.shop_states.proofs.{Candidates.tells_below, OwnSpans.candidate_advancing}

-- the layout that was read is that of the state, and the dispatch is of the candidate's job
module _ {greatest : ℕ} {l read : LayoutState} (is : read ≡ l) {heads ends nexts : List ℕ} {j its : ℕ}
    (same : its ≡ j) where
  module _ {shop : Shop} {w : List ℕ} (kept : IsKeptInLanes greatest shop w l (rows_of l heads ends) nexts)
      {own : ℕ} (candidate : IsCandidateOf shop w l j own) {bound : ℕ} (bound_is : bound ≡ lb shop w)
      {least : ℕ} (least_is : least ≡ max bound own) where
    candidate_goes_on : IsAdvancing greatest shop w read (rows_of read heads ends) nexts its least
    candidate_goes_on = rw (is, same) (candidate_advancing kept j candidate.fits own candidate nexts refl bound bound_is
        least least_is)

    pub candidate_can : {machines : ℕ} → machines ≡ shop.machines → {ceilings : List ℕ}
        → AreChildCeilings shop w l j ceilings
        → CanAdvance greatest read (rows_of read heads ends) nexts its least machines ceilings
    candidate_can machines_are {ceilings} ceilings_are = record {
      shop = shop;
      word = w;
      is = candidate_goes_on;
      machines_are = machines_are;
      ceilings_are = rw (is, same) ceilings_are;
    }

    pub candidate_told : IsWithinLimits shop → (limit : ℕ) {most : ℕ} → most ≡ min limit (2 ^ 50) → (told : Option ℕ)
        → ((shop : Shop) (w : List ℕ) → IsAdvancing greatest shop w read (rows_of read heads ends) nexts its least
        → TellsBoundBelow most (lb shop (w ++ its ∷ [])) told)
        → TellsBoundBelow limit (lb shop (w ++ j ∷ [])) told
    candidate_told limits limit {most} most_is told tells = tells_below shop limits (w ++ j ∷ []) candidate.fits
        limit most most_is told (subst (λ (i : ℕ). TellsBoundBelow most (lb shop (w ++ i ∷ [])) told) same
        (tells shop w candidate_goes_on))

  pub candidate_kept : {shop : Shop} {w : List ℕ} → IsKeptInLanes greatest shop w l (rows_of l heads ends) nexts
      → IsWord shop (w ++ j ∷ []) → (told : Option ℕ) (heads' ends' nexts' : List ℕ)
      → ((shop : Shop) (w : List ℕ) → IsKeptInLanes greatest shop w read (rows_of read heads ends) nexts
      → IsWord shop (w ++ its ∷ [])
      → OnSome told (IsKeptInLanes greatest shop (w ++ its ∷ []) read (rows_of read heads' ends') nexts'))
      → OnSome told (IsKeptInLanes greatest shop (w ++ j ∷ []) l (rows_of l heads' ends') nexts')
  candidate_kept {shop} {w} kept fits told heads' ends' nexts' keeps = rw (is, same) at keeps shop w kept fits

-- the ceilings of the child if they are known, or none
pub its_ceilings : {d : LaidOutState} {w : List ℕ} {j : ℕ} {given kept : List ℕ} (is_known : Bool)
    → (IsTrue is_known → given ≡ kept) → (is_known ≡ false → given ≡ []) → (IsTrue is_known → KnowsChild d kept w j)
    → AreChildCeilings d.shop w d.layout j given
its_ceilings {d} {w} {j} true same none known =
    subst (λ (cs : List ℕ). AreChildCeilings d.shop w d.layout j cs) (sym (same refl)) (known refl).known
its_ceilings false same none known = λ rows heads times tails m here on later above.
    absurd (let long = ap (λ (cs : List ℕ). length cs) (none refl) in omega arith)
