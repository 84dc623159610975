-- The one candidate of a word is dispatched: it is struck out, and no head rises.
use Rattle.std.proofs.Common.{◌≡◌, ℕ, ◌<◌, List, [], ◌∷◌, ◌++◌, length, get_or, set, refl, ◌∙◌, ap, arith}
use Rattle.std.proofs.lemmas.{Bool.{cases_lt, le-ltb, lt-ltb}, List.{get_or-set_other, length-set}}
use Rattle.shop_lanes.specs.Rows.{Rows, with_end, with_head}
use Rattle.shop_model.{specs.{Shop.Shop, Word.{IsWord, placing, place_next}}, proofs.Unders.placing-snoc}
use Rattle.shop_bound.specs.Conflicts.{conflict}
use Rattle.shop_states.specs.inner.{LaneEnds.{CanKeepEnds, IsEndOf, end_at}, LaneHeads.AreHeadsAt}
use Rattle.shop_states.specs.inner.{LaneStates.{AreHeadsInLanes, IsKeptInLanes}, Raises.IsStepPosition}
use Rattle.shop_states.proofs.{ChildReads.left_stored, SoleCandidates.{sole_fits, sole_heads}}
use Rattle.shop_states.proofs.StateSteps.{ends_more, kept_more, known_position, next_at, next_known, stands, within}
use Rattle.shop_layout.specs.Positions.{LayoutState, position_of, position_behind}

module _ {greatest : ℕ} {shop : Shop} {w : List ℕ} {l : LayoutState} {rows : Rows} {nexts : List ℕ} {j : ℕ}
    (kept : IsKeptInLanes greatest shop w l rows nexts) (alone : conflict shop w ≡ j ∷ []) where
  abbrev x : ℕ
  x = get_or nexts j 0

  fits : IsWord shop (w ++ j ∷ [])
  fits = sole_fits shop w kept.kept.word j alone

  pub its_job : j < length nexts
  its_job = next_known j kept fits

  pub its_position : get_or nexts j 0 < length rows.heads
  its_position = within j kept fits refl

  pub its_row : get_or nexts j 0 < length l.jobs
  its_row = known_position j kept fits refl

  pub its_stands : IsStepPosition l (get_or nexts j 0)
  its_stands = stands j kept fits refl

  module _ {lifted : Rows} (wrote : lifted ≡ with_head rows (get_or nexts j 0) 0) where
    its_position_is : get_or nexts j 0 ≡ position_of l j ((placing shop w).steps j)
    its_position_is = next_at j kept fits refl

    heads : lifted.heads ≡ set rows.heads (position_of l j ((placing shop w).steps j)) 0
    heads = ap (λ (r : Rows). r.heads) wrote ∙ ap (λ (q : ℕ). set rows.heads q 0) its_position_is

    long : length lifted.heads ≡ length rows.heads
    long = ap length heads ∙ length-set rows.heads (position_of l j ((placing shop w).steps j)) 0

    now_heads : AreHeadsAt shop (place_next shop (placing shop w) j) l lifted.heads
    now_heads =
        let stored = left_stored kept.kept j fits
        in grind (arith, heads, sole_heads)

    now : AreHeadsInLanes greatest shop (w ++ j ∷ []) l lifted
    now = grind (arith, fits, heads, placing-snoc, now_heads)

    others : (i : ℕ) → i < length nexts → (get_or nexts i 0 ≡ x → ⊥) → IsEndOf greatest nexts rows i
        → IsEndOf greatest nexts lifted i
    others i known ne was = grind (arith, get_or-set_other, long, cases_lt, lt-ltb, le-ltb)

    ends_long : length lifted.ends ≡ length rows.ends
    ends_long = ap (λ (r : Rows). length r.ends) wrote

    pub struck_keep : {after : List ℕ} → after ≡ set nexts j (position_behind l (get_or nexts j 0))
        → CanKeepEnds greatest l after lifted
    struck_keep {after} followed = ends_more j kept fits refl refl followed now ends_long others

    pub struck_kept : {after : List ℕ} → after ≡ set nexts j (position_behind l (get_or nexts j 0))
        → {ended : Rows} → ended ≡ with_end lifted j (end_at greatest after lifted j)
        → IsKeptInLanes greatest shop (w ++ j ∷ []) l ended after
    struck_kept {after} followed {ended} ends = kept_more j kept fits refl refl followed now ends_long others ends
