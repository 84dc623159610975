-- The choice among next operations by lanes.
use Rattle.std.proofs.Common.{◌≡◌, ℕ, ◌*◌, ◌≤◌, ◌<◌, ◌⊎◌, inl, inr, List, [], ◌∷◌, length, get_or, refl, sym, ◌∙◌, ap}
use Rattle.std.proofs.{Common.{subst, arith}, lemmas.List.Elements.{recursion_from_All, All-from_recursion}}
use Rattle.std.{proofs.lemmas.Bool.cases_lt, specs.List.AllByRecursion}
use Rattle.shop_lanes.specs.Marks.{positions_among}
use Rattle.shop_layout.specs.Positions.{LayoutState}
use Rattle.shop_states.specs.inner.{LaneChoices.{AreNextsOfJobs, HaveJobs, IsAlone, IsJobAt, IsJobBelow}}
use Rattle.shop_states.specs.inner.JobSets.{HasPut}
use Rattle.shop_states.specs.inner.{Raises.IsInBlocks, RisingLists.{IsIn, Rises, HasGathered, IsGatheredWith}}
use Rattle.shop_states.proofs.MarkedPositions.{IsBelow, below_is_in, in_is_below}

-- what is gathered while some of the marked positions are still to come
pub record AreGathering (l : LayoutState) (marks todo old now : List ℕ) : Type 0 where
  pub to_come : (q : ℕ) → IsIn todo q → IsIn marks q
  pub kept : (j : ℕ) → IsIn old j → IsIn now j
  pub gathered : (q : ℕ) → IsIn marks q → IsIn now (get_or l.jobs q 0) ⊎ IsIn todo q
  pub only : (j : ℕ) → IsIn now j → IsIn old j ⊎ IsJobAt l marks j

module _ {l : LayoutState} {marks : List ℕ} where
  module _ {todo old now : List ℕ} (so_far : AreGathering l marks todo old now) {q : ℕ}
      {rest : List ℕ} (popped : todo ≡ q ∷ rest) where
    pub popped_marked : IsIn marks q
    popped_marked = so_far.to_come q (subst (λ (xs : List ℕ). IsIn xs q) (sym popped) (inl refl))

-- of all positions
pub have_all : {l : LayoutState} {n most : ℕ} → HaveJobs l n most → HaveJobs l (length l.jobs) most
have_all have = grind arith

-- the marks are of the heads below a limit in some blocks
module _ (heads : List ℕ) (from to limit : ℕ) (ordered : from ≤ to) (within : 8 * to ≤ length heads)
    {marks : List ℕ} (are : marks ≡ positions_among heads from to limit) where
  marked_below : (q : ℕ) → IsIn marks q → IsBelow heads from to limit q
  marked_below q h = in_is_below heads from to limit ordered within q (subst (λ (xs : List ℕ). IsIn xs q) are h)

  pub marked_within : (q : ℕ) → IsIn marks q → q < length heads
  marked_within q h = let at = (marked_below q h).there in let high = at.1 in omega arith

  pub gathered_below : {l : LayoutState} {old now : List ℕ} → HasGathered (IsJobAt l marks) old now
      → HasGathered (IsJobBelow l heads (IsInBlocks from to) limit) old now
  gathered_below {l} {old} {now} gathered = grind (arith, below_is_in, marked_below)

-- some blocks, and those behind them
module _ (l : LayoutState) (heads : List ℕ) (limit : ℕ) where
  pub more_gathered : (first from to : ℕ) (old now new : List ℕ) → first ≤ from → from ≤ to
      → HasGathered (IsJobBelow l heads (IsInBlocks first from) limit) old now
      → HasGathered (IsJobBelow l heads (IsInBlocks from to) limit) now new
      → HasGathered (IsJobBelow l heads (IsInBlocks first to) limit) old new
  more_gathered first from to old now new low high before then = record {
    kept = λ j h. then.kept j (before.kept j h);
    gathered = λ j next. elim (cases_lt next.position (8 * from)) [
      | inl lt ↦ grind arith
      | inr ge ↦ grind arith
    ];
    only = λ j h. grind arith;
  }

-- what is put in first, and all that is gathered then
pub gathered_with : (j : ℕ) (P : ℕ → Type 0) (one js : List ℕ) → HasPut j [] one → HasGathered P one js → Rises js
    → IsGatheredWith j P js
gathered_with j P one js put more rises = grind arith

in_alike : (x : ℕ) (xs : List ℕ) → AllByRecursion (λ p. p ≡ x) xs → (q : ℕ) → IsIn xs q → q ≡ x
in_alike x [] all q h = absurd h
in_alike x (y ∷ ys) all q (inl e) = e ∙ all.0
in_alike x (y ∷ ys) all q (inr h) = in_alike x ys all.1 q h

alike_in : (x : ℕ) (xs : List ℕ) → ((q : ℕ) → IsIn xs q → q ≡ x) → AllByRecursion (λ p. p ≡ x) xs
alike_in x [] alike = tt
alike_in x (y ∷ ys) alike = (alike y (inl refl), alike_in x ys (λ q h. alike q (inr h)))

alone_at : (heads : List ℕ) (from to limit p q : ℕ) → from ≤ to → 8 * to ≤ length heads
    → IsAlone heads from to limit p → IsBelow heads from to limit q → q ≡ p
alone_at heads from to limit p q ordered within alone is =
    in_alike p (positions_among heads from to limit)
    (recursion_from_All (λ i. i ≡ p) (positions_among heads from to limit) alone) q
    (below_is_in heads from to limit ordered within q is)

-- where nothing else waits in some blocks, nor in those behind them
pub alone_on : (heads : List ℕ) (limit p : ℕ) {from to behind : ℕ} → from ≤ to → to ≤ behind
    → 8 * behind ≤ length heads → IsAlone heads from to limit p → IsAlone heads to behind limit p
    → IsAlone heads from behind limit p
alone_on heads limit p {from} {to} {behind} low high within before then =
    All-from_recursion (λ q. q ≡ p) (positions_among heads from behind limit)
    (alike_in p (positions_among heads from behind limit) (λ q h.
    let is = in_is_below heads from behind limit (omega arith) within q h
    in elim (cases_lt q (8 * to)) [
      | inl lt ↦ alone_at heads from to limit p q low (omega arith) before
          (record { there = (is.there.0, lt); waits = is.waits; below = is.below })
      | inr ge ↦ alone_at heads to behind limit p q high within then
          (record { there = (ge, is.there.1); waits = is.waits; below = is.below })
    ]))

-- where nothing else waits below the limit, what is put in is alone
pub alone_with : (l : LayoutState) (nexts heads : List ℕ) → AreNextsOfJobs l heads nexts
    → (from to limit j : ℕ) → from ≤ to → 8 * to ≤ length heads → j < length nexts
    → IsAlone heads from to limit (get_or nexts j 0)
    → IsGatheredWith j (IsJobBelow l heads (IsInBlocks from to) limit) (j ∷ [])
alone_with l nexts heads of_jobs from to limit j ordered within known alone = record {
  has = inl refl;
  gathered = λ q next.
      let at : next.position ≡ get_or nexts j 0 =
      alone_at heads from to limit (get_or nexts j 0) next.position ordered within alone
      (record { there = next.there; waits = next.waits; below = next.below })
      in let high = next.there.1
      in inl (sym next.job ∙ ap (λ (x : ℕ). get_or l.jobs x 0) at ∙ of_jobs.own j known (omega arith));
  only = λ q h. grind arith;
  rises = ((λ q h. absurd h), tt);
}
