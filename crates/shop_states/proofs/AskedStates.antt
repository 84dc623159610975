-- What is known of a word in a layout that numbers machines anew, and of the same word of the instance itself.
use Rattle.std.proofs.Common.{arith, ◌≡◌, ◌≤◌, ◌∙◌, ℕ, inl, inr, List, [], ◌∷◌, ◌++◌, refl, subst, sym}
use Rattle.std.specs.Prelude.{Option, Some, None, OnSome}
use Rattle.shop_lanes.specs.{Rows.Rows, declared.state_lanes.StateLanes.Ghosts}
use Rattle.shop_model.specs.{Limits.IsWithinLimits, Shop.Shop, Word.IsWord}
use Rattle.shop_bound.specs.{Bound.lb, Conflicts.{conflict, SoleCandidateKeepsBound}, Renumbered.AreAlike}
use Rattle.shop_layout.specs.LaidOuts.{LaidOutState}
use Rattle.shop_states.specs.{States.{ListsBelow, TellsBoundBelow, none, listed, closed}, inner.AskedStates.IsKeptFor}
use Rattle.shop_states.specs.declared.states.{Candidate.Candidate, State.State}
use Rattle.shop_states.specs.inner.{LaidLanes.rows_in, LaneStates.IsKeptInLanes, WordStates.{IsStateOf, of_word}}
use Rattle.shop_states.{specs.inner.RisingLists.IsIn, proofs.Candidates.candidate_fits}

-- a word that is kept in the layout
module _ {greatest : ℕ} {d : LaidOutState} (alike : AreAlike d.asked d.shop) {w : List ℕ} {rows : Rows}
    {nexts : List ℕ} (kept : IsKeptInLanes greatest d.shop w d.layout rows nexts) where
  alone_keeps : (j : ℕ) → conflict d.asked w ≡ j ∷ [] → lb d.asked (w ++ j ∷ []) ≡ lb d.asked w
  alone_keeps j alone =
      let word = (alike.words w).1 kept.kept.word
      in let here = alike.conflicts w word ∙ alone
      in let fits = candidate_fits d.shop w kept.kept.word j (subst (λ js. IsIn js j) (sym here) (inl refl))
      in sym (alike.bounds (w ++ j ∷ []) ((alike.words (w ++ j ∷ [])).1 fits)) ∙ (kept.sole j here
      ∙ alike.bounds w word)

  pub kept_for : IsWithinLimits d.asked → IsKeptFor greatest d w rows nexts
  kept_for limits = record {
    alike = alike;
    limits = limits;
    word = (alike.words w).1 kept.kept.word;
    sole = alone_keeps;
    kept = kept;
  }

-- the bounds and the conflict set of a word, and lists of its candidates
module _ {greatest : ℕ} {d : LaidOutState} {w : List ℕ} {rows : Rows} {nexts : List ℕ}
    (of : IsKeptFor greatest d w rows nexts) where
  pub bound_there : {bound : ℕ} → bound ≡ lb d.asked w → bound ≡ lb d.shop w
  bound_there is = is ∙ sym (of.alike.bounds w of.word)

  pub bound_behind : (j : ℕ) → IsWord d.shop (w ++ j ∷ []) → lb d.shop (w ++ j ∷ []) ≡ lb d.asked (w ++ j ∷ [])
  bound_behind j fits = of.alike.bounds (w ++ j ∷ []) ((of.alike.words (w ++ j ∷ [])).1 fits)

  pub set_there : conflict d.shop w ≡ conflict d.asked w
  set_there = of.alike.conflicts w of.word

  -- the bound of a child is told of the instance itself
  pub told_behind : (j limit : ℕ) (told : Option ℕ) → IsWord d.shop (w ++ j ∷ [])
      → TellsBoundBelow limit (lb d.shop (w ++ j ∷ [])) told → TellsBoundBelow limit (lb d.asked (w ++ j ∷ [])) told
  told_behind j limit told fits tells = grind (arith, bound_behind)

  -- the state of another word follows
  pub kept_on : {v : List ℕ} {rows' : Rows} {nexts' : List ℕ}
      → IsKeptInLanes greatest d.shop v d.layout rows' nexts' → IsKeptFor greatest d v rows' nexts'
  kept_on after = kept_for of.alike after of.limits

-- what is known of the state of a word
module _ {L N : Type 0} {g : Ghosts L N} {d : LaidOutState} {w : List ℕ} {s : State L N} where
  pub kept_of : IsStateOf g d w s → IsKeptFor g.GREATEST d w (rows_in g d.layout s.lanes) s.next.items
  kept_of (of_word is) = is

  pub word_of : IsStateOf g d w s → IsWord d.asked w
  word_of is = (kept_of is).word

  pub limits_of : IsStateOf g d w s → IsWithinLimits d.asked
  limits_of is = (kept_of is).limits

  pub sole_of : IsStateOf g d w s → SoleCandidateKeepsBound d.asked w
  sole_of is = (kept_of is).sole

-- the state of a longer word follows, if its bound is told
pub state_on : {L N : Type 0} (g : Ghosts L N) {d : LaidOutState} {w : List ℕ} {rows : Rows} {nexts : List ℕ}
    → IsKeptFor g.GREATEST d w rows nexts → (v : List ℕ) (s : State L N) (told : Option ℕ)
    → OnSome told (IsKeptInLanes g.GREATEST d.shop v d.layout (rows_in g d.layout s.lanes) s.next.items)
    → OnSome told (IsStateOf g d v s)
state_on g of v s (Some b) after = of_word (kept_on of after)
state_on g of v s None after = tt

-- jobs with the same bounds behind them are listed alike
lists_with : {is : Candidate → Type 0} {limit : ℕ} (shop other : Shop) (w : List ℕ) {js : List ℕ}
    {cs : List Candidate} {n : ℕ} → ((j : ℕ) → IsIn js j → lb shop (w ++ j ∷ []) ≡ lb other (w ++ j ∷ []))
    → ListsBelow shop w limit is js cs n → ListsBelow other w limit is js cs n
lists_with shop other w same none = none
lists_with shop other w same (listed j c e own rest) =
    listed j c e own (lists_with shop other w (λ i h. same i (inr h)) rest)
lists_with {is} {limit} shop other w same (closed j high rest) = closed j
    (subst (λ (b : ℕ). limit ≤ b) (same j (inl refl)) high) (lists_with shop other w (λ i h. same i (inr h)) rest)

behind : {greatest : ℕ} {d : LaidOutState} {w : List ℕ} {rows : Rows} {nexts : List ℕ}
    → IsKeptFor greatest d w rows nexts → (j : ℕ) → IsIn (conflict d.shop w) j
    → lb d.shop (w ++ j ∷ []) ≡ lb d.asked (w ++ j ∷ [])
behind {greatest} {d} {w} of j h = bound_behind of j (candidate_fits d.shop w of.kept.kept.word j h)

module _ {greatest : ℕ} {d : LaidOutState} {w : List ℕ} {rows : Rows} {nexts : List ℕ}
    (of : IsKeptFor greatest d w rows nexts) {is : Candidate → Type 0} {limit : ℕ} {cs : List Candidate} {n : ℕ}
  where
    pub listed_there : ListsBelow d.shop w limit is (conflict d.shop w) cs n
        → ListsBelow d.asked w limit is (conflict d.asked w) cs n
    listed_there lists = subst (λ (js : List ℕ). ListsBelow d.asked w limit is js cs n) (set_there of)
        (lists_with d.shop d.asked w (behind of) lists)

    pub listed_here : ListsBelow d.asked w limit is (conflict d.asked w) cs n
        → ListsBelow d.shop w limit is (conflict d.shop w) cs n
    listed_here lists = lists_with d.asked d.shop w (λ j h. sym (behind of j h))
        (subst (λ (js : List ℕ). ListsBelow d.asked w limit is js cs n) (sym (set_there of)) lists)
