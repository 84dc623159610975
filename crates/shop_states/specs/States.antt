-- What a state of a word is known by.
--     CandidateListState            the candidates of a list, and for how many there is room
--     IsOfSomeWord P                P holds of some word
--     HasSoleCandidate shop P job   P holds of some word whose conflict set is one job
--     CanDispatch shop P job bound  P holds of some word, which can go on with the job and has this bound
--     HasListed shop P is cs bound  P holds of some word of this bound, whose candidates with own numbers below some
--                                   limit these are
--     Settles shop w bound top cs   the child by a candidate is bounded by the greater of the word's bound and its own
--                                   number, where `top` is no more than that
--     TellsBoundBelow limit bound   the bound where it is below the limit, and else nothing
--     ListsBelow shop w limit is    the candidates of a conflict set, in order, but for n jobs with which the bound
--                                   reaches the limit
--     AreOwnsBelow limit cs         the own number of each candidate is 0 or below the limit
--     HasDispatched shop P after .. each word of which P holds goes on with the job: if it has this bound, the longer
--                                   word's bound is told, if below the limit; if one is told, `after` holds of the
--                                   longer word
use Rattle.std.specs.Prelude.{◌≡◌, ◌≤◌, ◌<◌, ℕ, zero, suc, max, Option, Some, None, List, [], ◌∷◌, ◌++◌, All}
use Rattle.std.specs.Prelude.{OnSome}
use Rattle.shop_model.specs.{Shop.Shop, Word.IsWord}
use Rattle.shop_bound.specs.{Bound.lb, Conflicts.conflict}
use Rattle.shop_states.specs.declared.states.Candidate.{Candidate}

pub record CandidateListState : Type 0 where
  pub items : List Candidate
  pub room : ℕ

pub record IsOfSomeWord (P : List ℕ → Type 0) : Type 0 where
  pub word : List ℕ
  pub is : P word

pub record HasSoleCandidate (shop : Shop) (P : List ℕ → Type 0) (job : ℕ) : Type 0 where
  pub word : List ℕ
  pub is : P word
  pub sole : conflict shop word ≡ job ∷ []

pub record CanDispatch (shop : Shop) (P : List ℕ → Type 0) (job bound : ℕ) : Type 0 where
  pub word : List ℕ
  pub is : P word
  pub fits : IsWord shop (word ++ job ∷ [])
  pub bound_is : bound ≡ lb shop word

abbrev pub TellsBoundBelow : ℕ → ℕ → Option ℕ → Type 0
TellsBoundBelow limit bound (Some b) = (b ≡ bound) × (b < limit)
TellsBoundBelow limit bound None = limit ≤ bound

pub data ListsBelow (shop : Shop) (word : List ℕ) (limit : ℕ) (is : Candidate → Type 0)
    : List ℕ → List Candidate → ℕ → Type 0 where
  none : ListsBelow shop word limit is [] [] zero
  listed : {js : List ℕ} {cs : List Candidate} {n : ℕ} (j : ℕ) (c : Candidate) → c.job ≡ j → is c
      → ListsBelow shop word limit is js cs n → ListsBelow shop word limit is (j ∷ js) (c ∷ cs) n
  closed : {js : List ℕ} {cs : List Candidate} {n : ℕ} (j : ℕ) → limit ≤ lb shop (word ++ j ∷ [])
      → ListsBelow shop word limit is js cs n → ListsBelow shop word limit is (j ∷ js) cs (suc n)

abbrev pub AreOwnsBelow : ℕ → List Candidate → Type 0
AreOwnsBelow limit cs = All (λ c. 0 < c.own → c.own < limit) cs

pub record HasListed (shop : Shop) (P : List ℕ → Type 0) (is : List ℕ → Candidate → Type 0)
    (cs : List Candidate) (bound : ℕ) : Type 0 where
  pub word : List ℕ
  pub is_word : P word
  pub limit : ℕ
  pub others : ℕ
  pub listed : ListsBelow shop word limit (is word) (conflict shop word) cs others
  pub bound_is : bound ≡ lb shop word

abbrev pub Settles : Shop → List ℕ → ℕ → ℕ → List Candidate → Type 0
Settles shop w bound top cs = All (λ c. top ≤ max bound c.own → lb shop (w ++ c.job ∷ []) ≡ max bound c.own) cs

pub record HasDispatched (shop : Shop) (P after : List ℕ → Type 0) (job bound limit : ℕ) (told : Option ℕ) : Type 0
  where
    pub bounded : (w : List ℕ) → P w → bound ≡ lb shop w → TellsBoundBelow limit (lb shop (w ++ job ∷ [])) told
    pub state : (w : List ℕ) → P w → OnSome told (after (w ++ job ∷ []))
