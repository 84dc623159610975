-- Each round makes what is open smaller, and its makespan no greater: so rounds enough come to an end.
use Rattle.std.proofs.Common.{◌≡◌, ℕ, zero, suc, ◌+◌, ◌-◌, ◌≤◌, ◌<◌, Bool, Option, Some, None, List, [], ◌∷◌, length}
use Rattle.std.{proofs.{Common.{map, refl, sym, ◌∙◌, ap, subst, arith}, lemmas.Bool.cases_Bool}, specs.List.filter}
use Rattle.std.specs.List.{flat_map}
use Rattle.shop_model.specs.Shop.{Shop}
use Rattle.shop_bound.specs.Bound.{lb}
use Rattle.shop_nodes.{specs.{Branching.{insert_by, sort_by}, Walking.Walk}, proofs.Members.in_all}
use Rattle.shop_runs.specs.{declared.plans.Order.Order, Plans.Planned, Round.{Stand, Told, cut_into, in_order}}
use Rattle.shop_runs.specs.Round.{up_to_hit, after_round, words_of_round, sheet_in, sheets_of, cut_of, round, opening}
use Rattle.shop_runs.specs.{Round.makespan_of, Answers.{unless_closed, rounds_from, answer}, Laws.{IsStanding, IsRound}}
use Rattle.shop_runs.specs.Exact.{with_rounds, SearchesEnd, MoreRoundsAreNoWorse, SolvedStays}
use Rattle.shop_runs.proofs.{Answering.closed, Covering.{opens_covering, cut_is_round}, Trusting.trustworthy}
use Rattle.shop_runs.proofs.{Cutting.pieces_all, SheetLemmas.{hit_in, found_is}, StandingLemmas.{known, best_of_round}}
use Rattle.shop_runs.proofs.{StandingLemmas.gathered_is_standing, TreeSizes.{size_of, size_all, size_none, size_cons}}
use Rattle.shop_runs.proofs.TreeSizes.{size_append, size_some, sheet_leaves, sheet_leaves_less}

module _ (shop : Shop) where
  size_filter : (test : List ℕ → Bool) (ws : List (List ℕ)) → size_all shop (filter test ws) ≤ size_all shop ws
  size_filter test [] = omega arith
  size_filter test (w ∷ ws) = grind (arith, size_cons, cases_Bool, size_filter test ws)

  size_insert : (key : List ℕ → ℕ) (x : List ℕ) (ws : List (List ℕ))
      → size_all shop (insert_by key x ws) ≡ size_of shop x + size_all shop ws
  size_insert key x [] = size_cons shop x []
  size_insert key x (w ∷ ws) = grind (arith, cases_Bool, size_cons, size_insert key x ws)

  size_sort : (key : List ℕ → ℕ) (ws : List (List ℕ)) → size_all shop (sort_by key ws) ≡ size_all shop ws
  size_sort key [] = refl
  size_sort key (w ∷ ws) = grind (arith, size_insert, size_cons, size_sort key ws)

  size_order : (order : Order) (ws : List (List ℕ)) → size_all shop (in_order shop order ws) ≡ size_all shop ws
  size_order x ws = grind (arith, size_sort)

  size_zero : (ws : List (List ℕ)) → size_all shop ws ≤ 0 → ws ≡ []
  size_zero [] h = refl
  size_zero (w ∷ ws) h = absurd (let a = size_cons shop w ws in let b = size_some shop w in omega arith)

-- the first piece holds a word
HasFirst : List (List (List ℕ)) → Type 0
HasFirst [] = ⊥
HasFirst (p ∷ ps) = 0 < length p

module _ where
  cut_first : (n size : ℕ) (ws : List (List ℕ)) → 0 < n → 0 < size → 0 < length ws → HasFirst (cut_into n size ws)
  unfolding HasFirst
  cut_first zero size ws h s l = absurd (omega arith)
  cut_first (suc n) zero ws h s l = absurd (omega arith)
  cut_first (suc n) (suc size) [] h s l = absurd (omega arith)
  cut_first (suc n) (suc size) (w ∷ ws) h s l = omega arith

module _ (r : Told) where
  lefts_le : (ps : List (List (List ℕ)))
      → size_all r.shop (flat_map (λ t. t.left) (map (sheet_in r) ps)) ≤ size_all r.shop (flat_map (λ p. p) ps)
  lefts_le [] = omega arith
  lefts_le (p ∷ ps) = grind (arith, size_append, sheet_leaves, lefts_le ps)

  lefts_less : (ps : List (List (List ℕ))) → 1 ≤ r.budget → HasFirst ps
      → size_all r.shop (flat_map (λ t. t.left) (map (sheet_in r) ps)) < size_all r.shop (flat_map (λ p. p) ps)
  unfolding HasFirst
  lefts_less [] some first = absurd first
  lefts_less ([] ∷ ps) some first = absurd (omega arith)
  lefts_less ((w ∷ ws) ∷ ps) some first =
      let a = size_append r.shop (sheet_in r (w ∷ ws)).left (flat_map (λ t. t.left) (map (sheet_in r) ps))
      in let b = size_append r.shop (w ∷ ws) (flat_map (λ q. q) ps)
      in let c = sheet_leaves_less r.shop w ws r.best r.budget some
      in let d = lefts_le ps
      in omega arith

  -- what stands open after a round is smaller than what was open before it
  after_smaller : (o : Option (Walk × List Walk)) → 1 ≤ r.budget → HasFirst r.pieces
      → size_all r.shop (after_round r (sheets_of r) o).open_words < size_all r.shop (words_of_round r)
  after_smaller x some first = grind (arith, size_filter, size_append, lefts_less, size_none)

  -- and the makespan is no greater
  after_no_worse : IsRound r → (o : Option (Walk × List Walk)) → up_to_hit r.bound (sheets_of r) ≡ o
      → lb r.shop (after_round r (sheets_of r) o).word ≤ r.best
  after_no_worse is None e = (best_of_round r is).below
  after_no_worse is (Some (h, counted)) e = grind (arith, hit_in, in_all, known, found_is)

module _ (shop : Shop) (plan : Planned) where
  round_smaller : (s : Stand) → 1 ≤ plan.budget → 1 ≤ plan.piece → 0 < length s.open_words
      → size_all shop (round shop plan s).open_words < size_all shop s.open_words
  round_smaller s budget piece open_words =
      let r = cut_of shop plan s
      in let words = in_order shop plan.order s.open_words
      in let same = ap (size_all shop) (pieces_all plan words)
      in let ordered = size_order shop plan.order s.open_words
      in let a = after_smaller r (up_to_hit r.bound (sheets_of r)) budget
      (cut_first 256 plan.piece words (omega arith) piece (still_open plan.order s.open_words open_words))
      in omega arith
    where
      some_of : (ws vs : List (List ℕ)) → size_all shop vs ≡ size_all shop ws → 0 < length ws → 0 < length vs
      some_of [] vs e h = absurd (omega arith)
      some_of (w ∷ ws) [] e h = absurd (let a = size_none shop in let b = size_cons shop w ws
          in let c = size_some shop w in omega arith)
      some_of (w ∷ ws) (v ∷ vs) e h = omega arith

      still_open : (order : Order) (ws : List (List ℕ)) → 0 < length ws → 0 < length (in_order shop order ws)
      still_open order ws h = some_of ws (in_order shop order ws) (size_order shop order ws) h

  pub round_no_worse : (s : Stand) → IsStanding shop s → makespan_of shop (round shop plan s) ≤ makespan_of shop s
  round_no_worse s is =
      let r = cut_of shop plan s
      in after_no_worse r (cut_is_round shop plan s is) (up_to_hit r.bound (sheets_of r)) refl

  round_stands : (s : Stand) → IsStanding shop s → IsStanding shop (round shop plan s)
  round_stands s is = gathered_is_standing (cut_of shop plan s) (cut_is_round shop plan s is)

  unless_ends : (ws : List (List ℕ)) (s : Stand) (go : Stand → Stand) → s.open_words ≡ ws
      → (0 < length ws → (go s).open_words ≡ []) → (unless_closed ws s go).open_words ≡ []
  unless_ends x s go e h = grind arith

  -- as many rounds as there are words below the open ones are enough
  ends : 1 ≤ plan.budget → 1 ≤ plan.piece → (n : ℕ) (s : Stand) → size_all shop s.open_words ≤ n
      → (rounds_from shop plan n s).open_words ≡ []
  ends budget piece zero s h = size_zero shop s.open_words h
  ends budget piece (suc n) s h =
      unless_ends s.open_words s (λ t. rounds_from shop plan n (round shop plan t)) refl
      (λ some. ends budget piece n (round shop plan s) (let a = round_smaller s budget piece some in omega arith))

  unless_no_worse : (ws : List (List ℕ)) (s : Stand) (go : Stand → Stand)
      → makespan_of shop (go s) ≤ makespan_of shop s
      → makespan_of shop (unless_closed ws s go) ≤ makespan_of shop s
  unless_no_worse x s go h = grind arith

  no_worse : (n : ℕ) (s : Stand) → IsStanding shop s → makespan_of shop (rounds_from shop plan n s) ≤ makespan_of shop s
  no_worse zero s is = omega arith
  no_worse (suc n) s is =
      unless_no_worse s.open_words s (λ t. rounds_from shop plan n (round shop plan t))
      (let a = no_worse n (round shop plan s) (round_stands s is) in let b = round_no_worse s is in omega arith)

  unless_stands : (ws : List (List ℕ)) (s : Stand) (go : Stand → Stand) → IsStanding shop s → IsStanding shop (go s)
      → IsStanding shop (unless_closed ws s go)
  unless_stands x s go is h = grind arith

  stay_standings : (n : ℕ) (s : Stand) → IsStanding shop s → IsStanding shop (rounds_from shop plan n s)
  stay_standings zero s is = is
  stay_standings (suc n) s is =
      unless_stands s.open_words s (λ t. rounds_from shop plan n (round shop plan t)) is
      (stay_standings n (round shop plan s) (round_stands s is))

  split : (n k : ℕ) (s : Stand) (ws : List (List ℕ)) → s.open_words ≡ ws
      → rounds_from shop plan (n + k) (round shop plan s)
      ≡ rounds_from shop plan k (rounds_from shop plan n (round shop plan s))
      → unless_closed ws s (λ t. rounds_from shop plan (n + k) (round shop plan t))
      ≡ rounds_from shop plan k (unless_closed ws s (λ t. rounds_from shop plan n (round shop plan t)))
  split n k s x e h = grind (arith, closed)

  -- n rounds, and then k more
  in_two : (n k : ℕ) (s : Stand) → rounds_from shop plan (n + k) s ≡ rounds_from shop plan k (rounds_from shop plan n s)
  in_two zero k s = let e : 0 + k ≡ k = omega arith in ap (λ m. rounds_from shop plan m s) e
  in_two (suc n) k s =
      let e : suc n + k ≡ suc (n + k) = omega arith
      in ap (λ m. rounds_from shop plan m s) e ∙ split n k s s.open_words refl (in_two n k (round shop plan s))

  -- the number of rounds is all that a plan's rounds decide
  same_rounds : (m n : ℕ) (s : Stand) → rounds_from shop (with_rounds plan m) n s ≡ rounds_from shop plan n s
  same_rounds m zero s = refl
  same_rounds m (suc n) s = (λ i. unless_closed s.open_words s (λ t. same_rounds m n (round shop plan t) i))

  after : (n : ℕ) → answer shop (with_rounds plan n) ≡ rounds_from shop plan n (opening shop)
  after n = same_rounds n n (opening shop)

  -- with more rounds it goes on from where fewer ended
  pub goes_on_from : (n m : ℕ) → n ≤ m
      → answer shop (with_rounds plan m) ≡ rounds_from shop plan (m - n) (answer shop (with_rounds plan n))
  goes_on_from n m h =
      let e : m ≡ n + (m - n) = omega arith
      in after m ∙ (ap (λ k. rounds_from shop plan k (opening shop)) e
      ∙ (in_two n (m - n) (opening shop) ∙ ap (rounds_from shop plan (m - n)) (sym (after n))))

pub searches_end : SearchesEnd
searches_end shop plan budget piece = (
  size_all shop (opening shop).open_words,
  λ n h. let none : (answer shop (with_rounds plan n)).open_words ≡ [] =
      ap (λ (s : Stand). s.open_words) (after shop plan n) ∙ ends shop plan budget piece n (opening shop) h
      in (none, (trustworthy shop (with_rounds plan n)).least (ap length none)),
)

pub more_rounds_are_no_worse : MoreRoundsAreNoWorse
more_rounds_are_no_worse shop plan n m h =
    let is = stay_standings shop plan n (opening shop) (opens_covering shop).0
    in let stands = subst (IsStanding shop) (sym (after shop plan n)) is
    in let a = no_worse shop plan (m - n) (answer shop (with_rounds plan n)) stands
    in let e = ap (makespan_of shop) (goes_on_from shop plan n m h)
    in omega arith

pub solved_stays : SolvedStays
solved_stays shop plan n m h e =
    goes_on_from shop plan n m h ∙ closed shop plan (m - n) (answer shop (with_rounds plan n)) e
