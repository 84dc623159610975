-- Entries gathered in turn.
use Rattle.std.proofs.Common.{rules, ◌≡◌, ℕ, zero, suc, ◌+◌, ◌*◌, ◌≤◌, ◌<◌, Bool, false, cond, List, [], ◌∷◌, ◌++◌, map}
use Rattle.std.proofs.{Common.{length, get_or, take, refl, sym, ◌∙◌, ap, subst, arith, eqb, ltb}, lemmas.Bool.cases_lt}
use Rattle.std.proofs.lemmas.List.{take_more, length-map, flat_map_more, map-append, Sums.{sum_by-append, fold-append}}
use Rattle.std.{proofs.lemmas.List.Elements.All-append, specs.{Prelude.{unwrap_or, slice_index_or}, List.flat_map}}
use Rattle.std.specs.List.{fold, sum_by}
use Rattle.shop_nodes.specs.{declared.sheets.Sheet.Sheet, Nodes.{words_of, IsNode, AreNodes}, Pieces.words_below}
use Rattle.shop_nodes.specs.{Walking.Walk, Laws.AreWords, Left.open_nodes, Sheets.walk_of}
use Rattle.shop_model.specs.Shop.{Shop}
use Rattle.shop_runs.specs.{Round.{Told, taken_of, sheet_in, sheets_of}, Entries.{is_hit, IsOf}, inner.Outcomes.open_of}
use Rattle.shop_runs.specs.{inner.Outcomes.{left_open, TakesIn}, declared.outcomes.RoundResult.RoundResult}
use Rattle.shop_runs.proofs.{OpenWords.{words_open, nodes_open}, SheetLemmas.{better_of, first_of}}

-- the first of least makespan among the opening best and these sheets
abbrev pub best_among : Told → List Walk → Walk
best_among r ss = fold better_of (first_of r.best r.word) ss

-- the sheets of the first i pieces
abbrev pub first_sheets : Told → ℕ → List Walk
first_sheets r i = take i (sheets_of r)

-- the words left of a sheet with bounds below its best
abbrev pub below_best : Shop → Walk → List (List ℕ)
below_best shop t = words_below shop t.best t.left

-- the first i entries were searched, none of their sheets ends at the opening bound, and this is what they come to
pub record GatheredSoFar (r : Told) (i : ℕ) (o : RoundResult) : Type 0 where
  pub none_hits : (k : ℕ) → k < i → is_hit r k ≡ false
  pub makespan_is : o.makespan ≡ (best_among r (first_sheets r i)).best
  pub word_is : unwrap_or o.found r.word ≡ unwrap_or (best_among r (first_sheets r i)).found r.word
  pub left_is : words_of (left_open o.left.items) ≡ flat_map (below_best r.shop) (first_sheets r i)
  pub nodes_left : AreNodes r.shop (left_open o.left.items)
  pub nodes_is : o.nodes ≡ r.nodes + sum_by (taken_of r.budget) (first_sheets r i)
  pub few : o.nodes ≤ r.nodes + i * 10000000

pub map_at : (r : Told) (ps : List (List (List ℕ))) (i : ℕ) (d : Walk) → i < length ps
    → get_or (map (sheet_in r) ps) i d ≡ sheet_in r (slice_index_or ps i [])
map_at r [] i d h = absurd (omega arith)
map_at r (p ∷ ps) zero d h = refl
map_at r (p ∷ ps) (suc i) d h = map_at r ps i d (omega arith)

-- this is the sheet of piece i
pub record IsSheetAt (r : Told) (i : ℕ) (s : Sheet) : Type 0 where
  pub of_round : IsOf r s
  pub number : s.number ≡ i

-- the walk that a sheet tells of
abbrev pub whole_of : Told → ℕ → Sheet → Walk
whole_of r i s = walk_of s

module _ (r : Told) (i : ℕ) (s : Sheet) (at : IsSheetAt r i s) where
  sheet_is : whole_of r i s ≡ sheet_in r (slice_index_or r.pieces i [])
  sheet_is = grind arith

  of_shop : s.left.shop ≡ r.shop
  of_shop = s.left_of ∙ (at.of_round).0

  left_below : words_of (open_of s.left) ≡ below_best r.shop (whole_of r i s)
  left_below = grind (arith, words_open, of_shop)

  pub inside : i < length (sheets_of r)
  inside = grind (arith, length-map)

  pub at_index : (d : Walk) → get_or (sheets_of r) i d ≡ whole_of r i s
  at_index d = grind (arith, length-map, inside, map_at, sheet_is)

  pub next_sheets : first_sheets r (i + 1) ≡ first_sheets r i ++ whole_of r i s ∷ []
  next_sheets = take_more (sheets_of r) i (whole_of r i s) inside
      ∙ ap (λ w. first_sheets r i ++ w ∷ []) (at_index (whole_of r i s))

  pub hits_here : is_hit r i ≡ eqb s.makespan r.bound
  hits_here = ap (λ (w : Walk). eqb w.best r.bound) (sym sheet_is)

  taken_here : taken_of r.budget (whole_of r i s) ≡ s.taken
  taken_here = let e = (at.of_round).2 in let h = s.spent in omega arith

  pub next_taken : sum_by (taken_of r.budget) (first_sheets r (i + 1)) ≡ sum_by (taken_of r.budget)
      (first_sheets r i) + s.taken
  next_taken = grind (arith, sum_by-append, next_sheets, taken_here)

  module _ (o : RoundResult) (was : GatheredSoFar r i o) (small : r.budget ≤ 10000000) where
    -- the nodes counted with this sheet
    nodes_here : o.nodes + s.taken ≡ r.nodes + sum_by (taken_of r.budget) (first_sheets r (i + 1))
    nodes_here = let a = was.nodes_is in let b = next_taken in omega arith

    pub few_here : o.nodes + s.taken ≤ r.nodes + (i + 1) * 10000000
    few_here = let a = was.few in let b = s.spent in let e = (at.of_round).2 in omega arith

    none_here : eqb s.makespan r.bound ≡ false → (k : ℕ) → k < i + 1 → is_hit r k ≡ false
    none_here e k h = grind (arith, cases_lt, hits_here)

    left_here : words_of (left_open o.left.items ++ open_of s.left)
        ≡ flat_map (below_best r.shop) (first_sheets r (i + 1))
    left_here = search (rules, map-append, left_below, flat_map_more, next_sheets)

    nodes_left_here : AreNodes r.shop (left_open o.left.items ++ open_of s.left)
    nodes_left_here = All-append (IsNode r.shop) (left_open o.left.items) (open_of s.left) was.nodes_left
        (subst (λ (shop : Shop). AreNodes r.shop (open_nodes shop s.left.makespan s.left.words)) (sym of_shop)
        (nodes_open r.shop s.left.makespan s.left.words
        (subst (λ (shop : Shop). AreWords shop s.left.words) (at.of_round).0 s.words_left)))

    -- the better of this sheet and those so far
    better : Bool → Walk
    better b = cond b (whole_of r i s) (best_among r (first_sheets r i))

    best_here : best_among r (first_sheets r (i + 1)) ≡ better (ltb s.makespan o.makespan)
    unfolding better
    best_here = grind (arith, next_sheets, fold-append, better_of, first_of, better)

    makespan_by : (b : Bool) → cond b s.makespan o.makespan ≡ (better b).best
    unfolding better
    makespan_by x = grind arith

    word_by : (b : Bool) → unwrap_or (cond b s.found o.found) r.word ≡ unwrap_or (better b).found r.word
    unfolding better
    word_by x = grind arith

    -- a turn: one more sheet, which doesn't end at the opening bound, is taken in
    pub gathered_turn : (t : RoundResult) → eqb s.makespan r.bound ≡ false → TakesIn o s t → GatheredSoFar r (i + 1) t
    gathered_turn t e takes =
        let b = ltb s.makespan o.makespan
        in let more : left_open t.left.items ≡ left_open o.left.items ++ open_of s.left =
        ap left_open takes.left ∙ sym (flat_map_more open_of [] o.left.items s.left)
        in grind (arith, none_here, makespan_by, best_here, word_by, left_here, nodes_left_here, nodes_here, few_here)
