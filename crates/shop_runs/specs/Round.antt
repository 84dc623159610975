-- Rounds of a branch and bound over words, whose plan of pieces, budgets and rounds is this project's own.
pub use Rattle.shop_nodes.specs.Pieces.{words_below}
pub use Rattle.shop_runs.specs.Plans.{Planned}
use Rattle.std.specs.Prelude.{ℕ, zero, suc, ◌+◌, ◌-◌, ◌*◌, ◌≤◌, ◌⊎◌, min, Bool, true, false, Option, Some, None, List}
use Rattle.std.specs.Prelude.{[], ◌∷◌, ◌++◌, take, drop, map, sum_by, fold, flat_map, nat_lt, ◌==◌, if◌then◌else◌}
use Rattle.std.specs.Prelude.{unwrap_or}
use Rattle.shop_model.specs.{Shop.{Shop, Starts, end_of, IsFeasible}, Word.start_jobs}
use Rattle.shop_bound.specs.Bound.{lb}
use Rattle.shop_nodes.specs.{Branching.sort_by, Walking.{Walk, sheet}, Laws.HasBetter}
use Rattle.shop_runs.specs.{declared.plans.TheConstants.MAX_PIECES, declared.plans.Order.Order}
use Rattle.shop_runs.specs.declared.plans.Order.TheVariants.{Kept, Bound}

-- Where a run stands: the best word, the open words, the rounds done and the nodes counted.
pub record Stand : Type 0 where
  pub word : List ℕ
  pub open_words : List (List ℕ)
  pub rounds : ℕ
  pub nodes : ℕ

-- at most n pieces of this size, in order; the last may be shorter
abbrev pub cut_into : {A : Type 0} → ℕ → ℕ → List A → List (List A)
cut_into zero size xs = []
cut_into (suc n) size [] = []
cut_into (suc n) size (x ∷ xs) = take size (x ∷ xs) ∷ cut_into n size (drop size (x ∷ xs))

-- the words in the order in which they are cut
abbrev pub in_order : Shop → Order → List (List ℕ) → List (List ℕ)
in_order shop Kept ws = ws
in_order shop Bound ws = sort_by (lb shop) ws

-- the least of c and the bounds of the words
abbrev pub least_bound : Shop → ℕ → List (List ℕ) → ℕ
least_bound shop c ws = fold (λ b w. min b (lb shop w)) c ws

abbrev pub taken_of : ℕ → Walk → ℕ
taken_of budget s = budget - s.budget

-- the sheets up to and with the first that ends at c, if one does
abbrev pub hit_or : Bool → Walk → Option (Walk × List Walk) → Option (Walk × List Walk)
hit_or true s later = Some (s, s ∷ [])
hit_or false s None = None
hit_or false s (Some (h, counted)) = Some (h, s ∷ counted)

abbrev pub up_to_hit : ℕ → List Walk → Option (Walk × List Walk)
up_to_hit c [] = None
up_to_hit c (s ∷ ss) = hit_or (s.best == c) s (up_to_hit c ss)

-- the word of the first sheet of least makespan below that of the best word, else the best word
abbrev pub best_word : ℕ → List ℕ → List Walk → List ℕ
best_word best word ss = unwrap_or
    ((fold (λ b s. if nat_lt s.best b.best then s else b)
    (record { found = Some word; best = best; left = []; budget = 0 }) ss).found) word

-- What a round is told: the opening best and bound, and the rounds and nodes before the round.
pub record Told : Type 0 where
  pub shop : Shop
  pub word : List ℕ
  pub best : ℕ
  pub bound : ℕ
  pub budget : ℕ
  pub pieces : List (List (List ℕ))
  pub rest : List (List ℕ)
  pub rounds : ℕ
  pub nodes : ℕ

-- all words of a round, in order
abbrev pub words_of_round : Told → List (List ℕ)
words_of_round r = flat_map (λ piece. piece) r.pieces ++ r.rest

-- the sheets of its pieces, all from the opening best
abbrev pub sheet_in : Told → List (List ℕ) → Walk
sheet_in r piece = sheet r.shop piece r.best r.budget

abbrev pub sheets_of : Told → List Walk
sheets_of r = map (sheet_in r) r.pieces

-- the result of a round, by the first sheet that ends at the opening bound, if one does
abbrev pub after_round : Told → List Walk → Option (Walk × List Walk) → Stand
after_round r sheets (Some (h, counted)) =
    record {
      word = unwrap_or h.found r.word;
      open_words = [];
      rounds = r.rounds + 1;
      nodes = r.nodes + sum_by (taken_of r.budget) counted;
    }
after_round r sheets None =
    let better = best_word r.best r.word sheets
    in record {
      word = better;
      open_words = words_below r.shop (lb r.shop better) (flat_map (λ t. t.left) sheets ++ r.rest);
      rounds = r.rounds + 1;
      nodes = r.nodes + sum_by (taken_of r.budget) sheets;
    }

-- what stands after the round
abbrev pub gathered : Told → Stand
gathered r = after_round r (sheets_of r) (up_to_hit r.bound (sheets_of r))

-- a round is cut from the open words in their order
abbrev pub pieces_of : Planned → List (List ℕ) → List (List (List ℕ))
pieces_of plan words = cut_into MAX_PIECES plan.piece words

abbrev pub rest_of : Planned → List (List ℕ) → List (List ℕ)
rest_of plan words = drop (MAX_PIECES * plan.piece) words

-- the round that is cut from what stands
abbrev pub cut_of : Shop → Planned → Stand → Told
cut_of shop plan s =
    let words = in_order shop plan.order s.open_words
    in record {
      shop = shop;
      word = s.word;
      best = lb shop s.word;
      bound = least_bound shop (lb shop s.word) words;
      budget = plan.budget;
      pieces = pieces_of plan words;
      rest = rest_of plan words;
      rounds = s.rounds;
      nodes = s.nodes;
    }

abbrev pub round : Shop → Planned → Stand → Stand
round shop plan s = gathered (cut_of shop plan s)

abbrev pub opening : Shop → Stand
opening shop = let w = start_jobs shop
    in record {
      word = w;
      open_words = words_below shop (lb shop w) ([] ∷ []);
      rounds = 0;
      nodes = 0;
    }

abbrev pub makespan_of : Shop → Stand → ℕ
makespan_of shop s = lb shop s.word

-- Each feasible table ends at the best or later, or no earlier than one under an open word.
abbrev pub Covers : Shop → ℕ → List (List ℕ) → Type 0
Covers shop best words = (starts : Starts) → IsFeasible shop starts
    → (best ≤ end_of shop starts) ⊎ HasBetter shop words starts
