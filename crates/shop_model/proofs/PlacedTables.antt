-- The table that a full word places, and tables that agree on the operations.
use Rattle.std.proofs.{Common.{◌≡◌, ℕ, ◌<◌, List, ◌∷◌, ◌++◌, sym, ◌∙◌, ap, arith, append_assoc}, lemmas.Bool.cases_lt}
use Rattle.std.proofs.lemmas.List.{get_or_past, FromFn.{length-map-range_with_len, get_or-map-range_with_len}}
use Rattle.std.specs.List.{range_with_len}
use Rattle.shop_model.specs.{Shop.{Shop, Starts, IsOperation, IsFeasible, end_of}, Word.{placing, placed, count_of}}
use Rattle.shop_model.specs.{Word.{IsWord, IsFull, IsUnder, rows_of}, Checking.{HasShape, starts_of}, Placed.IsPlacedBy}
use Rattle.shop_model.proofs.{Ends.{feasible_from, IsOperation-job}, Greatest.greatest_below-equal, Unders.after_word}
use Rattle.shop_model.proofs.{Unders.count_of-cut, WordLemmas.full_is_word}

-- the same starts at all operations
abbrev pub Agree : Shop → Starts → Starts → Type 0
Agree shop s t = (i l : ℕ) → IsOperation shop i l → s i l ≡ t i l

pub agree_feasible : (shop : Shop) (s t : Starts) → Agree shop s t → IsFeasible shop s → IsFeasible shop t
agree_feasible shop s t same f = grind arith

pub agree_end : (shop : Shop) (s t : Starts) → Agree shop s t → end_of shop s ≡ end_of shop t
agree_end shop s t same = grind (arith, greatest_below-equal)

-- an entry of a word stands for an operation
entry_operation : (shop : Shop) (v later : List ℕ) (j : ℕ) → IsWord shop (v ++ j ∷ later)
    → IsOperation shop j (count_of j v)
entry_operation shop v later j word = let a = count_of-cut v later j in let b = word j in omega arith

pub agree_under : (shop : Shop) (w : List ℕ) (s t : Starts) → IsWord shop w → Agree shop s t → IsUnder shop w s
    → IsUnder shop w t
agree_under shop w s t word same u = record {
  feasible = agree_feasible shop s t same u.feasible;
  first = λ v j later e i l op few m.
      let word' : IsWord shop (v ++ j ∷ later) = rw e at word
      in let a = same j (count_of j v) (entry_operation shop v later j word')
      in let b = same i l op in let c = u.first v j later e i l op few m in omega arith;
}

-- the rows of a table have the shape, and tell its starts
pub rows_of-shape : (shop : Shop) (s : Starts) → HasShape shop (rows_of shop s)
rows_of-shape shop s = grind (arith, length-map-range_with_len, cases_lt, get_or-map-range_with_len, get_or_past)

pub rows_of-starts : (shop : Shop) (s : Starts) → Agree shop s (starts_of (rows_of shop s))
rows_of-starts shop s i l op = grind (arith, range_with_len, get_or-map-range_with_len, IsOperation-job)

-- all operations are placed, so the placing is a feasible table under the word
pub full_under : (shop : Shop) (w : List ℕ) → IsFull shop w → IsUnder shop w (placed shop w)
full_under shop w full =
    let a = after_word shop w (full_is_word shop w full)
    in let p = placing shop w
    in let steps : (j k : ℕ) → IsOperation shop j k
    → k < p.steps j = (λ j k op. let b = full j in let c = a.steps j in omega arith)
    in record {
      feasible = feasible_from shop p.begins (λ j k op. a.sound.in_time j k (steps j k op))
          (λ j k i l o r e d. a.sound.apart j k (steps j k o) i l (steps i l r) e d);
      first = λ v j later e i l op few m. a.ordered v j later e i l few (steps i l op) m;
    }

-- what lies under a word lies under its beginnings
pub under_beginning : (shop : Shop) (w v later : List ℕ) (s : Starts) → w ≡ v ++ later → IsUnder shop w s
    → IsUnder shop v s
under_beginning shop w v later s e u = record {
  feasible = u.feasible;
  first = λ x j rest g. u.first x j (rest ++ later)
      (e ∙ (ap (λ (y : List ℕ). y ++ later) g ∙ append_assoc x (j ∷ rest) later));
}

pub placed_by : (shop : Shop) (w : List ℕ) → IsFull shop w → IsPlacedBy shop w (rows_of shop (placed shop w))
placed_by shop w full =
    let s = placed shop w
    in let u = full_under shop w full
    in let same = rows_of-starts shop s
    in let told = agree_under shop w s (starts_of (rows_of shop s)) (full_is_word shop w full) same u
    in record {
      shape = rows_of-shape shop s;
      feasible = told.feasible;
      under = λ v later e. under_beginning shop w v later (starts_of (rows_of shop s)) e told;
      ends = sym (agree_end shop s (starts_of (rows_of shop s)) same);
    }
