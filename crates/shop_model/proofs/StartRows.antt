-- The rows of starts that `place` keeps, against the placing that they stand for.
use Rattle.std.proofs.Common.{◌≡◌, ℕ, ◌+◌, ◌<◌, inl, inr, List, [], ◌∷◌, ◌++◌, length, map, set, slice_index_or, sym}
use Rattle.std.proofs.{Common.{◌∙◌, ap, arith}, lemmas.{Bool.{cases_eq, cases_lt}, List.{length-map, map-set}}}
use Rattle.std.proofs.lemmas.List.{length-set, get_or-set_same, get_or-set_other, get_or_past, FromFn.fill_by_all}
use Rattle.std.proofs.lemmas.List.FromFn.{length-map-range_with_len, get_or-map-range_with_len, map-range_with_len_more}
use Rattle.std.specs.{List.range_with_len, Prelude.Vec, declared.alloc.Global.Global}
use Rattle.shop_model.specs.{Shop.{Shop, route_of, machine_of}, Limits.{IsWithinLimits, AreStarts}, Word.Placing}
use Rattle.shop_model.{specs.Word.{place_next, placing, placed, IsWord, IsFull, rows_of}, proofs.Placings.place_next-is}
use Rattle.shop_model.proofs.{TableLemmas.rows_at, Unders.after_word, WordLemmas.full_is_word, WordLengths.word_length}
use Rattle.shop_model.proofs.WordLengths.{ready_word}

-- for each job the starts of its placed steps
pub record HasRows (shop : Shop) (p : Placing) (rows : List (List ℕ)) : Type 0 where
  pub rows_length : length rows ≡ length shop.jobs
  pub begins : (i : ℕ) → i < length shop.jobs
      → slice_index_or rows i [] ≡ map (p.begins i) (range_with_len 0 (p.steps i))

-- rows that agree below n
pub map-range_with_len_same : (f g : ℕ → ℕ) (n : ℕ) → ((l : ℕ) → l < n → f l ≡ g l)
    → map f (range_with_len 0 n) ≡ map g (range_with_len 0 n)
map-range_with_len_same f g n h = fill_by_all g (map f (range_with_len 0 n)) n 0 (length-map-range_with_len f 0 n)
    (λ k below. get_or-map-range_with_len f 0 n k k 0 below (omega arith) ∙ h k below)

-- the row of the job that is placed next
row_next : (p q : Placing) (j : ℕ) → q.steps j ≡ p.steps j + 1 → ((l : ℕ) → l < p.steps j → q.begins j l ≡ p.begins j l)
    → map (p.begins j) (range_with_len 0 (p.steps j)) ++ q.begins j (p.steps j) ∷ [] ≡ map (q.begins j)
    (range_with_len 0 (q.steps j))
row_next p q j steps old =
    let more = map-range_with_len_more (q.begins j) 0 (p.steps j) (p.steps j) (omega arith)
    in let same = map-range_with_len_same (p.begins j) (q.begins j) (p.steps j) (λ l h. sym (old l h))
    in rw steps (ap (λ xs. xs ++ q.begins j (p.steps j) ∷ []) same ∙ sym more)

-- one more step is placed
pub rows_next : (shop : Shop) (p next : Placing) (j : ℕ) (rows : List (Vec ℕ Global)) (row new : Vec ℕ Global)
    (start : ℕ) → next ≡ place_next shop p j → HasRows shop p (map (λ r. r.items) rows) → j < length shop.jobs
    → row ≡ slice_index_or rows j row
    → start ≡ (place_next shop p j).begins j (p.steps j) → new.items ≡ row.items ++ start ∷ []
    → HasRows shop next (map (λ r. r.items) (set rows j new))
rows_next shop p next j rows row new start e o job at begin pushed =
    grind (
      arith,
      place_next-is,
      length-map,
      rows_at,
      range_with_len,
      row_next,
      map-set,
      length-set,
      cases_eq,
      get_or-set_same,
      get_or-set_other,
      map-range_with_len_same,
    )

-- no start is over its limit
pub rows_starts : (shop : Shop) (w : List ℕ) (rows : List (List ℕ)) → IsWithinLimits shop → IsWord shop w
    → HasRows shop (placing shop w) rows → AreStarts rows
rows_starts shop w rows limits word m j k =
    let p = placing shop w
    in let a = after_word shop w word
    in let by = ready_word shop limits w
    in let short = word_length shop w limits word
    in elim (cases_lt j (length shop.jobs)) [
      | inl h ↦ rw (m.begins j h) (elim (cases_lt k (p.steps j)) [
        | inl g ↦ rw (get_or-map-range_with_len (p.begins j) 0 (p.steps j) k k 0 g (omega arith))
            (let free = a.sound.free j k g in let b = by.free (machine_of shop j k) in omega arith)
        | inr g ↦ rw (get_or_past (map (p.begins j) (range_with_len 0 (p.steps j))) k 0
            (rw (length-map-range_with_len (p.begins j) 0 (p.steps j)) g)) (omega arith)
      ])
      | inr h ↦ rw (get_or_past rows j [] (let e = m.rows_length in omega arith)) (omega arith)
    ]

-- the rows are those of the table that the full word places
pub rows_are : (shop : Shop) (w : List ℕ) (rows : List (List ℕ)) → IsFull shop w
    → HasRows shop (placing shop w) rows → rows ≡ rows_of shop (placed shop w)
rows_are shop w rows full m =
    let p = placing shop w
    in let a = after_word shop w (full_is_word shop w full)
    in fill_by_all (λ j. map (p.begins j) (range_with_len 0 (length (route_of shop j)))) rows
    (length shop.jobs) [] m.rows_length
    (λ j h. m.begins j h ∙ ap (λ n. map (p.begins j) (range_with_len 0 n)) (a.steps j ∙ full j))
