-- Words (job sequences, permutations with repetition): the order in which operations are dispatched, and the table that
-- a word places.
--     count_of j w                  how often job j stands in the word w
--     IsWord shop w, IsFull shop w  no job stands in w more often than it has steps; each just that often
--     Placing, placing shop w       the state once the operations of w are placed, in the order of w
--     placed shop w                 the table that w places
--     rows_of shop starts           a table as rows: for each job the starts of its steps
--     start_jobs shop               the start word: job 0 for all its steps, then job 1, and so on
use Rattle.std.specs.Prelude.{◌≡◌, ℕ, ◌+◌, ◌≤◌, max, List, [], ◌∷◌, ◌++◌, length, count_by, fold, map, flat_map}
use Rattle.std.specs.{Prelude.{replicate, ◌==◌, if◌then◌else◌}, List.range_with_len}
use Rattle.shop_model.specs.Shop.{Shop, Starts, route_of, release_of, machine_of, time_of, IsOperation, IsFeasible}
use Rattle.shop_model.specs.Shop.{finish_of}

-- The n-th entry of j in a word stands for step n of j, so the word's operations of j are the steps below this.
abbrev pub count_of : ℕ → List ℕ → ℕ
count_of j w = count_by (λ i. i == j) w

-- (what is no job has no steps, so it stands in no word)
abbrev pub IsWord : Shop → List ℕ → Type 0
IsWord shop w = (j : ℕ) → count_of j w ≤ length (route_of shop j)

abbrev pub IsFull : Shop → List ℕ → Type 0
IsFull shop w = (j : ℕ) → count_of j w ≡ length (route_of shop j)

-- f, but v at i
abbrev pub with_value : {A : Type 0} → (ℕ → A) → ℕ → A → ℕ → A
with_value f i v j = if j == i then v else f j

-- The state once some operations are placed: how many steps of each job are; when each job's last
-- one ends, or the job's release if there is none; when each machine's last one ends, 0 if there is
-- none; and when each begins.
pub record Placing : Type 0 where
  pub steps : ℕ → ℕ
  pub ready : ℕ → ℕ
  pub free : ℕ → ℕ
  pub begins : Starts

abbrev pub none_placed : Shop → Placing
none_placed shop = record { steps = λ j. 0; ready = λ j. release_of shop j; free = λ m. 0; begins = λ j k. 0 }

-- The next step of job j begins as soon as the job and its machine can.
abbrev pub place_next : Shop → Placing → ℕ → Placing
place_next shop p j =
    let k = p.steps j
    in let m = machine_of shop j k
    in let start = max (p.ready j) (p.free m)
    in let finish = start + time_of shop j k
    in record {
      steps = with_value p.steps j (k + 1);
      ready = with_value p.ready j finish;
      free = with_value p.free m finish;
      begins = with_value p.begins j (with_value (p.begins j) k start);
    }

abbrev pub placing : Shop → List ℕ → Placing
placing shop w = fold (place_next shop) (none_placed shop) w

abbrev pub placed : Shop → List ℕ → Starts
placed shop w = (placing shop w).begins

-- Each operation of w ends not later than any operation of its machine begins that stands later in w or isn't in w.
pub record IsUnder (shop : Shop) (w : List ℕ) (starts : Starts) : Type 0 where
  pub feasible : IsFeasible shop starts
  pub first : (v : List ℕ) (j : ℕ) (later : List ℕ) → w ≡ v ++ j ∷ later → (i l : ℕ) → IsOperation shop i l
      → count_of i (v ++ j ∷ []) ≤ l → machine_of shop i l ≡ machine_of shop j (count_of j v)
      → finish_of shop starts j (count_of j v) ≤ starts i l

abbrev pub rows_of : Shop → Starts → List (List ℕ)
rows_of shop starts = map (λ j. map (starts j) (range_with_len 0 (length (route_of shop j))))
    (range_with_len 0 (length shop.jobs))

abbrev pub start_jobs : Shop → List ℕ
start_jobs shop = flat_map (λ j. replicate (length (route_of shop j)) j)
    (range_with_len 0 (length shop.jobs))
