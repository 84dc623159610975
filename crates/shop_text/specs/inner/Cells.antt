-- What the parts of the writer of Gantt texts tell.
use Rattle.std.specs.Prelude.{◌≡◌, ℕ, zero, suc, ◌*◌, ◌<◌, ◌≤◌, Bool, if◌then◌else◌, List, length, slice_index}
use Rattle.std.specs.{List.{range_with_len, list_any}, Int.div_ceil}
use Rattle.shop_model.specs.Shop.{Shop, Starts, IsOperation, finish_of}
use Rattle.shop_text.specs.Writing.{character_of, is_served, serves}

-- whether the machine serves one of the first steps of job j at the instant
abbrev pub serves_below : Shop → Starts → ℕ → ℕ → ℕ → ℕ → Bool
serves_below shop starts machine instant j steps =
    list_any (is_served shop starts machine instant j) (range_with_len 0 steps)

-- the character is shown in the columns whose instants pass the test, and the others stay
abbrev pub ShowsWhere : List ℕ → List ℕ → ℕ → (ℕ → Bool) → Type 0
ShowsWhere old new character test = (column : ℕ) → column < length old
    → slice_index new column ≡ (if test column then character else slice_index old column)

-- job j is shown in the columns at whose instants the machine serves it
abbrev pub ShowsJob : Shop → Starts → ℕ → ℕ → ℕ → List ℕ → List ℕ → Type 0
ShowsJob shop starts machine unit j old new =
    ShowsWhere old new (character_of j) (λ column. serves shop starts machine (column * unit) j)

-- each operation ends by the last of the columns
abbrev pub AllEndWithin : Shop → Starts → ℕ → ℕ → Type 0
AllEndWithin shop starts unit columns =
    (j k : ℕ) → IsOperation shop j k → div_ceil (finish_of shop starts j k) unit ≤ columns

-- the character of the last of the first jobs that the machine serves at the instant, or a dot
abbrev pub last_shown : Shop → Starts → ℕ → ℕ → ℕ → ℕ
last_shown shop starts machine instant zero = 46
last_shown shop starts machine instant (suc j) =
    if serves shop starts machine instant j then character_of j else last_shown shop starts machine instant j

abbrev pub ShowsJobs : Shop → Starts → ℕ → ℕ → List ℕ → ℕ → Type 0
ShowsJobs shop starts machine unit cells jobs = (column : ℕ) → column < length cells
    → slice_index cells column ≡ last_shown shop starts machine (column * unit) jobs
