-- What the parts of the check tell: the first faults, and that there are none.
use Rattle.std.specs.Prelude.{ℕ, ◌<◌, Option, Some, None}
use Rattle.shop_model.specs.Checking.{IsBefore, NoneEarly, IsFirstEarly, AreApart, IsFirstAfter, IsFirstOverlap}
use Rattle.shop_model.specs.{declared.ops.OperationId.OperationId, Shop.{Shop, Starts, IsOperation}}

-- the first operation that begins too early, if one does
abbrev pub TellsFirstEarly : Shop → Starts → Option OperationId → Type 0
TellsFirstEarly shop starts None = NoneEarly shop starts
TellsFirstEarly shop starts (Some p) = IsFirstEarly shop starts p.job p.step

-- (j, k) is apart from each later operation
abbrev pub IsApartAfter : Shop → Starts → ℕ → ℕ → Type 0
IsApartAfter shop starts j k = (i l : ℕ) → IsOperation shop i l → IsBefore j k i l → AreApart shop starts j k i l

-- the first operation after (j, k) that isn't apart from it, if there is one
abbrev pub TellsFirstAfter : Shop → Starts → ℕ → ℕ → Option OperationId → Type 0
TellsFirstAfter shop starts j k None = IsApartAfter shop starts j k
TellsFirstAfter shop starts j k (Some p) = IsFirstAfter shop starts j k p.job p.step

-- each operation is apart from each later one
abbrev pub AllApart : Shop → Starts → Type 0
AllApart shop starts = (j k i l : ℕ) → IsOperation shop j k → IsOperation shop i l → IsBefore j k i l
    → AreApart shop starts j k i l

-- each operation of job j is apart from each later one
abbrev pub IsJobApart : Shop → Starts → ℕ → Type 0
IsJobApart shop starts j = (k i l : ℕ) → IsOperation shop j k → IsOperation shop i l → IsBefore j k i l
    → AreApart shop starts j k i l

-- (j, k) and (i, l) are the first pair of one machine, with a step of job j before a later
-- operation, such that neither ends before the other begins
pub record IsFirstOverlapOf (shop : Shop) (starts : Starts) (j k i l : ℕ) : Type 0 where
  pub operation : IsOperation shop j k
  pub second : IsFirstAfter shop starts j k i l
  pub first : (b c d : ℕ) → b < k → IsOperation shop c d → IsBefore j b c d → AreApart shop starts j b c d

-- the first step of job j that isn't apart from a later operation, with the first such operation, if there is one
abbrev pub TellsFirstOverlapOf : Shop → Starts → ℕ → Option (ℕ × OperationId) → Type 0
TellsFirstOverlapOf shop starts j None = IsJobApart shop starts j
TellsFirstOverlapOf shop starts j (Some p) = IsFirstOverlapOf shop starts j p.0 p.1.job p.1.step

-- the first pair of operations that aren't apart, if there is one
abbrev pub TellsFirstOverlap : Shop → Starts → Option (OperationId × OperationId) → Type 0
TellsFirstOverlap shop starts None = AllApart shop starts
TellsFirstOverlap shop starts (Some p) = IsFirstOverlap shop starts p.0.job p.0.step p.1.job p.1.step
