-- Positions whose number passes a test.
use Rattle.std.specs.Prelude.{◌≡◌, Option, MatchOption, ℕ, ◌+◌, ◌*◌, Bool, List, [], ◌∷◌, filter, if◌then◌else◌, nat_lt}
use Rattle.std.specs.Prelude.{not, ◌==◌, ◌&&◌}
use Rattle.shop_lanes.specs.Rows.{Rows, blocks}

-- the positions of the numbers that pass, in order; the first number stands at position `at`
abbrev pub marked : (ℕ → Bool) → ℕ → List ℕ → List ℕ
marked p at [] = []
marked p at (x ∷ xs) = if p x then at ∷ marked p (at + 1) xs else marked p (at + 1) xs

-- something waits, with a head below the limit
abbrev pub waits_below : ℕ → ℕ → Bool
waits_below limit head = nat_lt 0 head && nat_lt head limit

-- the positions from block `from` on and before block `to` where something waits with a head below the limit
abbrev pub positions_below : Rows → ℕ → ℕ → ℕ → List ℕ
positions_below rows from to limit = marked (waits_below limit) (8 * from) (blocks from to rows.heads)

abbrev pub positions_among : List ℕ → ℕ → ℕ → ℕ → List ℕ
positions_among heads from to limit = marked (waits_below limit) (8 * from) (blocks from to heads)

-- the others
abbrev pub without : ℕ → List ℕ → List ℕ
without position marks = filter (λ p. not (p == position)) marks

-- `found` is the first position, if there is one, and `new` are the others
abbrev pub IsPopped : List ℕ → Option ℕ → List ℕ → Type 0
IsPopped old found new = MatchOption found ((old ≡ []) × (new ≡ [])) (λ p. old ≡ p ∷ new)
