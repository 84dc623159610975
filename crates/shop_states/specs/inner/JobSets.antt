-- Sets of jobs as the bits of numbers.
--     members at numbers             the jobs whose bits are set, 64 to a number, in order; the lowest bit of the first
--                                    number is that of `at`
--     HasPut j old new               the new list is the old one with j
use Rattle.std.specs.Prelude.{◌≡◌, ℕ, ◌+◌, List, [], ◌∷◌, ◌++◌}
use Rattle.shop_lanes.specs.SetBits.{set_bits}
use Rattle.shop_states.specs.inner.RisingLists.{HasGathered}

abbrev pub members : ℕ → List ℕ → List ℕ
members at [] = []
members at (number ∷ numbers) = set_bits 64 at number ++ members (at + 64) numbers

abbrev pub HasPut : ℕ → List ℕ → List ℕ → Type 0
HasPut j old new = HasGathered (λ q. q ≡ j) old new
