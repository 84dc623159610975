-- The bits of a number as positions.
use Rattle.std.specs.Prelude.{ℕ, zero, suc, ◌+◌, ◌/◌, ◌%◌, List, [], ◌∷◌, if◌then◌else◌, nat_eq}

-- which of the lowest n bits are set, the lowest counted as `at`
unfoldable pub set_bits : ℕ → ℕ → ℕ → List ℕ
set_bits zero at bits = []
set_bits (suc n) at bits =
    if nat_eq (bits % 2) 1 then at ∷ set_bits n (at + 1) (bits / 2) else set_bits n (at + 1) (bits / 2)
