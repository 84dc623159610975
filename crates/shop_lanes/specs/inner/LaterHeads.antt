-- Heads from some number on.
use Rattle.std.specs.Prelude.{ℕ, List, map}
use Rattle.shop_lanes.specs.{Eights.later_head, Folds.least_up_to}

-- the least head of at least `from`; `top` if there is none
abbrev pub least_later : ℕ → ℕ → List ℕ → ℕ
least_later top from heads = least_up_to top (map (later_head top from) heads)
