-- A row, pair by pair.
use Rattle.std.proofs.{lemmas.Grind.common_steps, Common.{append_assoc, arith}, lemmas.Bool.{lt-ltb, le-leb}}
use Rattle.std.proofs.Common.{◌≡◌, ℕ, ◌+◌, ◌*◌, ◌<◌, ◌≤◌, List, [], ◌∷◌, ◌++◌, length, get_or, drop, drop-cons, refl}
use Rattle.shop_model.specs.declared.ops.Op.{Op}
use Rattle.shop_text.specs.Formats.{pairs_fault, pairs_of}

pub pair_at : (row : List ℕ) (i : ℕ) → 2 * i + 1 < length row
    → drop (2 * i) row ≡ get_or row (2 * i) 0 ∷ get_or row (2 * i + 1) 0 ∷ drop (2 * (i + 1)) row
pair_at row i h = grind (arith, common_steps, drop-cons)

pub fault_on : (machines m p : ℕ) (rest : List ℕ) → m < machines → p ≤ 1000000000
    → pairs_fault machines (m ∷ p ∷ rest) ≡ pairs_fault machines rest
fault_on machines m p rest h g = rw (lt-ltb m machines h, le-leb p 1000000000 g) refl

pub route_on : (ops : List Op) (m p : ℕ) (rest : List ℕ)
    → (ops ++ record { machine = m; time = p } ∷ []) ++ pairs_of rest ≡ ops ++ pairs_of (m ∷ p ∷ rest)
route_on ops m p rest = append_assoc ops (record { machine = m; time = p } ∷ []) (pairs_of rest)
