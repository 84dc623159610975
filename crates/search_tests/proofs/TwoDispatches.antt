-- Two dispatches of one candidate.
use Rattle.std.proofs.Common.{ℕ, arith}
use Rattle.std.specs.Prelude.{Option, Some, None, OnSome}
use Rattle.shop_states.specs.States.{TellsBoundBelow}

-- what holds if one tells a bound holds if the other does
pub told_both : (P : Type 0) (limit bound : ℕ) (told again : Option ℕ) → TellsBoundBelow limit bound told
    → TellsBoundBelow limit bound again → OnSome told P → OnSome again P
told_both P limit bound (Some a) (Some b) first second is = is
told_both P limit bound None (Some b) first second is =
    absurd (let same = second.0 in let below = second.1 in omega arith)
told_both P limit bound told None first second is = tt
