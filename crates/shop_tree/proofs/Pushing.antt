-- Children on a stack.
--     with_opens stack opens   the stack with these open children on top, in order
--     with_rest stack depth n  the stack with n closed children of a word of `depth` entries on top, if there are any
use Rattle.std.specs.Prelude.{ℕ, zero, suc, List, [], ◌∷◌, ◌++◌, map}
use Rattle.shop_nodes.specs.{Halts.open_child, declared.halts.{Open.Open, Pending.{Pending, TheVariants.Rest}}}

abbrev pub with_opens : List Pending → List Open → List Pending
with_opens stack opens = stack ++ map (λ o. open_child o) opens

abbrev pub with_rest : List Pending → ℕ → ℕ → List Pending
with_rest stack depth zero = stack
with_rest stack depth (suc n) = stack ++ Rest depth (suc n) ∷ []
