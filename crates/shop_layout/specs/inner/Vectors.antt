-- What stands in a list of vectors.
use Rattle.std.specs.{Prelude.{List, Vec, map}, declared.alloc.Global.Global}

abbrev pub items_in : {A : Type 0} → List (Vec A Global) → List (List A)
items_in vectors = map (λ v. v.items) vectors
