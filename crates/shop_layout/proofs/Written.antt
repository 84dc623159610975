-- A vector after a slice of all of it was written.
use Rattle.std.proofs.{Common.{◌≡◌, ℕ, List, ◌++◌, length, take, drop, arith}, lemmas.List.{append-nil, drop_all}}
use Rattle.std.{proofs.lemmas.List.take_all, specs.{Prelude.Vec, declared.alloc.Global.Global}}

written : {A : Type 0} (n : ℕ) (new old : List A) → length new ≡ n → length old ≡ n
    → take n (new ++ drop (length new) old) ≡ new
written n new old e f = grind (arith, drop_all, append-nil, take_all)

pub written_vec : {A : Type 0} (v : Vec A Global) (given new : List A) → given ≡ v.items → length new ≡ length given
    → take v.len (new ++ drop (length new) v.items) ≡ new
written_vec v given new e long = grind (arith, written)
