-- Entries that a worker brings back.
--     OfRound r entries   each is of this round
--     Brought             the entries, or its refusal of memory
--     LetsPass r e later  behind a piece that ends at the opening bound the later entry is passed
use Rattle.std.specs.{Prelude.{◌≡◌, ◌<◌, List, All, true, Result}, declared.vec.Vec.Vec, declared.alloc.Global.Global}
use Rattle.std.specs.declared.alloc.AllocError.{AllocError}
use Rattle.shop_runs.specs.{Round.Told, Entries.{told, number_of, is_hit}, declared.entries.Entry.Entry}
use Rattle.shop_runs.specs.{declared.entries.Kind.Kind, declared.entries.Kind.TheVariants.{Done, Passed}}

abbrev pub OfRound : Told → List Entry → Type 0
OfRound r es = All (λ (e : Entry). told e.round.now ≡ r) es

abbrev pub Brought : Type 0
Brought = Result (Vec Entry Global) AllocError

-- the piece was passed
abbrev pub IsPassed : Kind → Type 0
IsPassed (Done sheet) = ⊥
IsPassed (Passed number by') = Unit {0}

abbrev pub LetsPass : Told → Entry → Entry → Type 0
LetsPass r e later = is_hit r (number_of e.kind) ≡ true → number_of e.kind < number_of later.kind → IsPassed later.kind
