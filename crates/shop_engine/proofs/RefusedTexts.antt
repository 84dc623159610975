-- A source of known bytes that are refused is answered by that refusal.
use Rattle.std.proofs.Common.{◌≡◌, ℕ, ◌<◌, inl, inr, List, length, length-append, Bool, Option, Some, None, Ok, Err}
use Rattle.std.proofs.{Common.{refl, sym, ◌∙◌, subst, rules, arith}, lemmas.Grind.common_steps}
use Rattle.std.specs.Io.KnownBytes.{Consumes}
use Rattle.shop_model.specs.Shop.{Shop}
use Rattle.shop_text.specs.{Formats.grammar_of, Texts.{NamedShop, IsTextFault}, Names.first_named}
use Rattle.shop_text.specs.declared.{faults.ReadFault.{ReadFault, TheVariants.TooLong}, formats.Format.Format}
use Rattle.shop_text.proofs.ReaderTurns.{one_reading}
use Rattle.shop_engine.specs.{declared.args.CheckArgs.CheckArgs, declared.args.SolveArgs.SolveArgs, Listing.IsListOf}
use Rattle.shop_engine.specs.{declared.faults.Fault.Fault, Devices.{Device, IsReadToEnd, IsSourceRefused, Passes}}
use Rattle.shop_engine.specs.{Asking.{name_in, IsAsked, IsAskFault}, Solving.IsSolution, Checking.IsPicked}
use Rattle.shop_engine.specs.Refusing.{IsRefusal, ListingRefuses, CheckingRefuses, SolvingRefuses}
use Rattle.shop_engine.proofs.Headline.{known_read}

-- ---- what was read of known bytes

known_text : (old new : Device) (text known : List ℕ) → IsReadToEnd old new text → old.bytes ≡ Some known → text ≡ known
known_text old new text known read e = known_read old.bytes new.bytes text known read.taken read.end e

known_longer : (old new : Option (List ℕ)) (text known : List ℕ) → Consumes old new text → length text ≡ 16777217
    → old ≡ Some known → 16777216 < length known
known_longer None new text known taken long e = absurd (search rules)
known_longer (Some xs) None text known taken long e = absurd taken
known_longer (Some xs) (Some ys) text known taken long e = grind (arith, common_steps, common_steps, length-append)

-- what goes out is made of the known bytes
known_gives : {old new : Device} {Goes : List ℕ → Type 0} (Gives : List ℕ → List ℕ → Type 0) (known : List ℕ)
    → old.bytes ≡ Some known → Passes old new Gives Goes → (out : List ℕ) × Gives known out
known_gives {old =
    old} {new = new} Gives known same h = grind (arith, common_steps, known_text, h.out, h.text, h.read, h.gives)

-- ---- a text has one refusal

too_long : (format : Format) (text : List ℕ) → 16777216 < length text → IsTextFault (grammar_of format) text TooLong
too_long format text long = inl (record { long = long; told = refl })

one_ask_fault : (format : Format) (name : Option (List ℕ)) (text : List ℕ) (x y : ReadFault)
    → IsAskFault format name text x → IsAskFault format name text y → x ≡ y
one_ask_fault format name text x y (inl a) (inl b) = a.told ∙ sym b.told
one_ask_fault format name text x y (inl a) (inr b) =
    absurd ((one_reading format).not_both text a.shops y a.is_text b)
one_ask_fault format name text x y (inr a) (inl b) =
    absurd ((one_reading format).not_both text b.shops x b.is_text a)
one_ask_fault format name text x y (inr a) (inr b) = (one_reading format).one_fault text x y a b

none_some : (asked : NamedShop) (o : Option NamedShop) → o ≡ None → o ≡ Some asked → ⊥
none_some asked o p q = absurd (search rules)

-- an instance that was had can't be had of refused bytes
pub not_had : (format : Format) (name : Option (List ℕ)) (known : List ℕ) (e : ReadFault) (asked : NamedShop)
    → IsAskFault format name known e → IsAsked format name known asked → ⊥
not_had format name known e asked (inl missing) had =
    let same = (one_reading format).one_list known missing.shops had.shops missing.is_text had.is_text
    in let none = subst (λ (s : List NamedShop). first_named s name ≡ None) same missing.missing
    in none_some asked (first_named had.shops name) none had.picked
not_had format name known e asked (inr fault) had = (one_reading format).not_both known had.shops e had.is_text fault

-- ---- what is answered

-- the one refusal of the known bytes, or that memory ran out or a read failed
refused : (A : Type 0) (IsBad : List ℕ → ReadFault → Type 0) (old new : Device) (known : List ℕ) (e : ReadFault)
    (told : Fault) → ((x y : ReadFault) → IsBad known x → IsBad known y → x ≡ y)
    → (16777216 < length known → IsBad known TooLong) → old.bytes ≡ Some known → IsBad known e
    → IsSourceRefused old new IsBad told → IsRefusal {A = A} e (Err told)
refused A IsBad old new known e told one long same bad (inl none) = inl none.0
refused A IsBad old new known e told one long same bad (inr (inl left)) =
    grind (arith, common_steps, known_longer, left.1, old.bytes, new.bytes, left.0)
refused A IsBad old new known e told one long same bad (inr (inr (inl failed))) = inr (inl failed.0)
refused A IsBad old new known e told one long same bad (inr (inr (inr h))) =
    grind (arith, common_steps, known_text, h.found, h.text, h.read, h.is_bad, h.told)

ask_refused : (A : Type 0) (format : Format) (name : Option (List ℕ)) (old new : Device) (known : List ℕ)
    (e : ReadFault) (told : Fault) → old.bytes ≡ Some known → IsAskFault format name known e
    → IsSourceRefused old new (IsAskFault format name) told → IsRefusal {A = A} e (Err told)
ask_refused A format name old new known e told same bad h =
    refused A (IsAskFault format name) old new known e told (one_ask_fault format name known)
    (λ long. inr (too_long format known long)) same bad h

-- ---- the laws

not_listed : {s s' : Device} {Goes : List ℕ → Type 0} (format : Format) (known : List ℕ) (e : ReadFault)
    → s.bytes ≡ Some known → IsTextFault (grammar_of format) known e → Passes s s' (IsListOf format) Goes → ⊥
not_listed format known e same bad h =
    let list = (known_gives (IsListOf format) known same h).1
    in (one_reading format).not_both known list.shops e list.is_text bad

pub listing_refuses : ListingRefuses
listing_refuses args s s' k k' (Ok done) h text e same bad = not_listed args.format text e same bad h
listing_refuses args s s' k k' (Err told) (inl h) text e same bad =
    refused (Unit {0}) (IsTextFault (grammar_of args.format)) s s' text e told
    ((one_reading args.format).one_fault text) (too_long args.format text) same bad h.0
listing_refuses args s s' k k' (Err told) (inr h) text e same bad = absurd (not_listed args.format text e same bad h.1)

not_solved : {s s' : Device} {Goes : List ℕ → Type 0} (args : SolveArgs) (known : List ℕ) (e : ReadFault)
    → s.bytes ≡ Some known → IsAskFault args.format (name_in args.name) known e → Passes s s' (IsSolution args) Goes → ⊥
not_solved args known e same bad h =
    let right = (known_gives (IsSolution args) known same h).1.right
    in not_had args.format (name_in args.name) known e right.asked bad right.is_asked

pub solving_refuses : SolvingRefuses
solving_refuses args s s' k k' (Ok done) h text e same bad = not_solved args text e same bad h
solving_refuses args s s' k k' (Err told) (inl h) text e same bad =
    ask_refused (Unit {0}) args.format (name_in args.name) s s' text e told same bad h.0
solving_refuses args s s' k k' (Err told) (inr h) text e same bad = absurd (not_solved args text e same bad h.1)

not_picked : {s s' : Device} {After : List ℕ → Shop → Type 0} (args : CheckArgs) (known : List ℕ) (e : ReadFault)
    → s.bytes ≡ Some known → IsAskFault args.format (name_in args.name) known e → IsPicked args s s' After → ⊥
not_picked {s = s} {s' = s'} args known e same bad h =
    let format = args.format
    in let name = name_in args.name
    in not_had format name known e h.asked bad (subst (λ (bytes : List ℕ). IsAsked format name bytes h.asked)
    (known_text s s' h.text known h.read same) h.is_asked)

pub checking_refuses : CheckingRefuses
checking_refuses args s s' t t' k k' (Ok done) h text e same bad = not_picked args text e same bad h
checking_refuses args s s' t t' k k' (Err told) (inl h) text e same bad =
    ask_refused Bool args.format (name_in args.name) s s' text e told same bad h.0
checking_refuses args s s' t t' k k' (Err told) (inr (inl h)) text e same bad =
    absurd (not_picked args text e same bad h.0)
checking_refuses args s s' t t' k k' (Err told) (inr (inr h)) text e same bad =
    absurd (not_picked args text e same bad h.2)
