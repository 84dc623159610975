-- What the getters of clap's matches read, by the rows of the matches.
use Rattle.std.proofs.{lemmas.Grind.common_steps, Common.{Result, Ok, Err, arith, ◌<◌, ◌^◌, ◌≡◌, ◌∙◌, ℕ, sym, ap, refl}}
use Rattle.std.{proofs.Common.{subst, Option, Some, None, Bool, true, false, true≢false}, specs.Prelude.{codes, is_ok}}
use Rattle.std.specs.{Prelude.is_some, Str.Parse.{IsNumeral, digits_value, without_leading_plus}, Result.IsErrAnd}
use Rattle.clap.specs.{Words.{Text, first_value, one_text, rows_of}, declared.parser.matches.Found.Found}
use Rattle.clap.proofs.WalkLemmas.{first_value-rows, one_text-rows}
use Rattle.shop_program.specs.CommandLine.{HasText, HasNumber, HasFlag, MayHave, NumberIs, UnlessNoMemory}
use Rattle.shop_program.specs.{inner.Arguments.Reads, declared.line_faults.LineFault.LineFault}
use Rattle.shop_program.specs.declared.line_faults.LineFault.TheVariants.{NoMemory, Usage}

pub has_text : (f : Found) (id read text : Text) → Some read ≡ first_value f id → read ≡ text → HasText
    (rows_of f) id text
has_text f id read text given is = sym (first_value-rows f id) ∙ (sym given ∙ ap Some is)

pub may_have : (f : Found) (id : Text) (text : Option Text) → text ≡ first_value f id → MayHave (rows_of f) id text
may_have f id text given = sym (first_value-rows f id) ∙ sym given

pub has_number : (f : Found) (id : Text) (n : ℕ) → (one_text f id ≡ None → Some n ≡ None)
    → ((t : Text) → one_text f id ≡ Some t → NumberIs t n) → HasNumber (rows_of f) id n
has_number f id n none some = grind (arith, common_steps, one_text-rows)

pub has_flag : (f : Found) (id : Text) (flag : Bool) → (one_text f id ≡ Some (codes "true") → flag ≡ true)
    → (one_text f id ≡ Some (codes "false") → flag ≡ false) → HasFlag (rows_of f) id flag
has_flag f id flag given absent = grind (arith, common_steps, one_text-rows)

-- ---- what isn't there

-- a fault is want of memory, or P holds
pub unless : (P : Type 0) (fault : LineFault) → P → UnlessNoMemory P fault
unless P NoMemory p = tt
unless P (Usage error) p = p

pub no_value : (f : Found) (id text : Text) → first_value f id ≡ None → HasText (rows_of f) id text → ⊥
no_value f id text none has = let e = first_value-rows f id in absurd cc

pub other_value : (f : Found) (id read text : Text) → first_value f id ≡ Some read → (read ≡ text → ⊥)
    → HasText (rows_of f) id text → ⊥
other_value f id read text is differ has = let e = first_value-rows f id in differ cc

-- no number that fits is read
pub no_number : (f : Found) (id : Text) (n : ℕ) → ((t : Text) → one_text f id ≡ Some t
    → IsNumeral 10 (without_leading_plus t) × (digits_value 10 (without_leading_plus t) < 2 ^ 64) → ⊥)
    → n < 2 ^ 64 → HasNumber (rows_of f) id n → ⊥
no_number f id n unread fits has = grind (arith, common_steps, one_text-rows, has.2.1, has.0, has.1, has.2.0)

-- what follows where it isn't want of memory
pub weaker : (P Q : Type 0) → (P → Q) → (fault : LineFault) → UnlessNoMemory P fault → UnlessNoMemory Q fault
weaker P Q f NoMemory h = tt
weaker P Q f (Usage error) h = f h

-- a fault that is passed on
pub passed_on : {A : Type 0} (P : Type 0) (Is : A → Type 0) (r : Result A LineFault) (fault : LineFault)
    → (P → (value : A) → Is value → ⊥) → UnlessNoMemory P fault → IsErrAnd r (λ e. e ≡ fault) → Reads Is r
passed_on P Is (Ok value) fault h p is = absurd is
passed_on {A = A} P Is (Err e) fault h p is = grind (arith, common_steps, weaker)

-- a value that is there is read, and where there is none, nothing of the kind is
pub or_unread : {A : Type 0} (Is : A → Type 0) (o : Option A) (r : Result A LineFault) → is_ok r ≡ is_some o
    → ((value : A) → o ≡ Some value → r ≡ Ok value) → ((value : A) → o ≡ Some value → Is value)
    → (o ≡ None → (value : A) → Is value → ⊥) → Reads Is r
or_unread Is None (Ok value) e read some none = absurd (true≢false e)
or_unread {A = A} Is None (Err fault) e read some none = unless ((value : A) → Is value → ⊥) fault (none refl)
or_unread Is (Some value) r e read some none = subst (Reads Is) (sym (read value refl)) (some value refl)
