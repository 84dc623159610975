-- What was read, made and written is a transfer, also where the bytes of source and sink are known.
use Rattle.std.proofs.Common.{◌≡◌, ℕ, List, ◌++◌, Option, Some, None, Result, Ok, Err, OnOk, IfErr, rules, arith}
use Rattle.std.{proofs.lemmas.Grind.common_steps, specs.Io.KnownBytes.{Consumes, Appends, IsAtEnd}}
use Rattle.shop_text.specs.declared.faults.ReadFault.{ReadFault}
use Rattle.shop_engine.specs.{declared.faults.Fault.Fault, Headline.WhereKnown}
use Rattle.shop_engine.specs.Devices.{Device, IsReadToEnd, IsWritten, IsUnwritten, Passes, IsTransfer}

-- what was made of a text goes out
passes : {s s' : Device} {text out written : List ℕ} (Gives : List ℕ → List ℕ → Type 0) (Goes : List ℕ → Type 0)
    → IsReadToEnd s s' text → Gives text out → written ≡ out → Goes written → Passes s s' Gives Goes
passes {text = text} {out = out} Gives Goes read gives same goes = grind (arith, common_steps)

pub transferred : {s s' : Device} {text out written : List ℕ} (Gives : List ℕ → List ℕ → Type 0)
    (IsBad : List ℕ → ReadFault → Type 0) (k k' : Device) → IsReadToEnd s s' text → Gives text out → written ≡ out
    → (r : Result (Unit {0}) Fault) → OnOk r (IsWritten k k' written) → IfErr r (λ e. IsUnwritten k k' written e)
    → IsTransfer Gives IsBad s s' k k' r
transferred Gives IsBad k k' read gives same (Ok done) ok err = grind (arith, common_steps, passes)
transferred Gives IsBad k k' read gives same (Err fault) ok err = grind (arith, common_steps, passes, err.0, err.1)

-- known bytes that are read to the end are the text
pub known_read : (old new : Option (List ℕ)) (text known : List ℕ)
    → Consumes old new text → IsAtEnd new → old ≡ Some known → text ≡ known
known_read None new text known taken end e = absurd (search rules)
known_read (Some xs) None text known taken end e = absurd taken
known_read (Some xs) (Some ys) text known taken end e = grind (arith, common_steps)

-- and known bytes that a sink holds are followed by what it took
known_held : (old new : Option (List ℕ)) (text held : List ℕ)
    → Appends old new text → old ≡ Some held → new ≡ Some (held ++ text)
known_held None new text held took e = absurd (search rules)
known_held (Some xs) None text held took e = absurd took
known_held (Some xs) (Some ys) text held took e = grind (arith, common_steps)

-- what a transfer gives is what the sink holds then
pub where_known : (Gives Written : List ℕ → List ℕ → Type 0) (IsBad : List ℕ → ReadFault → Type 0) (s s' k k' : Device)
    (r : Result (Unit {0}) Fault) → ((text out : List ℕ) → Gives text out → Written text out)
    → IsTransfer Gives IsBad s s' k k' r → WhereKnown Written s k k' r
where_known Gives Written IsBad s s' k k' (Ok done) says h text held known holding ok =
    grind (
      arith,
      common_steps,
      known_read,
      known_held,
      s.bytes,
      h.text,
      h.read.taken,
      h.read.end,
      h.out,
      h.gives,
      k.bytes,
      h.goes.took,
    )
where_known Gives Written IsBad s s' k k' (Err fault) says h text held known holding ok = absurd (search rules)
