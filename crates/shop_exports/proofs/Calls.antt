-- What the steps of a call say of its outcome.
use Rattle.std.proofs.Common.{◌≡◌, inl, inr, ℕ, Bool, true, false, List, Option, refl}
use Rattle.std.specs.{Borrow.Bor, Bool.then_some, Option.option_copied}
use Rattle.shop_text.specs.{Formats.grammar_of, Texts.{IsTextFault, OrNoMemory}, declared.formats.Format.Format}
use Rattle.shop_text.specs.declared.faults.ReadFault.{ReadFault}
use Rattle.shop_engine.specs.{Asking.{name_in, IsAskFault}, Checking.{schedule_in, IsCheckOf, IsCheckFault}}
use Rattle.shop_engine.specs.{Headline.{IsRightOf, IsDeterminedOf}, SolvedSchedules.PassesCheck}
use Rattle.shop_engine.specs.{declared.args.CheckArgs.CheckArgs, declared.args.SolveArgs.SolveArgs}
use Rattle.shop_exports.specs.{Outcomes.{is_refused, IsGiven}, Requests.{format_code, bytes_given}}
use Rattle.shop_exports.specs.Exports.{Serves, ListsFor, ChecksWith, IsReport, SolvesWith}
use Rattle.shop_exports.specs.declared.outcomes.CallResult.{CallResult}

-- the bytes of a schedule, if one is given
pub given_is : (is_given : Bool) (bytes : Bor (List ℕ))
    → option_copied (then_some is_given bytes) ≡ bytes_given is_given bytes.now
given_is false bytes = refl
given_is true bytes = refl

-- the text was seen as a slice
served : {Is : Bool → List ℕ → Type 0} {IsBad : ReadFault → Type 0} {room room' : List ℕ} {outcome : CallResult}
    (feasible : Bool) {text seen : List ℕ} → Is feasible text → seen ≡ text
    → IsGiven feasible seen room room' outcome → Serves Is IsBad room room' outcome
served {Is = Is} feasible {seen = seen} is same given = inl (record {
  feasible = feasible;
  text = seen;
  is_text = rw same is;
  given = given;
})

refused : {Is : Bool → List ℕ → Type 0} {IsBad : ReadFault → Type 0} {room : List ℕ} {outcome : CallResult}
    (fault : ReadFault) → IsBad fault → outcome ≡ is_refused fault → Serves Is IsBad room room outcome
refused fault bad told = inr (record { fault = fault; is_bad = bad; told = told; kept = refl })

pub list_refused : {code : ℕ} {text room : List ℕ} {outcome : CallResult} (format : Format) (fault : ReadFault)
    → format_code format ≡ code → OrNoMemory (IsTextFault (grammar_of format)) text fault
    → outcome ≡ is_refused fault → ListsFor code text room room outcome
list_refused format fault e bad told = inr (format, e, refused fault bad told)

pub check_served : {feasible : Bool} {text room room' out seen : List ℕ} {outcome : CallResult} (args : CheckArgs)
    (schedule : Option (List ℕ))
    → IsCheckOf args.format (name_in args.name) text (schedule_in text schedule) feasible out → seen ≡ out
    → IsGiven feasible seen room room' outcome → ChecksWith args text room room' schedule outcome
check_served {feasible = feasible} args schedule check same given = served feasible check same given

pub check_refused : {text room : List ℕ} {outcome : CallResult} (args : CheckArgs) (schedule : Option (List ℕ))
    (fault : ReadFault)
    → OrNoMemory (λ bytes. IsCheckFault args.format (name_in args.name) bytes (schedule_in bytes schedule)) text fault
    → outcome ≡ is_refused fault → ChecksWith args text room room schedule outcome
check_refused args schedule fault bad told = refused fault bad told

pub solve_served : {text room room' out seen : List ℕ} {outcome : CallResult} (args : SolveArgs)
    → IsRightOf args.format (name_in args.name) args.gantt text out → IsDeterminedOf args text out
    → PassesCheck args.format (name_in args.name) text out → seen ≡ out
    → IsGiven false seen room room' outcome → SolvesWith args text room room' outcome
solve_served {text = text} {out = out} args right determined schedule same given =
    let reports : IsReport args text false out = record {
      no_verdict = refl;
      solution = record { right = right; determined = determined };
      schedule = schedule;
    }
    in served false reports same given

pub solve_refused : {text room : List ℕ} {outcome : CallResult} (args : SolveArgs) (fault : ReadFault)
    → OrNoMemory (IsAskFault args.format (name_in args.name)) text fault
    → outcome ≡ is_refused fault → SolvesWith args text room room outcome
solve_refused args fault bad told = refused fault bad told
