-- What `solve_text` answers, on every device.
--     IsSolution args text written                           the report that is written for a text
--     IsSolving args source source' sink sink' result        what is answered
use Rattle.std.specs.Prelude.{ℕ, List, Result}
use Rattle.shop_engine.specs.{Headline.{IsRightOf, IsDeterminedOf}, declared.args.SolveArgs.SolveArgs}
use Rattle.shop_engine.specs.{declared.faults.Fault.Fault, Asking.{name_in, IsAskFault}, Devices.{Device, IsTransfer}}

pub record IsSolution (args : SolveArgs) (text written : List ℕ) : Type 0 where
  pub right : IsRightOf args.format (name_in args.name) args.gantt text written
  pub determined : IsDeterminedOf args text written

abbrev pub IsSolving : SolveArgs → Device → Device → Device → Device → Result (Unit {0}) Fault → Type 0
IsSolving args source source' sink sink' result =
    IsTransfer (IsSolution args) (IsAskFault args.format
    (name_in args.name)) source source' sink sink' result
