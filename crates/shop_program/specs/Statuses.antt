-- Exit statuses: 0 done, 1 an infeasible schedule, 2 a faulty command line or a call for help, 3 a
-- text that is refused, 4 a device that failed, 5 want of memory.
use Rattle.shop_engine.specs.declared.faults.Fault.TheVariants as engine
use Rattle.std.specs.Prelude.{ℕ, Bool, true, false}
use Rattle.shop_engine.specs.declared.faults.Fault.{Fault}
use Rattle.shop_program.specs.declared.line_faults.LineFault.{LineFault}
use Rattle.shop_program.specs.declared.line_faults.LineFault.TheVariants.{NoMemory, Usage}

-- of a fault
abbrev pub status_of : Fault → ℕ
status_of engine.NoMemory = 5
status_of engine.ReadFailed = 4
status_of engine.WriteFailed = 4
status_of refused = 3

-- of a fault of the command line
abbrev pub status_of_line : LineFault → ℕ
status_of_line NoMemory = 5
status_of_line (Usage error) = 2

-- of a verdict, by whether the schedule is feasible
abbrev pub status_of_verdict : Bool → ℕ
status_of_verdict true = 0
status_of_verdict false = 1
