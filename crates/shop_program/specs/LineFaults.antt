-- What a fault of clap says of the command line.
use Rattle.clap.specs.{Values.kind_of, declared.error.Error.Error, declared.error.kind.ErrorKind.ErrorKind}
use Rattle.clap.specs.declared.error.kind.ErrorKind.TheVariants.{OutOfMemory}
use Rattle.shop_program.specs.declared.line_faults.LineFault.{LineFault}
use Rattle.shop_program.specs.declared.line_faults.LineFault.TheVariants.{NoMemory, Usage}

abbrev pub line_fault_by : ErrorKind → Error → LineFault
line_fault_by OutOfMemory fault = NoMemory
line_fault_by kind fault = Usage fault

-- that memory ran out where clap says so, else clap's fault
abbrev pub line_fault_of : Error → LineFault
line_fault_of fault = line_fault_by (kind_of fault) fault
