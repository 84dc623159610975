-- The refusals of texts among those of the engines.
use Rattle.shop_text.specs.declared.faults.ReadFault.TheVariants as text
use Rattle.shop_engine.specs.declared.faults.Fault.TheVariants as engine
use Rattle.shop_text.specs.declared.faults.ReadFault.{ReadFault}
use Rattle.shop_engine.specs.declared.faults.Fault.{Fault}

-- the refusal of the same name and line
abbrev pub fault_of : ReadFault → Fault
fault_of text.NoMemory = engine.NoMemory
fault_of text.TooLong = engine.TooLong
fault_of text.NoInstance = engine.NoInstance
fault_of (text.BadShape n) = engine.BadShape n
fault_of (text.BadSize n) = engine.BadSize n
fault_of (text.BadRow n) = engine.BadRow n
fault_of (text.Truncated n) = engine.Truncated n
fault_of (text.BadMachine n) = engine.BadMachine n
fault_of (text.BadTime n) = engine.BadTime n
fault_of text.NoSuchName = engine.NoSuchName
fault_of (text.BadTable n) = engine.BadTable n
