-- Defines which store fault the hub reports for an SQL error.
use Rattle.sqlite.specs.declared.error.Error.{Error}
use Rattle.sqlite.specs.declared.error.Error.TheVariants.{SqliteFailure}
use Rattle.sqlite.specs.declared.error.ErrorCode.TheVariants as code
use Rattle.hub_store.specs.declared.fault.StoreFault.{StoreFault}
use Rattle.hub_store.specs.declared.fault.StoreFault.TheVariants.{Memory, Disk}

-- `Memory` if memory ran out; any other error is a fault of the disk
abbrev pub fault_of : Error → StoreFault
fault_of (SqliteFailure code.OutOfMemory) = Memory
fault_of _ = Disk
