-- What an error of SQL counts as.
use Rattle.sqlite.specs.declared.error.Error.{Error}
use Rattle.sqlite.specs.declared.error.Error.TheVariants.{InvalidColumnType, IntegralValueOutOfRange, SqliteFailure, Utf8Error}
use Rattle.sqlite.specs.declared.error.ErrorCode.{ErrorCode}
use Rattle.sqlite.specs.declared.error.ErrorCode.TheVariants.{CannotOpen, Closed, ConstraintViolation, DatabaseBusy, DatabaseCorrupt, DiskFull, OutOfMemory, SystemIoFailure, TooBig, TypeMismatch}
use Rattle.sqlite_file.specs.declared.fault.Fault.{Fault}
use Rattle.sqlite_file.specs.declared.fault.Fault.TheVariants as fault_kind
use Rattle.sqlite_file.specs.declared.reason.Reason.{Reason}
use Rattle.sqlite_file.specs.declared.reason.Reason.TheVariants as reason

-- what a code of SQL's tells of the file
abbrev pub reason_of : ErrorCode → Reason
reason_of DatabaseBusy = reason.InUse
reason_of CannotOpen = reason.NoPermission
reason_of DiskFull = reason.DiskFull
reason_of DatabaseCorrupt = reason.Damaged
reason_of SystemIoFailure = reason.Disk
reason_of Closed = reason.Disk
reason_of (ConstraintViolation rule) = reason.Refused
reason_of TypeMismatch = reason.Refused
reason_of TooBig = reason.Refused
reason_of code = reason.Unreadable

-- out of memory where SQL tells that, and else a fault of the outside with its reason
abbrev pub fault_of_error : Error → Fault
fault_of_error (SqliteFailure OutOfMemory) = fault_kind.Memory
fault_of_error (SqliteFailure code) = fault_kind.Outside (reason_of code)
fault_of_error (InvalidColumnType at kind) = fault_kind.Outside reason.Row
fault_of_error (IntegralValueOutOfRange at) = fault_kind.Outside reason.Row
fault_of_error (Utf8Error at) = fault_kind.Outside reason.Row
fault_of_error error = fault_kind.Outside reason.Unreadable
