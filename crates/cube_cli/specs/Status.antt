-- The exit status of each end.
use Rattle.std.specs.Prelude.{ℕ, zero, suc}
use Rattle.cube_cli.specs.declared.end.End.{End}
use Rattle.cube_cli.specs.declared.end.End.TheVariants.{Finished, Usage, Schema, NoCube, HasCube, BadStore, ReadFault, WriteFault, KeepFault, Memory, TooLong, BadRecord, ImportRows, BadFeed, Order, Base, Differs}

abbrev pub status_of : End → ℕ
status_of (Finished zero) = 0
status_of (Finished (suc _)) = 1
status_of Usage = 2
status_of (Schema _ _) = 3
status_of NoCube = 4
status_of HasCube = 4
status_of (BadStore _) = 5
status_of (ReadFault _) = 6
status_of (WriteFault _) = 7
status_of (KeepFault _) = 8
status_of (Memory _) = 9
status_of (TooLong _) = 10
status_of (BadRecord _) = 11
status_of (ImportRows _) = 12
status_of (BadFeed _ _) = 13
status_of (Order _ _) = 14
status_of (Base _) = 15
status_of (Differs _ _) = 16
