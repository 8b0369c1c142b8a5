-- The kinds of ends, and whether an end is of one among some.
use Rattle.std.specs.Prelude.{Bool, true, false, not, IsTrue, List}
use Rattle.std.specs.List.{list_any}
use Rattle.cube_cli.specs.declared.end.End.{End}
use Rattle.cube_cli.specs.declared.end.End.TheVariants as ends
use Rattle.store_audit.specs.declared.finding.Finding.{Finding}
use Rattle.store_audit.specs.declared.finding.Finding.TheVariants as finding

-- The kinds of ends. A content is bad in its schema or its facts where that is found first, and not in its rows alone.
pub data EndKind : Type 0 where
  Finished : EndKind
  Usage : EndKind
  Schema : EndKind
  NoCube : EndKind
  HasCube : EndKind
  BadStore : EndKind
  BadFacts : EndKind
  ReadFault : EndKind
  WriteFault : EndKind
  KeepFault : EndKind
  Memory : EndKind
  TooLong : EndKind
  BadRecord : EndKind
  ImportRows : EndKind
  BadFeed : EndKind
  Order : EndKind
  Base : EndKind
  Differs : EndKind

abbrev pub is_of_rows : Finding → Bool
is_of_rows (finding.Rows _ _ _) = true
is_of_rows found = false

abbrev pub is_kind : EndKind → End → Bool
is_kind Finished (ends.Finished _) = true
is_kind Usage ends.Usage = true
is_kind Schema (ends.Schema _ _) = true
is_kind NoCube ends.NoCube = true
is_kind HasCube ends.HasCube = true
is_kind BadStore (ends.BadStore _) = true
is_kind BadFacts (ends.BadStore found) = not (is_of_rows found)
is_kind ReadFault (ends.ReadFault _) = true
is_kind WriteFault (ends.WriteFault _) = true
is_kind KeepFault (ends.KeepFault _) = true
is_kind Memory (ends.Memory _) = true
is_kind TooLong (ends.TooLong _) = true
is_kind BadRecord (ends.BadRecord _) = true
is_kind ImportRows (ends.ImportRows _) = true
is_kind BadFeed (ends.BadFeed _ _) = true
is_kind Order (ends.Order _ _) = true
is_kind Base (ends.Base _) = true
is_kind Differs (ends.Differs _ _) = true
is_kind kind end = false

-- an end is of one of these kinds
abbrev pub IsAmong : List EndKind → End → Type 0
IsAmong kinds end = IsTrue (list_any (λ kind. is_kind kind end) kinds)
