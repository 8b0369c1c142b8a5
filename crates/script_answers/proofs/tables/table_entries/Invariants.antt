use Rattle.std.proofs.Common.{◌≡◌, map, take}
use Rattle.script_answers.specs.Answers.{table_entry}
use Rattle.script_answers.proofs.tables.table_entries.Given as goal

-- the regions before this one are told
abbrev pub invariant-loop-entry : goal.invariant-loop-entry
invariant-loop-entry l = l.told ≡ map (table_entry l.schema l.figure) (take l.entry-index l.entries)
