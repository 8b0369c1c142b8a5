-- The names before this one are copied.
use Rattle.std.proofs.Common.{◌≡◌, take}
use Rattle.schema_text.proofs.schema.copied_names.Given as goal

abbrev pub invariant-loop-name : goal.invariant-loop-name
invariant-loop-name l = l.copies ≡ take l.name-index l.names
