use Rattle.std.proofs.Common.{◌≡◌, take}
use Rattle.fact_records.proofs.copies.copy_names.Given as goal

-- the names before this one are copied
abbrev pub invariant-loop-name : goal.invariant-loop-name
invariant-loop-name l = l.copies ≡ take l.name-index l.name-items
