use Rattle.std.proofs.Common.{◌≡◌, drop}
use Rattle.std.specs.Cmp.Lexicographic.{pointwise}
use Rattle.std.specs.Str.{bytes_eq}
use Rattle.csv.specs.Records.{fields_of}
use Rattle.csv_facts.proofs.columns.are_same.Given as goal

-- the fields before this one are the same
abbrev pub invariant-loop-i : goal.invariant-loop-i
invariant-loop-i l = pointwise bytes_eq (fields_of l.a) (fields_of l.b) ≡ pointwise bytes_eq (drop l.i (fields_of l.a)) (drop l.i (fields_of l.b))
