use Rattle.std.proofs.Common.{◌≡◌, drop}
use Rattle.schema_text.specs.SchemaText.{are_places_from}
use Rattle.schema_text.proofs.write.has_places.Given as goal

-- the nodes before this one have their places
abbrev pub invariant-loop-place : goal.invariant-loop-place
invariant-loop-place l = are_places_from 0 l.dim ≡ are_places_from l.place (drop l.place l.dim)
