use Rattle.std.proofs.Common.{◌≡◌, drop}
use Rattle.std.specs.List.{list_all}
use Rattle.schema_text.specs.SchemaText.{are_places_from}
use Rattle.schema_text.proofs.write.version_of.Given as goal

-- the nodes of the dimensions before this one have their places
abbrev pub invariant-loop-d : goal.invariant-loop-d
invariant-loop-d l = list_all (are_places_from 0) l.space ≡ list_all (are_places_from 0) (drop l.d l.space)
