-- A dimension in which not each node has its place is written in version 2.
use Rattle.std.proofs.Common.{arith}
use Rattle.schema_text.specs.SchemaText.{are_places_from}
use Rattle.schema_text.proofs.Writing.{list_all-more}
use Rattle.schema_text.proofs.write.version_of.Goals as goal

pub returns-then-not-has_places : goal.returns-then-not-has_places
returns-then-not-has_places c = grind (arith, c.loop-d.invariant, c.has_places.ensures, list_all-more (are_places_from 0) c.args.space.now c.loop-d.d c.dim.result.now c.dim.ensures)
