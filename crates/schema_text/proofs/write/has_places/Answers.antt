-- The node at a place has it as its number, or not.
use Rattle.std.proofs.Common.{arith}
use Rattle.std.proofs.lemmas.Bool.Decides.{nat_tests}
use Rattle.schema_text.proofs.Writing.{are_places_from-more}
use Rattle.schema_text.proofs.write.has_places.Goals as goal

pub returns-then-at-place : goal.returns-then-at-place
returns-then-at-place c = grind (arith, nat_tests, c.loop-place.invariant, are_places_from-more c.args.dim.now c.loop-place.place c.at.result c.at.ensures.number)

pub loop-place-preserved : goal.loop-place-preserved
loop-place-preserved c = grind (arith, nat_tests, c.loop-place.invariant, are_places_from-more c.args.dim.now c.loop-place.place c.at.result c.at.ensures.number)
