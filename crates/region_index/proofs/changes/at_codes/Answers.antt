-- The ids at all codes are gathered.
use Rattle.std.proofs.Common.{◌∙◌, ap}
use Rattle.std.proofs.lemmas.List.{take_all}
use Rattle.std.specs.List.{flat_map}
use Rattle.region_index.specs.Content.{ids_at}
use Rattle.region_index.proofs.changes.at_codes.Goals as goal

pub returns : goal.returns
returns c = c.loop-code.invariant ∙ ap (flat_map (ids_at c.args.groups.now)) (take_all c.loop-code.code-index c.args.codes.now c.loop-code-test.false)
