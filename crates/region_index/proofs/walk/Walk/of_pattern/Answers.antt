-- The code is that of the pattern's region.
use Rattle.std.proofs.lemmas.Result.{on_ok_weaker}
use Rattle.region_index.proofs.Walking.{Probes-of}
use Rattle.region_index.proofs.walk.Walk.of_pattern.Goals as goal

pub returns-in-Some-clause-ok : goal.returns-in-Some-clause-ok
returns-in-Some-clause-ok g c = on_ok_weaker _ (Probes-of _ _ _ _ _ _ _ c.in-Some.ensures) c.probe.ensures.ok
