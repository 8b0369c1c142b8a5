-- The walk begins before the first dimension, and what it finds comes to what is there.
use Rattle.std.proofs.Common.{subst}
use Rattle.std.proofs.lemmas.Result.{on_ok_weaker}
use Rattle.region_index.specs.Patterns.{HasPatterns}
use Rattle.region_index.proofs.ByPattern.{found-by_pattern, found-by_walk, steps-fewer}
use Rattle.region_index.proofs.Walking.{steps-either, steps-over, way-start}
use Rattle.region_index.proofs.region_index.RegionIndex.held_codes_by_pattern.Goals as goal

pub of_patterns-requires : goal.of_patterns-requires
of_patterns-requires g c = way-start _ _ c.cell_at.ensures.region c.dims.ensures.trees c.dims.ensures.accepted

pub over-requires : goal.over-requires
over-requires g c = way-start _ _ c.cell_at.ensures.region c.dims.ensures.trees c.dims.ensures.accepted

pub returns-in-Some-clause-codes : goal.returns-in-Some-clause-codes
returns-in-Some-clause-codes g c =
    let has = subst (HasPatterns c.args.space.now c.args.self.now) c.in-Some.ensures.listed c.requires.patterns in
    on_ok_weaker _ (found-by_pattern c.args.self.now c.args.space.now _ _ has _ c.args.cell _ _ _ _ c.self.view_is c.cell_at.ensures.cell) c.of_patterns.ensures.ok

pub returns-in-Some-clause-regions : goal.returns-in-Some-clause-regions
returns-in-Some-clause-regions g c =
    steps-fewer _ _ _ c.cell_at.ensures.cell _ _ _ c.in-Some.ensures.once.once (steps-either _ _ _ _ _ _ _ c.of_patterns.ensures.ok c.of_patterns.ensures.err)

pub returns-in-None-clause-codes : goal.returns-in-None-clause-codes
returns-in-None-clause-codes g c =
    on_ok_weaker _ (found-by_walk c.args.self.now _ _ c.args.cell _ _ _ _ _ c.self.view_is c.cell_at.ensures.cell) c.over.ensures.ok

pub returns-in-None-clause-regions : goal.returns-in-None-clause-regions
returns-in-None-clause-regions g c =
    steps-over _ _ _ _ _ c.cell_at.ensures.cell (steps-either _ _ _ _ _ _ _ c.over.ensures.ok c.over.ensures.err)
