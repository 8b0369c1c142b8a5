use Rattle.std.proofs.Common.{◌≤◌, ◌<◌, length}
use Rattle.std.proofs.lemmas.List.Elements.{All-weaker}
use Rattle.cube_model.specs.Limits.{DEN_LIMIT, MAX_CELLS}
use Rattle.world_law.specs.Placed.{IsPlacedFact}
use Rattle.world_law.proofs.sum.enumerate.Goals as goal

-- placed facts are what is asked of them
pub judge-requires-clause-few : goal.judge-requires-clause-few
judge-requires-clause-few c = All-weaker (IsPlacedFact c.args.space.now c.args.columns) (λ p. length p.rows ≤ MAX_CELLS) (λ p is. is.few) c.args.placed.now c.requires.placed

pub judge-requires-clause-dens : goal.judge-requires-clause-dens
judge-requires-clause-dens c =
    All-weaker (IsPlacedFact c.args.space.now c.args.columns) (λ p. (1 ≤ p.den) × (p.den < DEN_LIMIT)) (λ p is. (is.allocation.some, is.allocation.limit)) c.args.placed.now c.requires.placed
