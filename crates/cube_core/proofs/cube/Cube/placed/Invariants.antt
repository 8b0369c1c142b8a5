use Rattle.schema_text.specs.Schema.{schema_policy}
use Rattle.cube_core.proofs.PlacedRows.{ArePlaced}
use Rattle.cube_core.proofs.cube.Cube.placed.Given as goal

-- some facts are placed, and the others are left
abbrev pub invariant-loop-fact : goal.invariant-loop-fact
invariant-loop-fact g l = ArePlaced (schema_policy (g.P.WeightPolicy.weigh l.self.policy) l.self.schema) l.self.schema.dims l.self.facts l.placed l.fact-iterator
