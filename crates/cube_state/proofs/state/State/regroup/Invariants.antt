-- What is made of the codes before this one.
use Rattle.std.proofs.Common.{take}
use Rattle.fact_records.specs.Shape.{width_of_all}
use Rattle.cube_state.specs.State.{policy_in}
use Rattle.cube_state.proofs.Drafted.{IsDraft}
use Rattle.cube_state.proofs.state.State.regroup.Given as goal

abbrev pub invariant-loop-code : goal.invariant-loop-code
invariant-loop-code g l = IsDraft (policy_in g.P.WeightPolicy.weigh l.self) (width_of_all l.self.shape.measures) l.self.dims l.moves.edit l.self.facts (take l.code-index l.codes) l.draft.groups l.draft.spread_anew l.draft.others l.draft.before l.draft.after
