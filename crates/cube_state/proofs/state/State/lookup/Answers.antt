-- The allocation of a fact is the spread of the group of its region.
use Rattle.std.proofs.Common.{ap, ◌∙◌}
use Rattle.std.specs.Option.{option_copied}
use Rattle.cube_state.proofs.Looking.{found-region, looked-cells, looked-never, looked-none, looked-some}
use Rattle.cube_state.proofs.state.State.lookup.Goals as goal

pub returns-in_err-fact-clause-rows : goal.returns-in_err-fact-clause-rows
returns-in_err-fact-clause-rows g c = ap option_copied c.from_residual.ensures ∙ looked-none g.P.WeightPolicy.weigh _ _ c.self.view_is _ _ c.get.ensures c.in_err-fact.was

pub code-requires : goal.code-requires
code-requires g c = found-region _ _ _ _ _ _ c.self.invariant.state.valid c.get.ensures c.in_ok-fact.was

pub returns-in_err-group-clause-rows : goal.returns-in_err-group-clause-rows
returns-in_err-group-clause-rows g c =
    ap option_copied c.from_residual-in_err-group.ensures
    ∙ looked-never g.P.WeightPolicy.weigh _ _ c.self.view_is _ _ c.get.ensures _ _ _ c.in_ok-fact.was c.code.ensures.code c.self.invariant.state c.self.invariant.state.trees c.get-2.ensures c.in_err-group.was

pub returns-clause-rows : goal.returns-clause-rows
returns-clause-rows g c =
    looked-some g.P.WeightPolicy.weigh _ _ c.self.view_is _ _ c.get.ensures _ _ _ c.in_ok-fact.was c.code.ensures.code c.self.invariant.state c.self.invariant.state.trees c.get-2.ensures _ _ c.in_ok-group.was c.group.view_is

pub returns-clause-cells : goal.returns-clause-cells
returns-clause-cells g c =
    looked-cells g.P.WeightPolicy.weigh _ _ c.self.view_is _ _ c.get.ensures _ _ _ c.in_ok-fact.was c.code.ensures.code c.self.invariant.state c.self.invariant.state.trees c.get-2.ensures _ _ c.in_ok-group.was c.group.view_is
