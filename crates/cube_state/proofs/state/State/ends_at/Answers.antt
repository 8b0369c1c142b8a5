-- A code more has the ends of its group, if there is one.
use Rattle.std.proofs.Common.{ap, sym, subst, ◌∙◌}
use Rattle.std.proofs.lemmas.List.{take_more}
use Rattle.cube_state.specs.declared.ranging.Ends.{Ends}
use Rattle.cube_state.proofs.EndsSoFar.{AreEndsOver, ends-none, ends-some, group-missing}
use Rattle.cube_state.proofs.state.State.ends_at.Goals as goal
use Rattle.cube_state.proofs.state.State.ends_at.Goals.{in-Some, in_default}

pub loop-code-preserved : goal.loop-code-preserved
loop-code-preserved g c =
    elim c.match-get.branch [
      | in-Some w ↦
          ends-some _ _ _ _ _ _ _ _ c.loop-code.invariant _ (take_more c.args.codes.now c.loop-code.code-index 0 c.loop-code-test.true) _ _ w.group_ends.ensures
          (ap (λ (ends : Ends). ends.least) w.ends-is ∙ w.both_of-ends.ensures.least) (ap (λ (ends : Ends). ends.greatest) w.ends-is ∙ w.both_of-ends.ensures.greatest)
      | in_default w ↦
          subst (AreEndsOver _ _ _ _ _ _) (sym w.ends-is)
          (ends-none _ _ _ _ _ _ _ _ c.loop-code.invariant _ (take_more c.args.codes.now c.loop-code.code-index 0 c.loop-code-test.true)
          (group-missing g.P.WeightPolicy.weigh _ _ c.self.view_is c.self.invariant.state _ _ c.get.ensures w.in_default.is))
    ]
