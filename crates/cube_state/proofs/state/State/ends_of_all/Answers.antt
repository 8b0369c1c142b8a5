-- A group more has its ends.
use Rattle.std.proofs.Common.{ap, sym, subst, ◌∙◌}
use Rattle.cube_state.specs.declared.ranging.Ends.{Ends}
use Rattle.cube_state.proofs.EndsSoFar.{AreEndsOver, ends-same, ends-some, group-placed, keys-next, keys-none}
use Rattle.cube_state.proofs.state.State.ends_of_all.Goals as goal
use Rattle.cube_state.proofs.state.State.ends_of_all.Goals.{in-Some, in_default}

pub group_ends-requires-clause-group : goal.group_ends-requires-clause-group
group_ends-requires-clause-group g c = group-placed g.P.WeightPolicy.weigh _ _ c.self.view_is c.self.invariant.state _ _ _ _ c.count-i-end.ensures.distinct c.at.ensures.entry c.in-Some.is

pub loop-i-preserved : goal.loop-i-preserved
loop-i-preserved g c =
    elim c.match-at.branch [
      | in-Some w ↦
          ends-some _ _ _ _ _ _ _ _ c.loop-i.invariant _ (keys-next _ c.loop-i.i _ _ w.in-Some.ensures.next) _ _ w.group_ends.ensures
          (ap (λ (ends : Ends). ends.least) w.ends-is ∙ w.both_of-ends.ensures.least) (ap (λ (ends : Ends). ends.greatest) w.ends-is ∙ w.both_of-ends.ensures.greatest)
      | in_default w ↦ subst (AreEndsOver _ _ _ _ _ _) (sym w.ends-is) (ends-same _ _ _ _ _ _ _ _ c.loop-i.invariant (keys-none _ c.loop-i.i w.in_default.ensures.next))
    ]
