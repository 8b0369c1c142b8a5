-- A code more has the share of its group, if there is one that has something among the cells.
use Rattle.std.proofs.Common.{◌∙◌, ap}
use Rattle.cube_state.proofs.GroupShares.{groups-code, shares-none, shares-nothing, shares-some}
use Rattle.cube_state.proofs.state.State.shares_at.Goals as goal
use Rattle.cube_state.proofs.state.State.shares_at.Goals.{in-Some+then-share-gt0+in_ok-push, in-Some+else-share-gt0, in_default}

pub loop-code-preserved : goal.loop-code-preserved
loop-code-preserved g c =
    elim c.match-get.branch [
      | in-Some+then-share-gt0+in_ok-push w ↦
          ap (λ v. v.items) w.shares-is
          ∙ shares-some _ _ _ _ _ c.loop-code.invariant (groups-code _ c.args.codes.now c.loop-code.code-index 0 _ c.loop-code-test.true w.in-Some.ensures) _ _ w.share_in-share.ensures w.if-share-gt0.true w.in_ok-push.ensures.items
      | in-Some+else-share-gt0 w ↦
          ap (λ v. v.items) w.shares-is
          ∙ shares-nothing _ _ _ _ _ c.loop-code.invariant (groups-code _ c.args.codes.now c.loop-code.code-index 0 _ c.loop-code-test.true w.in-Some.ensures) _ w.share_in-share.ensures w.if-share-gt0.false
      | in_default w ↦
          ap (λ v. v.items) w.shares-is ∙ shares-none _ _ _ _ c.loop-code.invariant (groups-code _ c.args.codes.now c.loop-code.code-index 0 _ c.loop-code-test.true w.in_default.ensures)
    ]
