-- A group more has its share, if it has something in the region.
use Rattle.std.proofs.Common.{◌∙◌, ap, arith}
use Rattle.std.proofs.lemmas.List.{take_all}
use Rattle.fact_groups.specs.Groups.{Group}
use Rattle.staged_map.specs.Staged.{Places}
use Rattle.cube_state.specs.Answering.{groups_held, shares_of}
use Rattle.cube_state.proofs.GroupShares.{groups-next, groups-none, shares-none, shares-nothing, shares-seen, shares-some}
use Rattle.cube_state.proofs.state.State.shares_in.Goals as goal
use Rattle.cube_state.proofs.state.State.shares_in.Goals.{in-Some+then-share-gt0+in_ok-push, in-Some+else-share-gt0, in_default}

pub loop-i-preserved : goal.loop-i-preserved
loop-i-preserved g c =
    elim c.match-at.branch [
      | in-Some+then-share-gt0+in_ok-push w ↦
          ap (λ v. v.items) w.shares-is
          ∙ shares-some _ _ _ _ _ c.loop-i.invariant (groups-next _ c.loop-i.i _ _ w.in-Some.ensures.next) _ _ w.share_in-share.ensures w.if-share-gt0.true w.in_ok-push.ensures.items
      | in-Some+else-share-gt0 w ↦
          ap (λ v. v.items) w.shares-is ∙ shares-nothing _ _ _ _ _ c.loop-i.invariant (groups-next _ c.loop-i.i _ _ w.in-Some.ensures.next) _ w.share_in-share.ensures w.if-share-gt0.false
      | in_default w ↦ ap (λ v. v.items) w.shares-is ∙ shares-none _ _ _ _ c.loop-i.invariant (groups-none _ c.loop-i.i w.in_default.ensures.next)
    ]

pub returns : goal.returns
returns g c =
    c.loop-i.invariant
    ∙ ap (λ (places : Places Group). shares_of c.args.region.now (groups_held places)) (take_all c.loop-i.i c.self.inside.groups (omega (arith, c.loop-i-test.false, c.count-i-end.ensures.count)))
    ∙ shares-seen _ _ c.self.view_is c.args.region.now
