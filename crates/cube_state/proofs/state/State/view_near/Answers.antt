-- The groups at the codes are put into one view without entries, and so it answers as all facts do under the region.
use Rattle.std.proofs.Common.{◌∙◌}
use Rattle.cube_state.proofs.TableGroups.{touching-held}
use Rattle.cube_state.proofs.TableViews.{fits-seen, groups-regions, made-seen}
use Rattle.cube_state.proofs.state.State.view_near.Goals as goal

pub puts_at-requires : goal.puts_at-requires
puts_at-requires g c = groups-regions g.P.WeightPolicy.weigh _ c.self.invariant.state (g.met.P.WeightPolicy.bound c.self.inside.policy) c.columns-columns.ensures.shape c.self.invariant.state.trees

pub stage-requires-clause-changes : goal.stage-requires-clause-changes
stage-requires-clause-changes g c =
    let puts = c.deref.ensures.value ∙ c.in_ok-changes.ensures in
    fits-seen g.P.WeightPolicy.weigh _ _ c.self.view_is c.self.invariant.state.trees c.args.r c.requires.region c.self.invariant.state (g.met.P.WeightPolicy.bound c.self.inside.policy) c.columns-columns.ensures.shape
    c.args.cuts c.args.codes.now _ c.columns-columns.ensures.columns c.requires.depths (touching-held _ _ c.args.r c.args.codes.now c.requires.codes) _ puts _ c.in_ok-view.ensures

pub returns : goal.returns
returns g c =
    let puts = c.deref.ensures.value ∙ c.in_ok-changes.ensures in
    made-seen g.P.WeightPolicy.weigh _ _ c.self.view_is c.self.invariant.state.trees c.args.r c.requires.region c.self.invariant.state (g.met.P.WeightPolicy.bound c.self.inside.policy) c.columns-columns.ensures.shape
    c.args.cuts c.args.codes.now _ c.columns-columns.ensures.columns c.requires.depths (touching-held _ _ c.args.r c.args.codes.now c.requires.codes) _ puts _ c.in_ok-view.ensures
    c.stage.new.self c.install.new.self c.in_ok-stage.ensures.same (c.install.ensures.after c.self.inside.space c.deref.result.now c.in_ok-stage.ensures.staged) c.columns.result c.columns.ensures.columns c.columns.ensures.each
