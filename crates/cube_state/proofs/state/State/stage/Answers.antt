-- Room leaves the state what it is, and what is staged is what the edit makes of it.
use Rattle.std.proofs.Common.{◌≡◌, ◌∙◌, refl, subst, true}
use Rattle.staged_map.specs.Staged.{have_places}
use Rattle.fact_indexes.proofs.SameViews.{cuts-same}
use Rattle.cube_state.proofs.Rooming.{content-kept, drops-seen, fits-seen, knowing-kept, puts-seen, sets-staged, views-untouched}
use Rattle.cube_state.proofs.state.State.stage.Goals as goal

pub stage-requires-clause-changes : goal.stage-requires-clause-changes
stage-requires-clause-changes g c = fits-seen g.P.WeightPolicy.weigh _ _ c.self.view_is c.self.invariant.state c.args.regrouped.now.groups c.args.changes.now c.requires.changes

pub returns-in_err-reserve-clause-same : goal.returns-in_err-reserve-clause-same
returns-in_err-reserve-clause-same g c = content-kept g.P.WeightPolicy.weigh _ _ c.self.view_is c.self.invariant.state _ _ _ refl c.in_err-reserve.ensures.same_facts

pub invariant_of-self-in_err-stats : goal.invariant_of-self-in_err-stats
invariant_of-self-in_err-stats g c =
    knowing-kept g.P.WeightPolicy.weigh _ _ c.self.view_is c.self.invariant.state _ c.self.invariant.known _ _ _ refl c.in_ok-reserve.ensures.same_facts
    (record {
      stats = c.in_err-stats.ensures.same_stats;
      index = c.in_err-stats.ensures.same_index.values;
      groups = c.in_ok-reserve.ensures.same_groups;
      views = views-untouched c.self.inside.views;
      rows = refl;
    })

pub returns-in_err-stats-clause-same : goal.returns-in_err-stats-clause-same
returns-in_err-stats-clause-same g c = content-kept g.P.WeightPolicy.weigh _ _ c.self.view_is c.self.invariant.state _ _ _ refl c.in_ok-reserve.ensures.same_facts

pub invariant_of-self-in_err-views : goal.invariant_of-self-in_err-views
invariant_of-self-in_err-views g c =
    knowing-kept g.P.WeightPolicy.weigh _ _ c.self.view_is c.self.invariant.state _ c.self.invariant.known _ _ _ (cuts-same _ _ c.in_err-views.ensures.same) c.in_ok-reserve.ensures.same_facts
    (record {
      stats = c.in_ok-stats.ensures.same_stats;
      index = c.in_ok-stats.ensures.same_index.values;
      groups = c.in_ok-reserve.ensures.same_groups;
      views = c.in_err-views.ensures.same;
      rows = refl;
    })

pub returns-in_err-views-clause-same : goal.returns-in_err-views-clause-same
returns-in_err-views-clause-same g c =
    content-kept g.P.WeightPolicy.weigh _ _ c.self.view_is c.self.invariant.state _ _ _ (cuts-same _ _ c.in_err-views.ensures.same) c.in_ok-reserve.ensures.same_facts

pub invariant_of-self-2 : goal.invariant_of-self-2
invariant_of-self-2 g c =
    knowing-kept g.P.WeightPolicy.weigh _ _ c.self.view_is c.self.invariant.state _ c.self.invariant.known _ _ _ (cuts-same _ _ c.in_ok-views.ensures.same) c.in_ok-reserve.ensures.same_facts
    (record {
      stats = c.in_ok-stats.ensures.same_stats;
      index = c.in_ok-stats.ensures.same_index.values;
      groups = c.in_ok-reserve.ensures.same_groups;
      views = c.in_ok-views.ensures.same;
      rows = refl;
    })

pub returns-clause-same : goal.returns-clause-same
returns-clause-same g c =
    content-kept g.P.WeightPolicy.weigh _ _ c.self.view_is c.self.invariant.state _ _ _ (cuts-same _ _ c.in_ok-views.ensures.same) c.in_ok-reserve.ensures.same_facts

pub returns-clause-sets : goal.returns-clause-sets
returns-clause-sets g c =
    sets-staged g.P.WeightPolicy.weigh _ _ c.self.view_is c.self.invariant.state c.args.moves.now c.args.regrouped.now c.args.changes.now c.requires.moves c.requires.regrouped c.requires.follow c.requires.changes c.columns.ensures.shape _ _ _
    (record {
      stats = c.in_ok-stats.ensures.same_stats;
      index = c.in_ok-stats.ensures.same_index.values;
      groups = c.in_ok-reserve.ensures.same_groups;
      views = c.in_ok-views.ensures.same;
      rows = refl;
    })
    (record {
      room = c.in_ok-reserve.ensures.room;
      stats = c.in_ok-stats.ensures.made;
      stats_placed = c.in_ok-stats.ensures.placed;
      index = c.in_ok-stats.ensures.ready;
      drops = c.in_ok-stats.ensures.drops ∙ drops-seen g.P.WeightPolicy.weigh _ _ c.self.view_is c.self.invariant.state c.args.moves.now c.requires.moves;
      puts = c.in_ok-stats.ensures.puts ∙ puts-seen g.P.WeightPolicy.weigh _ _ c.self.view_is c.self.invariant.state c.args.moves.now c.requires.moves;
      groups = refl;
      groups_placed = subst (λ es. have_places c.reserve.new.groups es ≡ true) c.as_slice.ensures c.in_ok-reserve.ensures.placed;
      views = c.in_ok-views.ensures.staged;
    })
    _ c.in_ok-reserve.ensures.same_facts
