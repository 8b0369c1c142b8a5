-- The pairs are of the ids that the edit refreshes.
use Rattle.std.proofs.Common.{sym, subst}
use Rattle.edit_plan.specs.Refreshing.{AreRefreshed}
use Rattle.cube_state.specs.State.{policy_in}
use Rattle.edit_plan.proofs.planning.list_changes.Goals as goal

pub batch-requires-clause-refreshed : goal.batch-requires-clause-refreshed
batch-requires-clause-refreshed g c =
    subst (AreRefreshed (policy_in g.P.WeightPolicy.weigh c.args.state.now) c.args.state.now.dims c.args.moves.now.edit c.args.state.now.facts) (sym c.deref-2.ensures.value)
    (record { ids = c.in_ok-pairs.ensures.ids; codes = c.in_ok-pairs.ensures.codes })
