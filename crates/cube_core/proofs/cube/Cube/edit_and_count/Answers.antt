-- The batch of the plan is what the edit changes in the cube, whether it was made or not.
use Rattle.std.proofs.Common.{[], ◌∷◌, ◌++◌, ap, ◌∙◌, refl}
use Rattle.std.specs.Prelude.{option_map}
use Rattle.fact_keeper.specs.Batch.{apply_batch}
use Rattle.edit_plan.specs.Plan.{difference}
use Rattle.cube_state.specs.State.{policy_in, refreshed_in}
use Rattle.cube_core.specs.Cube.{edited}
use Rattle.cube_core.proofs.Planned.{content-carried, journal-carried, sets-facts}
use Rattle.cube_core.proofs.Stating.{difference-told}
use Rattle.cube_core.proofs.cube.Cube.edit_and_count.Goals as goal

pub returns-clause-content : goal.returns-clause-content
returns-clause-content g c =
    let state = c.self.inside.state in
    let changes = difference-told g.P.WeightPolicy.weigh c.self.inside.schema state c.self.invariant c.args.self.now c.self.view_is c.args.edit.now _ refl in
    let carried = content-carried _ _ (refreshed_in g.P.WeightPolicy.weigh state c.args.edit.now) (difference (policy_in g.P.WeightPolicy.weigh state) state.dims c.args.edit.now state.facts) _ c.detail_for-detail.result c.in_ok-plan.ensures.lists c.detail_for-detail.ensures.content c.in_ok-lists.ensures.untouched c.in_ok-lists.ensures.content in
    carried ∙ ap (λ b. option_map (apply_batch b) (g.K.Keeper.tells c.args.keeper.now).content) changes

pub returns-clause-journal : goal.returns-clause-journal
returns-clause-journal g c =
    let state = c.self.inside.state in
    let changes = difference-told g.P.WeightPolicy.weigh c.self.inside.schema state c.self.invariant c.args.self.now c.self.view_is c.args.edit.now _ refl in
    let carried = journal-carried _ _ (refreshed_in g.P.WeightPolicy.weigh state c.args.edit.now) (difference (policy_in g.P.WeightPolicy.weigh state) state.dims c.args.edit.now state.facts) _ c.detail_for-detail.result c.in_ok-plan.ensures.lists c.detail_for-detail.ensures.journal c.in_ok-lists.ensures.untouched c.in_ok-lists.ensures.journal in
    carried ∙ ap (λ b. option_map (λ batches. batches ++ b ∷ []) (g.K.Keeper.tells c.args.keeper.now).journal) changes

pub returns-clause-facts : goal.returns-clause-facts
returns-clause-facts g c =
    sets-facts c.in_ok-plan.plan.change c.args.edit.now c.in_ok-plan.ensures.edit c.self.inside.schema _ _ _ c.in_ok-plan.ensures.same c.in_ok-lists.ensures.facts ∙ ap (edited c.args.edit.now) c.self.view_is
