-- What is committed is what the growth changes in the cube.
use Rattle.std.proofs.Common.{[], ◌∷◌, ◌++◌, ap, ◌∙◌}
use Rattle.std.specs.Prelude.{option_map}
use Rattle.fact_keeper.specs.Batch.{apply_batch}
use Rattle.cube_core.specs.declared.cube.Receipt.{Receipt}
use Rattle.cube_core.proofs.GrowthTold.{batch-told, keeper-counted, keeper-told, moved-told, none-judged}
use Rattle.cube_core.proofs.cube.Cube.grow.Goals as goal

pub returns-in-Err-clause-count : goal.returns-in-Err-clause-count
returns-in-Err-clause-count g c = rw c.from.ensures (keeper-counted Receipt (g.K.Keeper.tells c.args.keeper.now).faults (g.K.Keeper.tells c.commit.new.self).faults c.in-Err.fault c.in-Err.ensures.count)

pub returns-in-Err-clause-fault : goal.returns-in-Err-clause-fault
returns-in-Err-clause-fault g c =
    rw c.from.ensures
    (keeper-told g.P.WeightPolicy.weigh c.args.self.now c.args.grow.now c.in-Err.fault
    (none-judged g.P.WeightPolicy.weigh c.self.inside.schema c.self.inside.state c.self.invariant c.args.self.now c.self.view_is c.args.grow.now c.in_ok-schema.schema c.in_ok-schema.ensures.schema c.in_ok-schema.ensures.accepted c.in_ok-growth.ensures.accepted))

pub returns-clause-refreshed : goal.returns-clause-refreshed
returns-clause-refreshed g c =
    moved-told g.P.WeightPolicy.weigh c.self.inside.schema c.self.inside.state c.self.invariant c.args.self.now c.self.view_is c.args.grow.now c.in_ok-schema.schema c.in_ok-schema.ensures.schema c.in_ok-growth.growth.refreshed c.in_ok-growth.ensures.refreshed

pub returns-clause-content : goal.returns-clause-content
returns-clause-content g c =
    let changes =
    batch-told g.P.WeightPolicy.weigh c.self.inside.schema c.self.inside.state c.self.invariant c.args.self.now c.self.view_is c.args.grow.now c.in_ok-schema.schema c.in_ok-schema.ensures.schema c.in_ok-growth.growth.batch c.in_ok-growth.ensures.batch in
    c.in_default.ensures.applied ∙ ap (λ b. option_map (apply_batch b) (g.K.Keeper.tells c.args.keeper.now).content) changes

pub returns-clause-journal : goal.returns-clause-journal
returns-clause-journal g c =
    let changes =
    batch-told g.P.WeightPolicy.weigh c.self.inside.schema c.self.inside.state c.self.invariant c.args.self.now c.self.view_is c.args.grow.now c.in_ok-schema.schema c.in_ok-schema.ensures.schema c.in_ok-growth.growth.batch c.in_ok-growth.ensures.batch in
    c.in_default.ensures.appended ∙ ap (λ b. option_map (λ batches. batches ++ b ∷ []) (g.K.Keeper.tells c.args.keeper.now).journal) changes

pub returns-clause-accepted : goal.returns-clause-accepted
returns-clause-accepted g c =
    none-judged g.P.WeightPolicy.weigh c.self.inside.schema c.self.inside.state c.self.invariant c.args.self.now c.self.view_is c.args.grow.now c.in_ok-schema.schema c.in_ok-schema.ensures.schema c.in_ok-schema.ensures.accepted c.in_ok-growth.ensures.accepted
