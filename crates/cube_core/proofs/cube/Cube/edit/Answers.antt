-- The batch of the plan is what the edit changes in the cube.
use Rattle.std.proofs.Common.{◌≡◌, [], ◌∷◌, ◌++◌, refl, ap, ◌∙◌, subst}
use Rattle.std.specs.Prelude.{IfSome, option_map}
use Rattle.fact_keeper.specs.Batch.{apply_batch}
use Rattle.cube_core.specs.Cube.{edited}
use Rattle.cube_core.proofs.Planned.{removes, sets-facts}
use Rattle.cube_core.proofs.Stating.{difference-told}
use Rattle.cube_core.proofs.cube.Cube.edit.Goals as goal

pub returns-clause-content : goal.returns-clause-content
returns-clause-content g c =
    let changes = difference-told g.P.WeightPolicy.weigh c.self.inside.schema c.self.inside.state c.self.invariant c.args.self.now c.self.view_is c.args.edit.now _ refl in
    subst (λ ls. IfSome ls (λ l. (g.K.Keeper.tells c.carry_out.new.keeper).content ≡ option_map (apply_batch l.batch) (g.K.Keeper.tells c.args.keeper.now).content)) c.in_ok-plan.ensures.lists c.in_ok-lists.ensures.content
    ∙ ap (λ b. option_map (apply_batch b) (g.K.Keeper.tells c.args.keeper.now).content) changes

pub returns-clause-journal : goal.returns-clause-journal
returns-clause-journal g c =
    let changes = difference-told g.P.WeightPolicy.weigh c.self.inside.schema c.self.inside.state c.self.invariant c.args.self.now c.self.view_is c.args.edit.now _ refl in
    subst (λ ls. IfSome ls (λ l. (g.K.Keeper.tells c.carry_out.new.keeper).journal ≡ option_map (λ batches. batches ++ l.batch ∷ []) (g.K.Keeper.tells c.args.keeper.now).journal)) c.in_ok-plan.ensures.lists c.in_ok-lists.ensures.journal
    ∙ ap (λ b. option_map (λ batches. batches ++ b ∷ []) (g.K.Keeper.tells c.args.keeper.now).journal) changes

pub returns-clause-facts : goal.returns-clause-facts
returns-clause-facts g c =
    sets-facts c.in_ok-plan.plan.change c.args.edit.now c.in_ok-plan.ensures.edit c.self.inside.schema _ _ _ c.in_ok-plan.ensures.same c.in_ok-lists.ensures.facts ∙ ap (edited c.args.edit.now) c.self.view_is

pub returns-clause-removed : goal.returns-clause-removed
returns-clause-removed g c = c.receipt_of.ensures.removed ∙ removes c.in_ok-plan.plan.change c.args.edit.now c.in_ok-plan.ensures.edit _ c.removed-removed.ensures
