-- The batch of the plan is what the import changes in the cube.
use Rattle.std.proofs.Common.{◌≡◌, [], ◌∷◌, ◌++◌, None, refl, ap, sym, ◌∙◌, subst}
use Rattle.std.specs.Prelude.{IfSome, option_map}
use Rattle.std.proofs.lemmas.Result.{err_from_is_err_and}
use Rattle.fact_keeper.specs.Batch.{apply_batch}
use Rattle.cube_core.specs.Import.{refused_in_cube}
use Rattle.cube_core.proofs.Stating.{import-fault-told, import-told}
use Rattle.cube_core.proofs.cube.Cube.import.Goals as goal

pub returns-clause-content : goal.returns-clause-content
returns-clause-content g c =
    let changes = import-told g.P.WeightPolicy.weigh c.self.inside.schema c.self.inside.state c.self.invariant c.args.self.now c.self.view_is c.args.seq.now.facts _ refl in
    subst (λ ls. IfSome ls (λ l. (g.K.Keeper.tells c.carry_out.new.keeper).content ≡ option_map (apply_batch l.batch) (g.K.Keeper.tells c.args.keeper.now).content)) c.in_ok-plan.ensures.lists c.in_ok-lists.ensures.content
    ∙ ap (λ b. option_map (apply_batch b) (g.K.Keeper.tells c.args.keeper.now).content) changes

pub returns-clause-journal : goal.returns-clause-journal
returns-clause-journal g c =
    let changes = import-told g.P.WeightPolicy.weigh c.self.inside.schema c.self.inside.state c.self.invariant c.args.self.now c.self.view_is c.args.seq.now.facts _ refl in
    subst (λ ls. IfSome ls (λ l. (g.K.Keeper.tells c.carry_out.new.keeper).journal ≡ option_map (λ batches. batches ++ l.batch ∷ []) (g.K.Keeper.tells c.args.keeper.now).journal)) c.in_ok-plan.ensures.lists c.in_ok-lists.ensures.journal
    ∙ ap (λ b. option_map (λ batches. batches ++ b ∷ []) (g.K.Keeper.tells c.args.keeper.now).journal) changes

pub returns-in_err-plan-clause-fault : goal.returns-in_err-plan-clause-fault
returns-in_err-plan-clause-fault g c =
    let p = err_from_is_err_and c.from_residual-in_err-plan.result c.from_residual-in_err-plan.ensures.1 in
    let well : refused_in_cube c.args.self.now c.args.seq.now ≡ None = rw (← c.self.view_is) (rw (c.shape-shape.ensures.shape, c.space-space.ensures.dims, c.facts-facts.ensures.facts) at (sym c.in_ok-bad.ensures.refused ∙ c.in_default.is)) in
    rw (p.1, p.2) (import-fault-told g.P.WeightPolicy.weigh c.self.inside.schema c.self.inside.state c.self.invariant c.args.self.now c.self.view_is c.args.seq.now well c.in_err-plan.field-0.0 c.in_err-plan.ensures.fault)
