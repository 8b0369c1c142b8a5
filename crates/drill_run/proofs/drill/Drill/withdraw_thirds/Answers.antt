-- The next fact goes or stays.
use Rattle.std.proofs.Common.{◌+◌, ◌∙◌, ap, arith, refl, sym}
use Rattle.cube_model.specs.declared.edit.Edit.TheVariants.{Withdraw}
use Rattle.drill_run.specs.Doing.{edit_once}
use Rattle.drill_run.specs.Space.{drill_schema}
use Rattle.drill_run.proofs.Folding.{third-goes, third-stays}
use Rattle.drill_run.proofs.drill.Drill.withdraw_thirds.Goals as goal
use Rattle.drill_run.proofs.drill.Drill.withdraw_thirds.Goals.{then-id-eq0+in_ok-edit, else-id-eq0}

pub loop-earlier-preserved : goal.loop-earlier-preserved
loop-earlier-preserved c =
    let earlier = c.loop-earlier.earlier in
    let before = c.loop-earlier.invariant in
    elim c.if-id-eq0.branch [
      | then-id-eq0+in_ok-edit w ↦ record {
        done = w.self-is ∙ w.in_ok-edit.ensures.done ∙ ap (edit_once drill_schema (Withdraw (earlier + 1))) before.done ∙ sym (third-goes drill_schema earlier (earlier + 1) c.args.self.now refl w.if-id-eq0.true);
        few = omega (arith, ap (λ t. t.refreshed) w.self-is, w.in_ok-edit.ensures.grows, before.few);
        few_refused = omega (arith, ap (λ t. t.refused) w.self-is, w.in_ok-edit.ensures.refuses, before.few_refused);
      }
      | else-id-eq0 w ↦ record {
        done = w.self-is ∙ before.done ∙ sym (third-stays drill_schema earlier (earlier + 1) c.args.self.now refl w.if-id-eq0.false);
        few = omega (arith, ap (λ t. t.refreshed) w.self-is, before.few);
        few_refused = omega (arith, ap (λ t. t.refused) w.self-is, before.few_refused);
      }
    ]
