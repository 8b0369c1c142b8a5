-- An id more has the ends of its fact, if there is one.
use Rattle.std.proofs.Common.{rules, refl, ap, sym, subst, ◌∙◌}
use Rattle.std.specs.Int.{w64}
use Rattle.std.specs.Int.Signed.{nat_abs-le}
use mir.Val.{SFits}
use Rattle.std.proofs.lemmas.Int.{to_z-of_z}
use Rattle.cube_state.specs.declared.ranging.Ends.{Ends}
use Rattle.cube_state.proofs.EitherEnds.{AreOfIds, found-wide, of-id-none, of-id-some}
use Rattle.cube_state.proofs.ranging.found_ends.Goals as goal
use Rattle.cube_state.proofs.ranging.found_ends.Goals.{in-Some, in_default}

pub column_of-requires : goal.column_of-requires
column_of-requires c = found-wide _ c.args.facts.now.facts _ _ c.requires (sym c.get.ensures ∙ c.in-Some.is)

pub loop-id-preserved : goal.loop-id-preserved
loop-id-preserved c =
    elim c.match-get.branch [
      | in-Some w ↦
          let fits : SFits w64 w.column_of.result = search rules in
          of-id-some _ _ c.args.ids.now c.loop-id.id-index 0 c.loop-id-test.true _ c.loop-id.invariant _ refl _ (sym c.get.ensures ∙ w.in-Some.is) _ w.column_of.ensures (nat_abs-le w.column_of.result (search rules)) _
          (ap (λ (ends : Ends). ends.least) w.ends-is ∙ (simp to_z-of_z at w.with_either-ends.ensures.least))
          (ap (λ (ends : Ends). ends.greatest) w.ends-is ∙ (simp to_z-of_z at w.with_either-ends.ensures.greatest))
      | in_default w ↦ subst (AreOfIds _ _ _ _) (sym w.ends-is) (of-id-none _ _ c.args.ids.now c.loop-id.id-index 0 c.loop-id-test.true _ c.loop-id.invariant _ refl _ c.get.ensures w.in_default.is)
    ]
