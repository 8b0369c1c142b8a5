use Rattle.std.proofs.Common.{◌∙◌, rules, ap, get_or, map}
use Rattle.std.specs.Int.{w64}
use mir.Val.{SFits}
use Rattle.std.proofs.lemmas.Int.{to_z-of_z}
use Rattle.world_law.proofs.Chosen.{made_all, made_next}
use Rattle.world_law.proofs.settle.choose.Goals as goal

-- one row more
pub loop-cell-preserved : goal.loop-cell-preserved
loop-cell-preserved c =
    let own_fits : SFits w64 c.own.result = search rules in
    let weight = (get_or c.as_slice-cell-items.result.now c.loop-cell.cell-index (0, 0)).1 in
    made_next _ _ _ (0, 0) _ _ _ c.loop-cell-test.true (ap (λ value. (weight, value)) c.own.ensures) c.loop-cell.invariant (simp to_z-of_z at c.in_ok-push.ensures.ok)

pub returns : goal.returns
returns c = made_all _ _ _ _ c.loop-cell-test.false c.loop-cell.invariant ∙ ap (map _) c.as_slice-cell-items.ensures
