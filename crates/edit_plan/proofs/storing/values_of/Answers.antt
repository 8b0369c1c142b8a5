-- One value more.
use Rattle.std.proofs.Common.{◌++◌, ◌∷◌, [], ap, ◌∙◌, FitsSigned, w64, rules}
use Rattle.std.proofs.lemmas.Int.{to_z-of_z}
use Rattle.edit_plan.proofs.Copying.{copy-next}
use Rattle.edit_plan.proofs.storing.values_of.Goals as goal

pub loop-i-preserved : goal.loop-i-preserved
loop-i-preserved c =
    let fits : FitsSigned w64 c.get.result = search rules in
    copy-next c.args.cols c.loop-i.values c.push.new.self c.loop-i.i c.get.result c.get.ensures c.loop-i.invariant (c.in_ok-push.ensures.ok ∙ ap (λ z. c.loop-i.values ++ z ∷ []) (to_z-of_z w64 c.get.result fits))
