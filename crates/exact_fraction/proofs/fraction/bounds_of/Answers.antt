use Rattle.std.proofs.Common.{true, false, ap, sym, ◌∙◌, rules}
use Rattle.std.specs.Int.{w128}
use mir.Val.{SFits}
use Rattle.std.proofs.lemmas.Int.{to_z-of_z}
use Rattle.exact_fraction.specs.Signed.{signed}
use Rattle.exact_fraction.proofs.Signs.{floor-true, floor-false, ceiling-true, ceiling-false}
use Rattle.exact_fraction.proofs.fraction.bounds_of.Goals as goal

pub returns-then-p-clause-lo : goal.returns-then-p-clause-lo
returns-then-p-clause-lo c =
    let fits : SFits w128 c.with_sign.result = search rules in
    to_z-of_z _ _ fits ∙ c.with_sign.ensures ∙ ap (signed true) c.next_above-above.ensures ∙ sym (floor-true _ _ _ _ c.units-below.ensures.parts c.units-below.ensures.rest _ c.if-p.true)

pub returns-then-p-clause-hi : goal.returns-then-p-clause-hi
returns-then-p-clause-hi c =
    let fits : SFits w128 c.with_sign-then-p.result = search rules in
    to_z-of_z _ _ fits ∙ c.with_sign-then-p.ensures ∙ sym (ceiling-true _ _ _ _ c.units-below.ensures.parts c.units-below.ensures.rest _ c.if-p.true)

pub returns-else-p-clause-lo : goal.returns-else-p-clause-lo
returns-else-p-clause-lo c =
    let fits : SFits w128 c.with_sign-else-p.result = search rules in
    to_z-of_z _ _ fits ∙ c.with_sign-else-p.ensures ∙ sym (floor-false _ _ _ _ c.units-below.ensures.parts c.units-below.ensures.rest _ c.if-p.false)

pub returns-else-p-clause-hi : goal.returns-else-p-clause-hi
returns-else-p-clause-hi c =
    let fits : SFits w128 c.with_sign-else-p-2.result = search rules in
    to_z-of_z _ _ fits ∙ c.with_sign-else-p-2.ensures ∙ ap (signed false) c.next_above-above.ensures ∙ sym (ceiling-false _ _ _ _ c.units-below.ensures.parts c.units-below.ensures.rest _ c.if-p.false)
