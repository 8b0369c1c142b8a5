use Rattle.std.proofs.Common.{rules, ap, ◌∙◌, arith}
use Rattle.std.specs.Int.{w128}
use mir.Val.{SFits}
use Rattle.std.proofs.lemmas.Int.{to_z-of_z}
use Rattle.exact_fraction.specs.Signed.{signed_over, signed_lowest}
use Rattle.exact_fraction.proofs.Columns.{part_is}
use Rattle.exact_fraction.proofs.column.part.Goals as goal

-- what is read is a fraction of the column
pub reduce-requires : goal.reduce-requires
reduce-requires c =
    let fits : SFits w128 c.num_at.result = search rules in
    let read = part_is _ _ _ _ c.requires.terms.terms c.requires.moderate c.requires.place c.requires.column _ _ c.num_at.ensures c.den_at.ensures (omega arith) in
    rw (c.over.ensures ∙ ap (λ z. signed_over z c.from.result) (to_z-of_z _ _ fits) ∙ ap (signed_over c.num_at.result) c.from.ensures) read.0

pub returns : goal.returns
returns c =
    let fits : SFits w128 c.num_at.result = search rules in
    let read = part_is _ _ _ _ c.requires.terms.terms c.requires.moderate c.requires.place c.requires.column _ _ c.num_at.ensures c.den_at.ensures (omega arith) in
    let over_is = c.over.ensures ∙ ap (λ z. signed_over z c.from.result) (to_z-of_z _ _ fits) ∙ ap (signed_over c.num_at.result) c.from.ensures in
    rw (c.reduce.ensures.parts ∙ ap signed_lowest over_is) read.1
