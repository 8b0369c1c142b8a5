use Rattle.std.proofs.Common.{◌-◌, Some, sym, subst, arith}
use Rattle.std.specs.Option.{option_copied}
use Rattle.cube_model.specs.declared.term.Term.{Term}
use Rattle.cube_model.specs.Answer.{term_of}
use Rattle.group_sum.specs.Heads.{HasNoRemainder}
use Rattle.group_sum.specs.Rows.{row_term}
use Rattle.group_sum.specs.Place.{term_at}
use Rattle.group_sum.proofs.Leftover.{none_left_at, row_read, some_left_at}
use Rattle.group_sum.proofs.Subtracting.{first_bad, judged_next, judged_none}
use Rattle.group_sum.proofs.difference.find_bad.Goals as goal

-- before the first term none is judged
pub loop-j-init : goal.loop-j-init
loop-j-init c = let none = judged_none _ c.args.part.now c.requires.part.terms c.requires.whole in record { each = none.each }

-- nothing can be left here, and at smaller denominators something can
pub returns-then-is_bad : goal.returns-then-is_bad
returns-then-is_bad c =
    let refused = none_left_at _ c.den-den.result (option_copied c.find.result) (Some c.row.result.now) c.if-is_bad.ensures in
    let read = row_read (term_at c.args.part.now.terms c.loop-j.j) c.den-den.result c.row.result.now c.row.ensures.row (sym c.den-den.ensures) in
    let of_row : HasNoRemainder (c.args.whole.now.columns - 1) (term_of c.args.whole.now.terms c.den-den.result) (Some (row_term c.den-den.result c.row.result.now)) = rw (c.columns-values.ensures.columns, c.find.ensures) at refused in
    let here = subst (λ (t : Term). HasNoRemainder (c.args.whole.now.columns - 1) (term_of c.args.whole.now.terms t.den) (Some t)) read of_row in
    let bad = first_bad c.args.whole.now c.args.part.now c.requires.part.terms c.loop-j.j (omega arith) c.loop-j.invariant here in
    rw c.den-den.ensures (record { bad = bad.bad; first = bad.first })

-- something can be left here
pub loop-j-preserved : goal.loop-j-preserved
loop-j-preserved c =
    let left = some_left_at _ c.den-den.result (option_copied c.find.result) (Some c.row.result.now) c.if-is_bad.ensures in
    let read = row_read (term_at c.args.part.now.terms c.loop-j.j) c.den-den.result c.row.result.now c.row.ensures.row (sym c.den-den.ensures) in
    let here = rw (c.columns-values.ensures.columns, c.find.ensures, read, c.den-den.ensures) at left in
    let next = judged_next c.args.whole.now c.args.part.now c.requires.part.terms c.loop-j.j (omega arith) c.loop-j.invariant here in
    record { each = next.each }
