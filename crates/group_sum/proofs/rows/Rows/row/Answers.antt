use Rattle.std.proofs.Common.{◌≡◌, ◌+◌, ◌-◌, arith}
use Rattle.group_sum.proofs.Flat.{row_fits, row_is}
use Rattle.group_sum.proofs.rows.Rows.row.Goals as goal

-- the row ends among the numerators
pub start-from-requires : goal.start-from-requires
start-from-requires c =
    let place = rw (← c.self.view_is) at c.requires in
    rw c.deref.ensures.value (row_fits _ _ _ _ c.self.invariant c.args.at place)

-- what is read there is the term's
pub returns-clause-row : goal.returns-clause-row
returns-clause-row c =
    let place = rw (← c.self.view_is) at c.requires in
    let wide : c.start-from.result + c.self.inside.columns - c.start-from.result ≡ c.self.inside.columns = omega arith in
    rw (wide, c.start-from.ensures.start, c.deref-2.ensures.value, ← c.self.view_is) (row_is _ _ _ _ c.self.invariant c.args.at place)
