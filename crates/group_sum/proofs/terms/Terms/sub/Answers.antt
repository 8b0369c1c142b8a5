use Rattle.group_sum.proofs.Merged.{is_difference}
use Rattle.group_sum.proofs.terms.Terms.sub.Goals as goal

-- what is left, merged with the part, is the whole
pub returns-clause-difference : goal.returns-clause-difference
returns-clause-difference c =
    let is = is_difference _ _ _ c.self.invariant c.in_ok-rows.ensures.difference in
    rw (← c.self.view_is, ← c.other.view_is) (record { columns = is.columns; merges = is.merges })
