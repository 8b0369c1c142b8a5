use Rattle.std.proofs.Common.{Some, sym, ap, ◌∙◌}
use Rattle.group_sum.proofs.Ascending.{ascends, term_of_at, term_of_gap}
use Rattle.group_sum.proofs.Leftover.{row_read}
use Rattle.group_sum.proofs.difference.find.Goals as goal

-- terms ascend
pub search-requires : goal.search-requires
search-requires c = record { each = ascends _ 1 _ c.requires.terms }

-- the row at the place is that of the term
pub returns-in-Ok : goal.returns-in-Ok
returns-in-Ok c = sym (term_of_at _ 1 _ c.requires.terms c.args.den c.in-Ok.at c.in-Ok.ensures.found ∙ ap Some (sym (row_read _ _ _ c.row.ensures.row c.in-Ok.ensures.found.has_key)))

-- there is none
pub returns-in-Err : goal.returns-in-Err
returns-in-Err c = sym (term_of_gap _ c.args.den _ c.in-Err.ensures.absent)
