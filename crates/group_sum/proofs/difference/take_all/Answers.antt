use Rattle.std.proofs.Common.{◌≡◌, arith, sym}
use Rattle.group_sum.specs.Place.{term_at}
use Rattle.group_sum.specs.Rows.{row_term}
use Rattle.group_sum.proofs.Leftover.{row_read, row_whole}
use Rattle.group_sum.proofs.Subtracting.{possible_here, some_in, taken_next, taken_none, within_here}
use Rattle.group_sum.proofs.difference.take_all.Goals as goal

-- before the first term none is taken
pub loop-j-init : goal.loop-j-init
loop-j-init c = record { taken = taken_none c.args.left.now c.args.part.now; terms = c.requires.whole }

-- the row that is read is that of the term
read : (c : goal.After-row) → row_term c.den.result c.row.result.now ≡ term_at c.args.part.now.terms c.loop-j.j
read c = row_read _ c.den.result c.row.result.now c.row.ensures.row (sym c.den.ensures)

pub take_term-requires-clause-row : goal.take_term-requires-clause-row
take_term-requires-clause-row c =
    record { is_row = row_whole (term_at c.args.part.now.terms c.loop-j.j) _ c.row.ensures.row; len = omega (arith, c.row.ensures.len, c.requires.columns, c.loop-j.invariant.taken.columns) }

pub take_term-requires-clause-some : goal.take_term-requires-clause-some
take_term-requires-clause-some c = rw c.row.ensures.row (some_in c.args.part.now c.requires.part c.loop-j.j (omega arith))

pub take_term-requires-clause-within : goal.take_term-requires-clause-within
take_term-requires-clause-within c =
    rw (read c, c.den.ensures) (within_here c.args.left.now c.args.part.now c.requires.part.terms c.loop-j.j (omega arith) c.loop-j.left c.loop-j.invariant.taken c.requires.within)

pub take_term-requires-clause-possible : goal.take_term-requires-clause-possible
take_term-requires-clause-possible c =
    rw (read c, c.den.ensures) (possible_here c.args.left.now c.args.part.now c.requires.part.terms c.loop-j.j (omega arith) c.loop-j.left c.loop-j.invariant.taken c.requires.possible)

-- with it the terms up to it are taken
pub loop-j-preserved : goal.loop-j-preserved
loop-j-preserved c =
    let step = rw (row_read (term_at c.args.part.now.terms c.loop-j.j) c.den.result c.row.result.now c.row.ensures.row (sym c.den.ensures)) at c.take_term.ensures.difference in
    let next = taken_next c.args.left.now c.args.part.now c.requires.part.terms c.loop-j.j (omega arith) c.loop-j.left c.loop-j.invariant.taken c.take_term.new.left step in
    record { taken = record { columns = next.columns; counts = next.counts; sums = next.sums }; terms = c.take_term.ensures.terms }
