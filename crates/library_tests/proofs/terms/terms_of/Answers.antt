use Rattle.std.proofs.Common.{arith}
use Rattle.std.proofs.lemmas.Int.{ints}
use Rattle.library_tests.proofs.SmallTerms.{fits_more, small_more}
use Rattle.library_tests.proofs.terms.terms_of.Goals as goal

-- the terms so far are small, and so is the value
pub add_term-requires-clause-within : goal.add_term-requires-clause-within
add_term-requires-clause-within c =
    rw c.in_ok-column.ensures (fits_more _ _ c.loop-den.invariant _ _ (omega (arith, ints)) (omega (arith, c.requires)))

pub loop-den-preserved : goal.loop-den-preserved
loop-den-preserved c =
    small_more _ _ c.loop-den.invariant _ _ (omega (arith, ints)) _ (rw c.in_ok-column.ensures at c.in_ok-add_term.ensures.ok)
