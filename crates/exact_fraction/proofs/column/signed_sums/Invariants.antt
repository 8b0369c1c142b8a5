use Rattle.std.proofs.Common.{drop}
use Rattle.exact_fraction.specs.Fraction.{column_fractions}
use Rattle.exact_fraction.proofs.Passes.{HasSums}
use Rattle.exact_fraction.proofs.column.signed_sums.Given as goal

abbrev pub invariant-loop-i : goal.invariant-loop-i
invariant-loop-i l = HasSums l.multiple (column_fractions l.col l.t.terms) l.sums (drop l.i (column_fractions l.col l.t.terms))
