use Rattle.std.proofs.Common.{drop}
use Rattle.exact_fraction.specs.Fraction.{column_fractions}
use Rattle.exact_fraction.proofs.Passes.{HasBounds}
use Rattle.exact_fraction.proofs.column.wide_bounds.Given as goal

abbrev pub invariant-loop-i : goal.invariant-loop-i
invariant-loop-i l = HasBounds (column_fractions l.col l.t.terms) l.i l.all (drop l.i (column_fractions l.col l.t.terms))
