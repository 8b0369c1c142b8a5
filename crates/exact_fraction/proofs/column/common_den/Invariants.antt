use Rattle.std.proofs.Common.{drop}
use Rattle.exact_fraction.specs.Fraction.{column_fractions, common_den}
use Rattle.exact_fraction.proofs.Passes.{HasCommon}
use Rattle.exact_fraction.proofs.column.common_den.Given as goal

abbrev pub invariant-loop-i : goal.invariant-loop-i
invariant-loop-i l = HasCommon l.common (common_den (column_fractions l.col l.t.terms)) (drop l.i (column_fractions l.col l.t.terms))
