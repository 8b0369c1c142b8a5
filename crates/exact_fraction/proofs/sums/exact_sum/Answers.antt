use Rattle.std.proofs.Common.{sym, ◌∙◌}
use Rattle.exact_fraction.proofs.Totals.{common_some, sum_exact}
use Rattle.exact_fraction.proofs.sums.exact_sum.Goals as goal

pub reduce-requires : goal.reduce-requires
reduce-requires c =
    rw c.fraction_from.ensures.den (common_some _ c.args.col c.requires.terms c.requires.moderate c.requires.column _ (sym c.in_ok-multiple.was ∙ c.requires.common))

pub returns : goal.returns
returns c =
    rw c.reduce.ensures.parts (sum_exact _ c.args.col c.requires.terms c.requires.moderate c.requires.column _ (sym c.in_ok-multiple.was ∙ c.requires.common) _ _ c.in_ok-sums.ensures c.fraction_from.ensures)
