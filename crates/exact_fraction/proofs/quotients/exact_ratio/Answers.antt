use Rattle.std.proofs.Common.{sym, ◌∙◌}
use Rattle.exact_fraction.proofs.Totals.{common_some}
use Rattle.exact_fraction.proofs.Ratios.{first_told, second_told, both_told, sum_told, count_told, den_some, size_le, quotient_told}
use Rattle.exact_fraction.proofs.quotients.exact_ratio.Goals as goal

-- the denominators pass the limit
pub returns-in_err-first : goal.returns-in_err-first
returns-in_err-first c =
    rw c.from_residual.ensures (first_told _ c.args.col c.args.scale c.requires.terms c.requires.moderate c.requires.column (sym c.in_err-first.was ∙ c.requires.column_den))

pub returns-in_err-second : goal.returns-in_err-second
returns-in_err-second c =
    rw c.from_residual-in_err-second.ensures (second_told _ c.args.col c.args.scale c.requires.terms c.requires.moderate c.requires.column (sym c.in_err-second.was ∙ c.requires.count_den))

pub lcm_within-requires : goal.lcm_within-requires
lcm_within-requires c = common_some _ 0 c.requires.terms c.requires.moderate c.requires.terms.some _ (sym c.in_ok-second.was ∙ c.requires.count_den)

pub returns-in_err-common : goal.returns-in_err-common
returns-in_err-common c =
    rw c.from_residual-in_err-common.ensures (both_told _ c.args.col c.args.scale c.requires.terms c.requires.moderate c.requires.column _ _ (sym c.in_ok-first.was ∙ c.requires.column_den) (sym c.in_ok-second.was ∙ c.requires.count_den) c.in_err-common.ensures)

-- the sums do
pub returns-in_err-sum : goal.returns-in_err-sum
returns-in_err-sum c =
    rw c.from_residual-in_err-sum.ensures (sum_told _ c.args.col c.args.scale c.requires.terms c.requires.moderate c.requires.column _ _ (sym c.in_ok-first.was ∙ c.requires.column_den) (sym c.in_ok-second.was ∙ c.requires.count_den) _ c.in_ok-common.ensures c.in_err-sum.ensures)

pub returns-in_err-count : goal.returns-in_err-count
returns-in_err-count c =
    rw c.from_residual-in_err-count.ensures (count_told _ c.args.col c.args.scale c.requires.terms c.requires.moderate c.requires.column _ _ (sym c.in_ok-first.was ∙ c.requires.column_den) (sym c.in_ok-second.was ∙ c.requires.count_den) _ c.in_ok-common.ensures c.in_err-count.ensures)

-- the sum over the count is a moderate fraction
pub over_scale-requires-clause-some : goal.over_scale-requires-clause-some
over_scale-requires-clause-some c =
    den_some _ c.args.col c.args.scale c.requires.terms c.requires.moderate c.requires.column _ _ (sym c.in_ok-first.was ∙ c.requires.column_den) (sym c.in_ok-second.was ∙ c.requires.count_den) _ c.in_ok-common.ensures c.requires.some _ _ c.in_ok-sum.ensures c.in_ok-count.ensures _ c.fraction_from.ensures

pub over_scale-requires-clause-size : goal.over_scale-requires-clause-size
over_scale-requires-clause-size c =
    size_le _ c.args.col c.args.scale c.requires.terms c.requires.moderate c.requires.column _ _ (sym c.in_ok-first.was ∙ c.requires.column_den) (sym c.in_ok-second.was ∙ c.requires.count_den) _ c.in_ok-common.ensures c.requires.some _ _ c.in_ok-sum.ensures c.in_ok-count.ensures _ c.fraction_from.ensures

pub returns : goal.returns
returns c =
    quotient_told _ c.args.col c.args.scale c.requires.terms c.requires.moderate c.requires.column _ _ (sym c.in_ok-first.was ∙ c.requires.column_den) (sym c.in_ok-second.was ∙ c.requires.count_den) _ c.in_ok-common.ensures c.requires.some _ _ c.in_ok-sum.ensures c.in_ok-count.ensures _ c.fraction_from.ensures c.over_scale.result (rw c.from.ensures at c.over_scale.ensures)
