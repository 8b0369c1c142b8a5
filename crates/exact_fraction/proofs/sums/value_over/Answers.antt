use Rattle.std.proofs.Common.{sym, ◌∙◌}
use Rattle.exact_fraction.specs.Fraction.{column_fractions}
use Rattle.exact_fraction.specs.One.{one_of}
use Rattle.exact_fraction.proofs.Told.{exact_told, sum_wide, one_tells}
use Rattle.exact_fraction.proofs.sums.value_over.Goals as goal

pub returns-in-Some-clause-value : goal.returns-in-Some-clause-value
unfolding one_of
returns-in-Some-clause-value c = c.exact_value.ensures ∙ exact_told _ _ c.in-Some.ensures

pub returns-in-Some-clause-law : goal.returns-in-Some-clause-law
returns-in-Some-clause-law c =
    rw (c.exact_value.ensures ∙ exact_told _ _ c.in-Some.ensures) (one_tells _ c.args.col c.requires.terms)

pub returns-in-None-clause-value : goal.returns-in-None-clause-value
unfolding one_of
returns-in-None-clause-value c = c.wide_value.ensures ∙ sym (sum_wide (column_fractions c.args.col c.args.t.now.terms) c.in-None.ensures)

pub returns-in-None-clause-law : goal.returns-in-None-clause-law
returns-in-None-clause-law c =
    rw (c.wide_value.ensures ∙ sym (sum_wide (column_fractions c.args.col c.args.t.now.terms) c.in-None.ensures)) (one_tells _ c.args.col c.requires.terms)
