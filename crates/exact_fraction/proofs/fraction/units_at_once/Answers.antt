use Rattle.exact_fraction.specs.Fraction.{UNIT}
use Rattle.exact_fraction.proofs.Places.{units_at_once, units_below}
use Rattle.exact_fraction.proofs.fraction.units_at_once.Goals as goal

pub returns-clause-parts : goal.returns-clause-parts
returns-clause-parts c =
    rw (c.from-3.ensures, c.from-2.ensures, c.from.ensures, c.quotient.ensures, c.remainder.ensures, c.from-wide.ensures) (units_at_once c.args.size c.args.den UNIT c.requires.some)

pub returns-clause-within : goal.returns-clause-within
returns-clause-within c =
    let parts = units_at_once c.args.size c.args.den UNIT c.requires.some in
    rw (c.from-2.ensures, c.from.ensures, c.quotient.ensures, c.remainder.ensures, c.from-wide.ensures) (units_below c.args.size c.args.den UNIT c.requires.some _ _ parts c.requires.size)
