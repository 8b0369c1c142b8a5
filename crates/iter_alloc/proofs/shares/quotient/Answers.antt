-- The product with the inverse is the quotient or one less.
use Rattle.iter_alloc.proofs.shares.quotient.Goals as goal
use Rattle.iter_alloc.proofs.Quotients.{low-fits, low-is, low-is_less}
use Rattle.std.proofs.Common.{◌*◌, ◌/◌, ap, ◌∙◌, arith}

pub overflow_sub-n : goal.overflow_sub-n
overflow_sub-n c = rw (c.from.ensures, c.from-2.ensures) (low-fits c.args.n c.args.mass.sum c.args.mass.inverse c.ranges.n.fits c.requires.some (c.requires.inverse c.requires.some))

pub returns-then-n-low : goal.returns-then-n-low
returns-then-n-low c =
    low-is c.args.n c.args.mass.sum c.args.mass.inverse c.ranges.n.fits c.requires.some (c.requires.inverse c.requires.some) _
    (ap (λ a. a * c.from-2.result / 18446744073709551616) c.from.ensures ∙ ap (λ b. c.args.n * b / 18446744073709551616) c.from-2.ensures) c.if-n-low.true

pub returns-else-n-low : goal.returns-else-n-low
returns-else-n-low c =
    low-is_less c.args.n c.args.mass.sum c.args.mass.inverse c.ranges.n.fits c.requires.some (c.requires.inverse c.requires.some) _
    (ap (λ a. a * c.from-2.result / 18446744073709551616) c.from.ensures ∙ ap (λ b. c.args.n * b / 18446744073709551616) c.from-2.ensures) (omega (arith, c.if-n-low.false))
