-- The first row is read at place 0.
use Rattle.std.proofs.Common.{ℕ, sym}
use Rattle.cell_weight.specs.Stats.{stat_at}
use Rattle.alloc_rows.proofs.WeightedPart.{first_weight-read}
use Rattle.alloc_rows.proofs.stepping.weigh_first.Goals as goal

pub returns-clause-weight : goal.returns-clause-weight
returns-clause-weight g c =
    let weight = λ (cell : ℕ). g.P.WeightPolicy.weigh c.args.policy.now (stat_at c.args.stats.now cell) in
    rw (c.weight.ensures, c.stat.ensures.stat) (sym (first_weight-read weight c.args.rows.now (0, 0) c.requires.some))
