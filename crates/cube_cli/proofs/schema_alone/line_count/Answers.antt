use Rattle.std.proofs.Common.{length, ap, arith}
use Rattle.cube_cli.proofs.schema_alone.line_count.Goals as goal

pub lines-preserved : goal.lines-preserved
lines-preserved c =
    let count = ap length c.in-Some.ensures.line in
    record {
      all = omega (arith, count, c.lines.invariant.all);
      within = omega (arith, c.in-Some.ensures.shorter, c.lines.invariant.within);
    }
