use Rattle.std.proofs.Common.{arith, ap, refl, sym, ◌∙◌}
use Rattle.text_lines.specs.Text.{lines_of}
use Rattle.cube_cli.proofs.TailLines.{skipped-all, skipped-more}
use Rattle.cube_cli.proofs.schema_alone.first_not_skipped.Goals as goal

pub lines-preserved : goal.lines-preserved
lines-preserved c = record {
  skipped = skipped-more c.lines.count c.in-Some.line.now (lines_of c.in-Some.after.now) (lines_of c.lines.rest.now) (lines_of c.args.text.now) c.lines.invariant.skipped c.in-Some.ensures.line
      (sym c.is_skipped.ensures ∙ c.if-not-is_skipped.false);
  within = omega (arith, c.in-Some.ensures.shorter, c.lines.invariant.within);
}

pub returns : goal.returns
returns c = record {
  place = skipped-all c.lines.count (lines_of c.lines.rest.now) (lines_of c.args.text.now) c.lines.invariant.skipped (ap lines_of (c.in_default.ensures.empty.0 refl));
  within = tt;
}
