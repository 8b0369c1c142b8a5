-- A cut at the first LF gives the first line and the rest; with no LF the text is the line.
use Rattle.std.proofs.Common.{◌≢◌, [], arith, sym}
use Rattle.std.proofs.lemmas.Bool.Decides.{nat_tests}
use Rattle.text_lines.proofs.Cuts.{lines_of-none, lines_of-cut, after_line-none, after_line-cut}
use Rattle.text_lines.proofs.lines.first_line_of.Goals as goal

pub returns-in-Some-clause-line : goal.returns-in-Some-clause-line
returns-in-Some-clause-line c = lines_of-cut _ _ _ c.in-Some.ensures.parts c.in-Some.ensures.first

pub returns-in-Some-clause-rest : goal.returns-in-Some-clause-rest
returns-in-Some-clause-rest c = sym (after_line-cut _ _ _ c.in-Some.ensures.parts c.in-Some.ensures.first)

pub returns-in-None-clause-line : goal.returns-in-None-clause-line
returns-in-None-clause-line c =
    let some : c.args.text.now ≢ [] = grind (arith, nat_tests) in
    lines_of-none _ some c.in-None.ensures.none

pub returns-in-None-clause-rest : goal.returns-in-None-clause-rest
returns-in-None-clause-rest c = sym (after_line-none _ c.in-None.ensures.none)
