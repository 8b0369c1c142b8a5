-- The first mark is that of the first byte of the value.
use Rattle.std.proofs.Common.{◌≡◌, ◌+◌, ◌<◌, eqb, not, drop, map, ap, ◌∙◌, sym, arith}
use Rattle.std.proofs.lemmas.List.{length-drop}
use Rattle.std.proofs.lemmas.List.Sums.{prefix_len-le-length}
use Rattle.std.proofs.lemmas.Bool.Decides.{nat_tests}
use Rattle.std.proofs.lemmas.Simd.{leading_from_mask_l, trailing_mask_l}
use lib.Count.{count_trailing_zeros}
use lib.Lanes.{mask_l}
use Rattle.text_lines.proofs.blocks.place_behind.Goals as goal

pub returns-then-marks-eq0-clause-place : goal.returns-then-marks-eq0-clause-place
returns-then-marks-eq0-clause-place c =
    let rest = drop c.args.from c.args.bytes.now in
    let none : mask_l (map (λ b. eqb b c.args.byte) rest) ≡ 0 = sym c.marks_behind-marks.ensures ∙ grind (arith, nat_tests, c.if-marks-eq0.true) in
    omega (arith, leading_from_mask_l (λ b. eqb b c.args.byte) rest none, length-drop c.args.from c.args.bytes.now, c.requires)

pub returns-clause-place : goal.returns-clause-place
returns-clause-place c =
    let rest = drop c.args.from c.args.bytes.now in
    let marks = c.marks_behind-marks.ensures in
    let some : 0 < mask_l (map (λ b. eqb b c.args.byte) rest) = grind (arith, nat_tests, c.if-marks-eq0.false, marks) in
    ap (λ n. c.args.from + n) (ap (count_trailing_zeros 64) marks
    ∙ trailing_mask_l (λ b. eqb b c.args.byte) 64 rest (omega (arith, length-drop c.args.from c.args.bytes.now, c.requires)) some)

pub returns-clause-within : goal.returns-clause-within
returns-clause-within c = omega (arith, returns-clause-place c, prefix_len-le-length (λ b. not (eqb b c.args.byte)) (drop c.args.from c.args.bytes.now), length-drop c.args.from c.args.bytes.now, c.requires)
