-- A block without a mark is passed, and the first mark is the first byte.
use Rattle.std.proofs.Common.{◌≡◌, ◌+◌, ◌-◌, eqb, not, drop, length, map, ap, ◌∙◌, sym, arith}
use Rattle.std.specs.List.{prefix_len}
use Rattle.std.proofs.lemmas.List.{length-drop}
use Rattle.std.proofs.lemmas.List.Sums.{prefix_len-le-length}
use Rattle.std.proofs.lemmas.Bool.Decides.{nat_tests}
use Rattle.std.specs.Simd.Lanes.{chunk, mask_l}
use lib.Count.{count_trailing_zeros}
use Rattle.text_lines.proofs.Marks.{drop-filled, place-here, place-next}
use Rattle.text_lines.proofs.blocks.place_of.Goals as goal

pub returns-then-bytes-lt-BLOCK-clause-place : goal.returns-then-bytes-lt-BLOCK-clause-place
returns-then-bytes-lt-BLOCK-clause-place c =
    let gap = 16 - length c.args.bytes.now in
    let rest = ap (drop (gap + c.args.from)) c.fill_block.ensures ∙ drop-filled gap c.args.from c.args.bytes.now in
    omega (arith, c.place_behind.ensures.place, ap (λ l. prefix_len (λ b. not (eqb b c.args.byte)) l) rest)

pub returns-then-marks-ne0-clause-place : goal.returns-then-marks-ne0-clause-place
returns-then-marks-ne0-clause-place c =
    let marks = c.marks_of-marks.ensures in
    sym (c.loop-at.invariant.0 ∙ sym (ap (λ n. c.loop-at.at + n) (ap (count_trailing_zeros 64) marks
    ∙ place-here (λ b. eqb b c.args.byte) c.args.bytes.now c.loop-at.at (omega (arith, c.loop-at-test.true))
    (λ none. absurd (grind (arith, nat_tests, c.if-marks-ne0.true, marks ∙ none))))))

pub returns-then-marks-ne0-clause-within : goal.returns-then-marks-ne0-clause-within
returns-then-marks-ne0-clause-within c =
    omega (arith, returns-then-marks-ne0-clause-place c, prefix_len-le-length (λ b. not (eqb b c.args.byte)) (drop c.args.from c.args.bytes.now), length-drop c.args.from c.args.bytes.now, c.requires)

pub loop-at-preserved : goal.loop-at-preserved
loop-at-preserved c =
    let none : mask_l (map (λ b. eqb b c.args.byte) (chunk c.loop-at.at 16 c.args.bytes.now)) ≡ 0 =
    sym c.marks_of-marks.ensures ∙ grind (arith, nat_tests, c.if-marks-ne0.false) in
    (c.loop-at.invariant.0 ∙ omega (arith, place-next (λ b. eqb b c.args.byte) c.args.bytes.now c.loop-at.at (omega (arith, c.loop-at-test.true)) none), omega (arith, c.loop-at-test.true))
