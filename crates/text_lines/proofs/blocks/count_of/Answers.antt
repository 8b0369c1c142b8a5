-- The bytes of a block are counted with those before it, and what is left lies in the last block.
use Rattle.std.proofs.Common.{cond, eqb, take, ap₂, ◌+◌, ◌∙◌, arith}
use Rattle.std.proofs.lemmas.List.{length-take-le}
use Rattle.std.proofs.lemmas.List.Sums.{count_by-le-length, sum_by-take-drop}
use Rattle.text_lines.proofs.Marks.{count_by-marks}
use Rattle.text_lines.proofs.blocks.count_of.Goals as goal

pub loop-at-preserved : goal.loop-at-preserved
loop-at-preserved c =
    (count_by-marks (λ b. eqb b c.args.byte) c.args.bytes.now c.loop-at.at c.loop-at.count c.marks_of.result c.loop-at.invariant.0 c.marks_of.ensures, omega arith)

pub overflow_add-count : goal.overflow_add-count
overflow_add-count c =
    let counted = count_by-marks (λ b. eqb b c.args.byte) c.args.bytes.now c.loop-at.at c.loop-at.count c.marks_of.result c.loop-at.invariant.0 c.marks_of.ensures in
    omega (arith, counted, count_by-le-length (λ b. eqb b c.args.byte) (take (c.loop-at.at + 16) c.args.bytes.now), length-take-le (c.loop-at.at + 16) c.args.bytes.now (omega arith))

pub returns-clause-count : goal.returns-clause-count
returns-clause-count c =
    ap₂ (λ a b. a + b) c.loop-at.invariant.0 c.count_behind-2.ensures ∙ sum_by-take-drop (λ b. cond (eqb b c.args.byte) 1 0) c.args.bytes.now c.loop-at.at
