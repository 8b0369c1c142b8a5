-- The marks of a block stand behind those of the bytes before it.
use Rattle.std.proofs.Common.{◌+◌, ◌-◌, ◌*◌, ◌%◌, ◌^◌, ◌≤◌, eqb, length, map, take, drop, ap, ap₂, ◌∙◌, arith}
use Rattle.std.proofs.lemmas.List.{length-take-le}
use lib.Lanes.{mask_l}
use Rattle.text_lines.proofs.Marks.{drop-filled, marks-last, marks-next, marks_fit}
use Rattle.text_lines.proofs.blocks.marks_in.Goals as goal

pub returns-then-bytes-lt-BLOCK : goal.returns-then-bytes-lt-BLOCK
returns-then-bytes-lt-BLOCK c =
    let gap = 16 - length c.args.bytes.now in
    c.marks_behind.ensures
    ∙ ap (λ l. mask_l (map (λ b. eqb b c.args.byte) l)) (ap₂ (λ n l. drop n l) (omega arith) c.fill_block.ensures ∙ drop-filled gap 0 c.args.bytes.now)

pub loop-at-preserved : goal.loop-at-preserved
loop-at-preserved c = (
  ap₂ (λ m n. m + n * 2 ^ c.loop-at.at % 2 ^ 64) c.loop-at.invariant.0 c.marks_of.ensures
      ∙ marks-next (λ b. eqb b c.args.byte) c.args.bytes.now c.loop-at.at (omega (arith, c.loop-at-test.true)) c.requires,
  omega (arith, c.loop-at-test.true),
)

pub overflow_add-marks : goal.overflow_add-marks
overflow_add-marks c =
    let room : c.loop-at.at + 16 ≤ length c.args.bytes.now = omega (arith, c.loop-at-test.true) in
    omega (
      arith,
      ap₂ (λ m n. m + n * 2 ^ c.loop-at.at % 2 ^ 64) c.loop-at.invariant.0 c.marks_of.ensures
          ∙ marks-next (λ b. eqb b c.args.byte) c.args.bytes.now c.loop-at.at room c.requires,
      marks_fit (λ b. eqb b c.args.byte) (take (c.loop-at.at + 16) c.args.bytes.now) (omega (arith, length-take-le (c.loop-at.at + 16) c.args.bytes.now room, c.requires)),
    )

pub overflow_shl-result : goal.overflow_shl-result
overflow_shl-result c = omega (arith, c.loop-at.invariant.1, c.requires)

pub overflow_add-result : goal.overflow_add-result
overflow_add-result c =
    omega (
      arith,
      ap₂ (λ m n. m + n * 2 ^ c.loop-at.at % 2 ^ 64) c.loop-at.invariant.0 c.marks_behind-2.ensures
          ∙ marks-last (λ b. eqb b c.args.byte) c.args.bytes.now c.loop-at.at (omega (arith, c.loop-at.invariant.1)) c.requires,
      marks_fit (λ b. eqb b c.args.byte) c.args.bytes.now c.requires,
    )

pub returns : goal.returns
returns c =
    ap₂ (λ m n. m + n * 2 ^ c.loop-at.at % 2 ^ 64) c.loop-at.invariant.0 c.marks_behind-2.ensures
    ∙ marks-last (λ b. eqb b c.args.byte) c.args.bytes.now c.loop-at.at (omega (arith, c.loop-at.invariant.1)) c.requires
