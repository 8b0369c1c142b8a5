-- Each block before the last is plain, or all the bytes are refused for it.
use Rattle.std.proofs.Common.{◌&&◌, sym, ap, ap₂, ◌∙◌, arith}
use Rattle.std.proofs.lemmas.Bool.Decides.{nat_tests}
use Rattle.std.specs.List.{list_all}
use Rattle.std.specs.Simd.Lanes.{chunk}
use Rattle.text_lines.specs.LineText.{is_plain}
use Rattle.text_lines.proofs.Marks.{list_all-block, list_all-filled, list_all-refused, list_all-rest}
use Rattle.text_lines.proofs.blocks.are_plain.Goals as goal

pub returns-then-bytes-lt-BLOCK : goal.returns-then-bytes-lt-BLOCK
returns-then-bytes-lt-BLOCK c =
    c.is_plain_block.ensures ∙ ap (λ block. list_all is_plain (chunk 0 16 block)) c.fill_block.ensures ∙ list_all-filled c.args.bytes.now (omega arith)

pub returns-then-not-is_plain_block : goal.returns-then-not-is_plain_block
returns-then-not-is_plain_block c =
    sym (list_all-refused is_plain c.args.bytes.now c.loop-at.at (grind (arith, nat_tests, c.is_plain_block-in-loop-at.ensures, c.if-not-is_plain_block.true)))

pub loop-at-preserved : goal.loop-at-preserved
loop-at-preserved c =
    let plain = sym c.is_plain_block-in-loop-at.ensures ∙ grind (arith, nat_tests, c.if-not-is_plain_block.false) in
    list_all-block is_plain c.args.bytes.now c.loop-at.at ∙ ap₂ (λ a b. a && b) c.loop-at.invariant plain

pub returns : goal.returns
returns c =
    c.is_plain_block-2.ensures ∙ list_all-rest is_plain c.args.bytes.now _ c.loop-at.at (omega (arith, c.loop-at-test.false)) (omega arith) c.loop-at.invariant
