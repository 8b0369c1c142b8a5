use Rattle.std.proofs.Common.{arith}
use Rattle.std.specs.Simd.Lanes.{chunk}
use Rattle.std.proofs.lemmas.Simd.{length-chunk, zip2_splat, zip2_splat_left, zip2_of_maps}
use lib.Bits.{bit_and, bit_or}
use Rattle.text_lines.proofs.Marks.{below, differs, plain-from_lanes}
use Rattle.text_lines.proofs.blocks.is_plain_block.Goals as goal

pub returns : goal.returns
returns c =
    let block = chunk c.args.at 16 c.args.bytes.now in
    let long = length-chunk c.args.at 16 c.args.bytes.now c.requires in
    let control = zip2_of_maps bit_and _ _ block (zip2_splat below block 16 32 long) (zip2_splat differs block 16 9 long) in
    plain-from_lanes block _ (omega (arith, long)) (zip2_of_maps bit_or _ _ block control (zip2_splat_left below 126 16 block long))
