use Rattle.std.proofs.Common.{refl}
use Rattle.std.specs.Prelude.{pos}
use Rattle.cube_base.proofs.Padding.{IsPadded-written}
use Rattle.cube_base.proofs.cols.Cols.new.Goals as goal

pub invariant_of-result : goal.invariant_of-result
invariant_of-result c = rw c.copy_from_slice.ensures.after (IsPadded-written (pos 0) 7 c.args.values.now _ c.if-values-gt-MAX_COLS.false refl)
