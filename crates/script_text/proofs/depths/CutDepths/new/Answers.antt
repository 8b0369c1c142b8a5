use Rattle.std.proofs.Common.{refl}
use Rattle.cube_base.proofs.Padding.{IsPadded-written}
use Rattle.script_text.proofs.depths.CutDepths.new.Goals as goal

pub invariant_of-result : goal.invariant_of-result
invariant_of-result c = rw c.copy_from_slice.ensures.after (IsPadded-written 0 6 c.args.depths.now _ c.if-depths-gt-MAX_DIMS.false refl)
