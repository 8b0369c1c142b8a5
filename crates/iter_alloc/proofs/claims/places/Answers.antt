-- One number more.
use Rattle.iter_alloc.proofs.claims.places.Goals as goal
use Rattle.iter_alloc.proofs.Claiming.{range-push}
use Rattle.std.proofs.Common.{[], ◌∷◌, ◌++◌, ap, sym, ◌∙◌, arith}

pub loop-i-preserved : goal.loop-i-preserved
loop-i-preserved c = c.in_ok-push.ensures.items ∙ ap (λ ns. ns ++ c.loop-i.i ∷ []) c.loop-i.invariant ∙ sym (range-push 0 c.loop-i.i c.loop-i.i (omega arith))
