use Rattle.std.proofs.Common.{arith, ◌∙◌, length-drop, length-take, ℕ}
use Rattle.cube_base.proofs.Transfers.{Appends-between}
use Rattle.cube_base.proofs.outside.write_from.Goals as goal

pub loop-sent-preserved : goal.loop-sent-preserved
loop-sent-preserved g c = record {
  forward = omega arith;
  within = omega (arith, length-take {A = ℕ}, length-drop {A = ℕ}, c.in_ok-sent.ensures.within);
  bytes = Appends-between _ _ _ _ _ _ _ c.loop-sent.invariant.forward c.loop-sent.invariant.within c.loop-sent.invariant.bytes c.in_ok-sent.ensures.bytes;
  no_fault = c.in_ok-sent.ensures.count ∙ c.loop-sent.invariant.no_fault;
}
