use Rattle.region_algebra.proofs.Wheels.{IsTurning}
use Rattle.region_algebra.proofs.wheel.turn.Given as goal

abbrev pub invariant-loop-d : goal.invariant-loop-d
invariant-loop-d l = IsTurning l.initial.wheels l.wheels l.dims l.d l.code
