use Rattle.std.proofs.Common.{◌≡◌, ◌≤◌, ◌-◌, length}
use Rattle.std.specs.Io.KnownBytes.{Appends}
use Rattle.cube_base.specs.Outside.{between}
use Rattle.cube_base.proofs.outside.write_from.Given as goal

-- what was sent so far was taken, and there was no fault
abbrev pub invariant-loop-sent : goal.invariant-loop-sent
invariant-loop-sent g l = record {
  forward : l.initial.sent ≤ l.sent;
  within : l.sent ≤ length l.text;
  bytes : Appends (g.K.Sink.tells l.initial.out).taken (g.K.Sink.tells l.out).taken (between l.text l.initial.sent l.sent);
  no_fault : (g.K.Sink.tells l.out).faults ≡ (g.K.Sink.tells l.initial.out).faults;
}

-- what is left to send
abbrev pub decreases-loop-sent : goal.decreases-loop-sent
decreases-loop-sent g l = length l.text - l.sent
