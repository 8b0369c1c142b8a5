-- What is left is put over what was put, and there is room for it.
use Rattle.std.proofs.Common.{◌≡◌, ◌+◌, ◌≤◌, drop, length}
use Rattle.fact_records.specs.New.{put_all}
use Rattle.cube_state.proofs.renewing.put_new.Given as goal

abbrev pub invariant-loop-fact : goal.invariant-loop-fact
invariant-loop-fact l = record { facts : put_all (drop l.fact-index l.new) l.all.facts ≡ put_all l.new l.initial.all.facts; room : length l.new ≤ l.all.spare + l.fact-index }
