use Rattle.std.proofs.Common.{length}
use Rattle.fact_keeper.specs.Keeper.{StaysOpen}
use Rattle.schema_text.specs.Schema.{weigh_of}
use Rattle.script_run.specs.Seen.{keeper_seen, sink_seen}
use Rattle.script_run.proofs.HeldLines.{SomeDone}
use Rattle.script_run.proofs.streaming.do_held.Given as goal

-- some of the lines that were held whole are done, and the others are held
abbrev pub invariant-lines : goal.invariant-lines
invariant-lines g l =
    record {
      some : SomeDone weigh_of l.fn.lines.lines l.lines.lines l.fn.run l.run (sink_seen g.K.Sink.tells l.fn.out l.out) (keeper_seen g.Q.Keeper.tells l.fn.keeper l.keeper);
      stays_open : StaysOpen (g.Q.Keeper.tells l.fn.keeper) (g.Q.Keeper.tells l.keeper);
    }

-- one line fewer is held
abbrev pub decreases-lines : goal.decreases-lines
decreases-lines g l = length l.lines.lines
