use Rattle.std.proofs.Common.{◌≡◌, ℕ, ◌+◌, ◌≤◌, true, List, length}
use Rattle.std.specs.Prelude.{not, ◌&&◌}
use Rattle.fact_keeper.specs.Keeper.{StaysOpen}
use Rattle.text_lines.specs.Input.{ends_if}
use Rattle.text_lines.specs.Pieces.{whole_lines}
use Rattle.schema_text.specs.Schema.{weigh_of}
use Rattle.script_run.specs.Stream.{Ground}
use Rattle.script_run.specs.StreamTurn.{Outside, Streaming, outside_of, turns_left}
use Rattle.script_run.proofs.streaming.do_input.Given as goal

-- the run stands before the next piece, and the keeper had no fault
abbrev pub invariant-turns : goal.invariant-turns
invariant-turns g l =
    let outside = outside_of g.S.Source.tells g.K.Sink.tells g.Q.Keeper.tells in
    record {
      stands : (ground : Ground) (text : List ℕ) (room : ℕ) (start : Outside) → Streaming weigh_of ground text room start (outside l.fn.source l.fn.out l.fn.keeper) l.fn.pieces l.fn.lines.lines l.fn.run
          → Streaming weigh_of ground text room start (outside l.source l.out l.keeper) l.pieces l.lines.lines l.run;
      few : l.run.done + length (whole_lines l.lines.lines) + l.pieces.room ≤ l.fn.run.done + length (whole_lines l.fn.lines.lines) + l.fn.pieces.room;
      keeps : l.run.keeps ≡ l.fn.run.keeps;
      no_keep_fault : (g.Q.Keeper.tells l.keeper).faults ≡ (g.Q.Keeper.tells l.fn.keeper).faults;
      stays_open : StaysOpen (g.Q.Keeper.tells l.fn.keeper) (g.Q.Keeper.tells l.keeper);
      stays_ended : l.fn.pieces.is_ended ≡ true → l.pieces.is_ended ≡ true;
      ends : (g.S.Source.tells l.source).ends ≡ ends_if (not l.fn.pieces.is_ended && l.pieces.is_ended) (g.S.Source.tells l.fn.source).ends;
    }

abbrev pub decreases-turns : goal.decreases-turns
decreases-turns g l = turns_left l.pieces
