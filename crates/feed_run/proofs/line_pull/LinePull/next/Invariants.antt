use Rattle.std.proofs.Common.{ℕ, ◌+◌, ◌≤◌, List, length}
use Rattle.cube_base.specs.Outside.{SourceTold}
use Rattle.feed_run.specs.Pulling.{Pulled, Pulling, pulls_left}
use Rattle.script_run.specs.StreamTurn.{turns_left}
use Rattle.feed_run.proofs.line_pull.LinePull.next.Given as goal

-- what stood between two pulls stands before the next line, and no more lines are left
abbrev pub invariant-pieces : goal.invariant-pieces
invariant-pieces g l = record {
  pulls : (start : SourceTold) (pulled : List (List ℕ)) → Pulled start (g.S.Source.tells l.fn.source) l.fn.self.input pulled → Pulling start (g.S.Source.tells l.source) l.self.input pulled (length pulled + 1);
  fewer : pulls_left l.self.input ≤ pulls_left l.fn.self.input;
}

abbrev pub decreases-pieces : goal.decreases-pieces
decreases-pieces g l = turns_left l.self.input.pieces
