use Rattle.std.proofs.Common.{◌+◌, ◌-◌}
use Rattle.fact_keeper.specs.Keeper.{StaysOpen}
use Rattle.text_lines.specs.Input.{INPUT_LIMIT}
use Rattle.feed_run.proofs.LeadEnds.{Leading}
use Rattle.feed_run.proofs.Leads.{leader_of, outlets_of}
use Rattle.feed_run.proofs.lead.LeadRun.lead.Given as goal

-- the lines that were pulled are done and told
abbrev pub invariant-lines : goal.invariant-lines
invariant-lines g l =
    let outlets = outlets_of g.K.Sink.tells g.Q.Keeper.tells in
    record {
      leads : Leading (leader_of l.fn.self) (g.S.Source.tells l.fn.source) (g.S.Source.tells l.source) (outlets l.fn.out l.fn.keeper) (outlets l.out l.keeper) l.pull.input l.self;
      stays_open : StaysOpen (g.Q.Keeper.tells l.fn.keeper) (g.Q.Keeper.tells l.keeper);
    }

-- an input has no more lines than bytes
abbrev pub decreases-lines : goal.decreases-lines
decreases-lines g l = INPUT_LIMIT + 1 - l.self.done
