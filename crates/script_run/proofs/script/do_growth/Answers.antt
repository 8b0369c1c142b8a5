-- A growth that is not done is answered as its fault says.
use Rattle.std.proofs.Common.{sym}
use Rattle.cube_core.specs.Growth.{growth_difference_in, judge_growth_in}
use Rattle.schema_text.specs.Schema.{weigh_of}
use Rattle.script_run.specs.Run.{growth_step, state_of}
use Rattle.script_run.proofs.Refusing.{growth_judged, not_done, told_same}
use Rattle.script_run.proofs.script.do_growth.Goals as goal

pub returns-in-Err : goal.returns-in-Err
returns-in-Err g c =
    let weigh = weigh_of in
    let cube = c.args.cube.now in
    let keeper = c.args.keeper.now in
    let said = c.in-Err.ensures in
    let same_kept = told_same g.Q.Keeper.tells keeper c.grow.new.keeper said.same_content said.same_journal in
    let answered = rw (sym c.reply_to.ensures) at
    (not_done cube c.grow.new.self _ _ _ _ (judge_growth_in weigh cube c.args.grow.now) (growth_step (weigh cube.policy) cube.schema (state_of cube) c.args.grow.now) (growth_difference_in weigh cube c.args.grow.now) c.in-Err.fault
    (growth_judged weigh cube c.args.grow.now c.in-Err.fault said.fault) said.same same_kept said.count) in
    record {
      reply = answered.reply;
      state = answered.state;
      cells = answered.cells;
      same = answered.same;
      kept = answered.kept;
      same_kept = answered.same_kept;
      count = answered.count;
      stop = answered.stop;
      stays_open = c.grow.ensures.stays_open;
    }
