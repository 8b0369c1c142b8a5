-- An edit that is not done is answered as its fault says.
use Rattle.std.proofs.Common.{sym}
use Rattle.cube_core.specs.Cube.{cube_judgement, difference_in}
use Rattle.cube_model.specs.Facts.{after}
use Rattle.schema_text.specs.Schema.{weigh_of}
use Rattle.script_run.specs.Run.{accepted, state_of}
use Rattle.script_run.proofs.Refusing.{edit_judged, not_done, told_same}
use Rattle.script_run.proofs.script.do_edit_by.Goals as goal

pub returns : goal.returns
returns g c =
    let weigh = weigh_of in
    let cube = c.args.cube.now in
    let keeper = c.args.keeper.now in
    let said = c.in-Err.ensures in
    let same_kept = told_same g.Q.Keeper.tells keeper c.edit_and_count.new.keeper said.same_content said.same_journal in
    let answered = rw (sym c.reply_to.ensures) at
    (not_done cube c.edit_and_count.new.self _ _ _ _ (cube_judgement weigh cube c.args.edit.now) (accepted (weigh cube.policy) cube.schema (state_of cube) (after c.args.edit.now cube.facts)) (difference_in weigh cube c.args.edit.now) c.in-Err.fault
    (edit_judged weigh cube c.args.edit.now c.in-Err.fault said.fault) said.same same_kept said.count) in
    record {
      reply = answered.reply;
      state = answered.state;
      cells = answered.cells;
      same = answered.same;
      kept = answered.kept;
      same_kept = answered.same_kept;
      count = answered.count;
      stop = answered.stop;
      stays_open = c.edit_and_count.ensures.stays_open;
    }
