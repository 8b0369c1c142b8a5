use Rattle.std.proofs.Common.{◌++◌, refl}
use Rattle.std.proofs.lemmas.Result.{err_from_is_err_and}
use Rattle.text_lines.specs.Pieces.{last_line, rest_of, whole_lines}
use Rattle.schema_text.specs.Schema.{weigh_of}
use Rattle.script_run.specs.Seen.{keeper_seen, sink_seen}
use Rattle.script_run.proofs.Sending.{ends_lines-broke, ends_lines-finished}
use Rattle.script_run.proofs.streaming.do_end.Goals as goal

pub returns-in_err-do_rest-clause-ends : goal.returns-in_err-do_rest-clause-ends
returns-in_err-do_rest-clause-ends g c =
    let exit = err_from_is_err_and c.from_residual.result c.from_residual.ensures.1 in
    let held = c.args.lines.now.lines in
    let sink = sink_seen g.K.Sink.tells c.args.out.now c.do_rest.new.out in
    let keeper = keeper_seen g.Q.Keeper.tells c.args.keeper.now c.do_rest.new.keeper in
    rw (exit.1, exit.2) (ends_lines-broke weigh_of (whole_lines held ++ last_line (rest_of held)) c.args.run.now c.do_rest.new.run sink keeper _ c.in_err-do_rest.ensures.does)

pub returns-clause-ends : goal.returns-clause-ends
returns-clause-ends g c =
    let held = c.args.lines.now.lines in
    let first = sink_seen g.K.Sink.tells c.args.out.now c.do_rest.new.out in
    let later = sink_seen g.K.Sink.tells c.do_rest.new.out c.finish.new.out in
    let keeper = keeper_seen g.Q.Keeper.tells c.args.keeper.now c.do_rest.new.keeper in
    ends_lines-finished weigh_of (whole_lines held ++ last_line (rest_of held)) c.args.run.now c.do_rest.new.run first later keeper _ refl refl c.in_ok-do_rest.ensures.does c.finish.result
    (record {
      done = c.finish.ensures.done;
      broken = c.finish.ensures.broken;
      stop = c.finish.ensures.stop;
    })
