use Rattle.std.proofs.Common.{◌∷◌, [], Err, Ok, refl, rules}
use Rattle.std.specs.Prelude.{⊤}
use Rattle.std.proofs.lemmas.Result.{err_from_is_err_and}
use Rattle.schema_text.specs.Schema.{weigh_of}
use Rattle.script_run.specs.Seen.{keeper_seen, sink_seen}
use Rattle.script_run.specs.Stream.{DoesLines}
use Rattle.script_run.proofs.Sending.{ends_lines-broke, ends_lines-finished}
use Rattle.script_run.proofs.one_line.end_line.Goals as goal

pub returns-in_err-do_line-clause-ends : goal.returns-in_err-do_line-clause-ends
returns-in_err-do_line-clause-ends g c =
    let exit = err_from_is_err_and c.from_residual.result c.from_residual.ensures.1 in
    let line = c.args.line.now in
    let sink = sink_seen g.K.Sink.tells c.args.out.now c.do_line.new.out in
    let keeper = keeper_seen g.Q.Keeper.tells c.args.keeper.now c.do_line.new.keeper in
    let told = c.in_err-do_line.ensures in
    let does : DoesLines {T = ⊤} weigh_of (line ∷ []) c.args.run.now c.do_line.new.self sink keeper (Err c.in_err-do_line.field-0.0) = search rules in
    rw (exit.1, exit.2) (ends_lines-broke weigh_of (line ∷ []) c.args.run.now c.do_line.new.self sink keeper _ does)

pub returns-clause-ends : goal.returns-clause-ends
returns-clause-ends g c =
    let line = c.args.line.now in
    let first = sink_seen g.K.Sink.tells c.args.out.now c.do_line.new.out in
    let later = sink_seen g.K.Sink.tells c.do_line.new.out c.finish.new.out in
    let keeper = keeper_seen g.Q.Keeper.tells c.args.keeper.now c.do_line.new.keeper in
    let told = c.in_ok-do_line.ensures in
    let does : DoesLines weigh_of (line ∷ []) c.args.run.now c.do_line.new.self first keeper (Ok c.in_ok-do_line.field-0) = search rules in
    ends_lines-finished weigh_of (line ∷ []) c.args.run.now c.do_line.new.self first later keeper _ refl refl does c.finish.result
    (record {
      done = c.finish.ensures.done;
      broken = c.finish.ensures.broken;
      stop = c.finish.ensures.stop;
    })
