use Rattle.std.proofs.Common.{refl}
use Rattle.schema_text.specs.Schema.{weigh_of}
use Rattle.script_run.specs.Seen.{keeper_seen, sink_seen}
use Rattle.text_lines.specs.Pieces.{whole_lines}
use Rattle.script_run.proofs.Sending.{does_lines-sent}
use Rattle.script_run.proofs.streaming.do_and_send.Goals as goal

pub returns-clause-does : goal.returns-clause-does
returns-clause-does g c =
    let first = sink_seen g.K.Sink.tells c.args.out.now c.do_held.new.out in
    let later = sink_seen g.K.Sink.tells c.do_held.new.out c.send.new.out in
    let keeper = keeper_seen g.Q.Keeper.tells c.args.keeper.now c.do_held.new.keeper in
    does_lines-sent weigh_of (whole_lines c.args.lines.now.lines) c.args.run.now c.do_held.new.run first later keeper _ refl refl c.in_ok-do_held.ensures.does c.send.new.self c.send.result
    (record {
      all = c.send.ensures.all;
      empty = c.send.ensures.empty;
      count = c.send.ensures.count;
      policy = c.send.ensures.policy;
      keeps = c.send.ensures.keeps;
      broken = c.send.ensures.broken;
      stop = c.send.ensures.stop;
    })
