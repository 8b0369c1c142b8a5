use Rattle.script_run.specs.Seen.{sink_seen}
use Rattle.cube_cli.proofs.Writing.{wrote_line}
use Rattle.cube_cli.proofs.saying.write_line.Goals as goal

pub returns : goal.returns
returns g c = wrote_line c.args.line.now (sink_seen g.K.Sink.tells c.args.out.now c.write_whole.new.out) c.write_whole.result c.write_whole.ensures.ok c.write_whole.ensures.err c.write_whole.ensures.count
