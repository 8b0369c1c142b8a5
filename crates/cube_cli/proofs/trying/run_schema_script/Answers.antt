-- Nothing is kept, so that nothing is said of the keeper.
use Rattle.std.proofs.Common.{None, ◌∙◌}
use Rattle.schema_text.specs.Schema.{weigh_of}
use Rattle.script_run.specs.Seen.{KeeperSeen, SinkSeen, SourceSeen, sink_seen, source_seen}
use Rattle.cube_cli.proofs.Unkept.{cube_ground, ends_unkept, ground_new, no_cause, none_done}
use Rattle.cube_cli.proofs.trying.run_schema_script.Goals as goal

pub returns-in_default-clause-ends : goal.returns-in_default-clause-ends
returns-in_default-clause-ends g c = λ text are.
    none_done (weigh_of c.args.schema.policy) c.args.schema text c.args.input.pieces.room (g.S.Source.tells c.args.source.now).left (g.S.Source.tells c.args.source.now).faults (g.K.Sink.tells c.args.out.now).taken (g.K.Sink.tells c.args.out.now).faults

pub returns-clause-ends : goal.returns-clause-ends
returns-clause-ends g c = λ text are.
    let source : SourceSeen = source_seen g.S.Source.tells c.args.source.now c.run_stream.new.source in
    let sink : SinkSeen = sink_seen g.K.Sink.tells c.args.out.now c.run_stream.new.out in
    let keeper : KeeperSeen = record { told = record { content = None; journal = None }; told_after = record { content = None; journal = None }; faults = 0; faults_after = 0 } in
    ends_unkept (cube_ground weigh_of c.in-Ok.cube) (weigh_of c.args.schema.policy) c.args.schema text c.args.input.pieces.room source sink keeper c.run_stream.result
    (ground_new weigh_of c.in-Ok.cube c.args.schema.policy c.args.schema (c.in-Ok.ensures.policy ∙ c.policy-policy.ensures.policy) c.in-Ok.ensures.schema c.in-Ok.ensures.facts)
    (c.run_stream.ensures.ends text are)

pub returns-clause-no_keep : goal.returns-clause-no_keep
returns-clause-no_keep g c = no_cause c.run_stream.result c.run_stream.ensures.cause
