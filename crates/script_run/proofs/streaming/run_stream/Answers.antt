use Rattle.std.proofs.Common.{[], sym, ap, ◌∙◌, subst, arith}
use Rattle.schema_text.specs.Schema.{weigh_of}
use Rattle.schema_text.specs.declared.word.PolicyWord.{PolicyWord}
use Rattle.script_run.specs.Progress.{HasDone}
use Rattle.script_run.specs.Run.{state_of}
use Rattle.script_run.specs.StreamTurn.{Outside, outside_of}
use Rattle.script_run.proofs.Doing.{none_done}
use Rattle.script_run.proofs.HeldLines.{length-whole_lines}
use Rattle.script_run.proofs.PieceTurns.{stream_start}
use Rattle.script_run.proofs.streaming.run_stream.Goals as goal

pub do_input-ended-requires-clause-few : goal.do_input-ended-requires-clause-few
do_input-ended-requires-clause-few g c = omega (arith, c.requires.short, ap (λ w. w.done) c.new-run.ensures, length-whole_lines c.args.input.lines.lines)

pub returns-clause-ends : goal.returns-clause-ends
returns-clause-ends g c = λ text are.
    let weigh = weigh_of c.args.cube.policy in
    let schema = c.args.cube.schema in
    let first = state_of c.args.cube in
    let start : Outside = outside_of g.S.Source.tells g.K.Sink.tells g.Q.Keeper.tells c.args.source.now c.args.out.now c.args.keeper.now in
    let made = c.new-run.ensures in
    let none = subst (HasDone {P = PolicyWord} weigh schema first [] start.taken start.taken) (sym made) (none_done {P = PolicyWord} weigh start.taken c.args.cube c.args.keeps) in
    let input = c.args.input in
    c.do_input-ended.ensures.ends _ text input.pieces.room start
    (stream_start {P = PolicyWord} weigh_of (record { weigh = weigh; schema = schema; first = first; keeps = c.args.keeps }) text start input.pieces input.lines.lines c.new-run.result
    (ap (λ w. weigh_of w.cube.policy) (sym made)) (ap (λ w. w.keeps) (sym made)) c.requires.ended are none (ap (λ w. w.gathered) made))

pub returns-clause-count : goal.returns-clause-count
returns-clause-count g c = λ keeps. c.do_input-ended.ensures.count (ap (λ w. w.keeps) c.new-run.ensures ∙ keeps)
