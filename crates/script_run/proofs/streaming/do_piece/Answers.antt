use Rattle.std.proofs.Common.{refl}
use Rattle.std.proofs.lemmas.Result.{err_from_is_err_and}
use Rattle.schema_text.specs.Schema.{weigh_of}
use Rattle.script_run.specs.StreamTurn.{Outside, outside_of}
use Rattle.script_run.proofs.PieceTurns.{does_piece-broke, does_piece-fed, does_piece-no_piece}
use Rattle.script_run.proofs.streaming.do_piece.Goals as goal

pub returns-in_err-do_and_send-clause-does : goal.returns-in_err-do_and_send-clause-does
returns-in_err-do_and_send-clause-does g c =
    let exit = err_from_is_err_and c.from_residual.result c.from_residual.ensures.1 in
    let before : Outside = outside_of g.S.Source.tells g.K.Sink.tells g.Q.Keeper.tells c.args.source.now c.args.out.now c.args.keeper.now in
    let after : Outside = outside_of g.S.Source.tells g.K.Sink.tells g.Q.Keeper.tells c.args.source.now c.do_and_send.new.out c.do_and_send.new.keeper in
    rw (exit.1, exit.2)
    (does_piece-broke weigh_of before after c.args.pieces.now c.args.lines.now.lines c.do_and_send.new.lines.lines c.args.run.now c.do_and_send.new.run _ refl refl c.in_err-do_and_send.ensures.does)

pub returns-in-Err-clause-does : goal.returns-in-Err-clause-does
returns-in-Err-clause-does g c =
    let before : Outside = outside_of g.S.Source.tells g.K.Sink.tells g.Q.Keeper.tells c.args.source.now c.args.out.now c.args.keeper.now in
    let after : Outside = outside_of g.S.Source.tells g.K.Sink.tells g.Q.Keeper.tells c.feed_next.new.source c.do_and_send.new.out c.do_and_send.new.keeper in
    rw (c.at.ensures, c.lines_done.ensures)
    (does_piece-no_piece weigh_of before after c.args.pieces.now c.feed_next.new.self c.args.lines.now.lines c.do_and_send.new.lines.lines c.feed_next.new.cutter.lines c.args.run.now c.do_and_send.new.run _
    c.in_ok-do_and_send.ensures.rest c.in_ok-do_and_send.ensures.sent c.in_ok-do_and_send.ensures.does c.in-Err.stop c.in-Err.ensures.stopped)

pub returns-clause-does : goal.returns-clause-does
returns-clause-does g c =
    let before : Outside = outside_of g.S.Source.tells g.K.Sink.tells g.Q.Keeper.tells c.args.source.now c.args.out.now c.args.keeper.now in
    let after : Outside = outside_of g.S.Source.tells g.K.Sink.tells g.Q.Keeper.tells c.feed_next.new.source c.do_and_send.new.out c.do_and_send.new.keeper in
    does_piece-fed weigh_of before after c.args.pieces.now c.feed_next.new.self c.args.lines.now.lines c.do_and_send.new.lines.lines c.feed_next.new.cutter.lines c.args.run.now c.do_and_send.new.run _
    c.in_ok-do_and_send.ensures.rest c.in_ok-do_and_send.ensures.sent c.in_ok-do_and_send.ensures.does _ c.in_default.ensures.count c.in_default.ensures.fed
