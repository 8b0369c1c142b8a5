use Rattle.std.proofs.Common.{sym, subst, Err}
use Rattle.std.specs.Bool.{⊤}
use Rattle.cube_cli.specs.Rows.{OnItsWay, since}
use Rattle.cube_cli.specs.Steps.{WritesText}
use Rattle.cube_cli.proofs.Parts.{not_sent, sent_all}
use Rattle.cube_cli.proofs.row_file.make_room.Goals as goal

pub returns-in-Ok : goal.returns-in-Ok
returns-in-Ok g c = λ start made next some on.
    let before = g.K.Sink.tells c.args.out.now in
    let after = g.K.Sink.tells c.write_line.new.out in
    let wrote = rw c.deref.ensures.value at (rw c.in-Ok.is at c.write_line.ensures) in
    subst (λ waiting. OnItsWay made waiting (since start after)) (sym c.clear.ensures.items) (sent_all start before after made c.args.text.now.items on wrote.0 wrote.1)

pub returns-in-Err : goal.returns-in-Err
returns-in-Err g c = λ start made next some on.
    not_sent start (g.K.Sink.tells c.args.out.now) (g.K.Sink.tells c.write_line.new.out) made c.args.text.now.items on ⊤ next c.in-Err.error some
    (subst (λ text. WritesText {T = ⊤} text (since (g.K.Sink.tells c.args.out.now) (g.K.Sink.tells c.write_line.new.out)) (Err c.in-Err.error)) c.deref.ensures.value (rw c.in-Err.is at c.write_line.ensures))
