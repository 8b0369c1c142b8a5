use Rattle.std.proofs.Common.{refl, sym, subst, ◌∙◌, Some}
use Rattle.std.proofs.KnownBytes.{Keeps-refl}
use Rattle.script_run.specs.Seen.{SeenAll, sink_seen}
use Rattle.cube_cli.specs.declared.command.Command.TheVariants.{Drill}
use Rattle.cube_cli.specs.End.{SaysOf}
use Rattle.cube_cli.specs.RunEnd.{end_of_write}
use Rattle.cube_cli.specs.Steps.{WritesText}
use Rattle.cube_cli.proofs.ToldTexts.{drill_wants, drilled}
use Rattle.cube_cli.proofs.drill.drill.Goals as goal

pub returns-in_default : goal.returns-in_default
returns-in_default g c = λ source keeper unread uncalled.
    let seen : SeenAll = record { source = source; sink = sink_seen g.K.Sink.tells c.args.out.now c.args.out.now; keeper = keeper } in
    drill_wants seen unread uncalled c.args.n (Keeps-refl _) refl

pub returns : goal.returns
returns g c = λ source keeper unread uncalled.
    let seen : SeenAll = record { source = source; sink = sink_seen g.K.Sink.tells c.args.out.now c.write_line.new.out; keeper = keeper } in
    rw c.end_of_write.ensures
    (subst (λ refused. SaysOf (Some (Drill c.args.n)) seen (end_of_write c.write_line.result refused 0)) (sym c.in-Ok.ensures.refused)
    (drilled seen unread uncalled c.args.n c.write_line.result (subst (λ line. WritesText line seen.sink c.write_line.result) (c.as_slice.ensures ∙ c.in-Ok.ensures.line) c.write_line.ensures)))
