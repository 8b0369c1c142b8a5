use Rattle.std.proofs.Common.{◌≡◌, refl, inl, ◌∙◌, subst}
use Rattle.std.proofs.KnownBytes.{Keeps-refl}
use Rattle.cube_cli.specs.Steps.{WritesText}
use Rattle.script_run.specs.Seen.{SinkSeen, sink_seen}
use Rattle.cube_cli.proofs.saying.write_text.Goals as goal

pub returns-in-Ok : goal.returns-in-Ok
returns-in-Ok g c = λ told is.
    let sink : SinkSeen = sink_seen g.K.Sink.tells c.args.out.now c.write_line.new.out in
    let here : c.in-Ok.text ≡ told = rw c.in-Ok.is at is in
    subst (λ text. WritesText text sink c.write_line.result) (c.as_slice.ensures ∙ here) c.write_line.ensures

pub returns-in-Err : goal.returns-in-Err
returns-in-Err g c = λ told is. (refl, inl (Keeps-refl _))
