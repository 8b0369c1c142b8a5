use Rattle.std.proofs.Common.{◌∙◌}
use Rattle.std.specs.Bool.{⊤}
use Rattle.cube_cli.proofs.Parts.{pushed, stops}
use Rattle.cube_cli.proofs.row_file.gather.Goals as goal

pub returns-in_default : goal.returns-in_default
returns-in_default g c = λ start made next is some on. stops ⊤ start (g.K.Sink.tells c.args.out.now) made c.args.text.now.items next on some

pub returns-in-Ok-make_room : goal.returns-in-Ok-make_room
returns-in-Ok-make_room g c = λ start made next is some on.
    pushed start (g.K.Sink.tells c.make_room.new.out) made c.make_room.new.text.items c.push_part.new.text.items c.as_slice-part.result.now next c.push_part.result
    (rw c.in-Ok-make_room.is at (c.make_room.ensures start made next some on)) (c.as_slice-part.ensures ∙ (rw c.in-Ok.is at is)) some c.push_part.ensures.ok c.push_part.ensures.err
