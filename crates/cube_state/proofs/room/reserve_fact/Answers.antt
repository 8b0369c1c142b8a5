-- Where an edit gives no fact, or one of an id that is there, no room is wanted.
use Rattle.std.proofs.Common.{◌∙◌, ap, sym}
use Rattle.std.specs.Prelude.{is_some, not}
use Rattle.cube_state.proofs.Reserving.{room-given, room-taken}
use Rattle.cube_state.proofs.room.reserve_fact.Goals as goal
use Rattle.cube_state.proofs.room.reserve_fact.Goals.{else-is_some-via-then-is_some+else-is_none, else-is_some-via-else-is_some}

pub returns-else-is_some-clause-room : goal.returns-else-is_some-clause-room
returns-else-is_some-clause-room c =
    elim c.else-is_some.branch [
      | else-is_some-via-then-is_some+else-is_none w ↦
          room-taken c.args.moves.now.edit c.args.facts.now.facts c.args.facts.now.spare (sym (ap is_some c.requires.takes) ∙ w.is_none.ensures ∙ ap not w.if-is_none.false)
      | else-is_some-via-else-is_some w ↦
          room-given c.args.moves.now.edit c.args.facts.now.facts c.args.facts.now.spare (sym (ap is_some c.requires.gives) ∙ sym c.is_some.ensures ∙ w.if-is_some.false)
    ]
