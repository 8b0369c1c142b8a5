-- A change is a put of its fact.
use Rattle.std.proofs.Common.{sym, ◌∙◌}
use Rattle.cube_state.proofs.Installing.{put-after}
use Rattle.cube_state.proofs.state.apply.Goals as goal

pub returns-in-Put : goal.returns-in-Put
returns-in-Put c = c.put.ensures.facts ∙ sym (put-after _ _ _ c.in-Put.is)
