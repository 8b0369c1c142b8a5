-- The kept rows before this place are looked at.
use Rattle.std.proofs.Common.{◌≡◌, take}
use Rattle.store_audit.specs.Mending.{gone_beside}
use Rattle.store_audit.proofs.mending.gone_beside.Given as goal

abbrev pub invariant-loop-rows : goal.invariant-loop-rows
invariant-loop-rows g l = l.gone ≡ gone_beside l.state.facts (take l.rows-index l.kept)
