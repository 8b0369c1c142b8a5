-- What was made has room once its codes have places.
use Rattle.std.proofs.Common.{ap, sym}
use Rattle.std.specs.Map.{keys_of}
use Rattle.view_store.proofs.Viewing.{room-placed}
use Rattle.view_store.proofs.view.View.stage.Goals as goal

pub returns-clause-room : goal.returns-clause-room
returns-clause-room c =
    room-placed c.self.inside.columns c.self.inside.depths c.self.inside.entries c.reserve_for.new.self c.in_ok-entries.entries.items (keys_of c.as_slice-2.result.now) c.in_ok-reserve_for.ensures.ok
    c.in_ok-entries.ensures.distinct c.in_ok-entries.ensures.whole (ap keys_of (sym c.as_slice-2.ensures.value))
