-- What is kept, and what is put behind it.
use Rattle.region_index.proofs.Changing.{among-kept}
use Rattle.region_index.proofs.changes.change_ids.Goals as goal

pub returns-clause-members : goal.returns-clause-members
returns-clause-members c = among-kept _ _ _ _ _ _ c.in_ok-ids_without.ensures c.in_ok-append_ids.ensures c.sort_distinct.ensures.same
