-- Where the statistics are those of facts, the weights are the facts' too.
use Rattle.alloc_rows.proofs.Spreading.{IsAllocationOf-spread}
use Rattle.alloc_rows.proofs.spread.allocate.Goals as goal

pub returns-clause-of_facts : goal.returns-clause-of_facts
returns-clause-of_facts g c = IsAllocationOf-spread _ _ _ _ _ c.allocate_at.ensures.spread
